use Rattle.std.proofs.Common.{refl}
use Rattle.text_bytes.specs.Safe.{attribute_marks, link_marks, safe}
use Rattle.eval_laws.proofs.SafeBytes.{is_safe-same, safe-is_safe, same-is_safe}
use Rattle.eval_laws.proofs.safe_texts.safe_bytes_stay.Goals as goal

pub returns-clause-same : goal.returns-clause-same
returns-clause-same c = is_safe-same

pub returns-clause-link : goal.returns-clause-link
returns-clause-link c = λ text. (same-is_safe link_marks text refl, is_safe-same link_marks text)

pub returns-clause-attribute : goal.returns-clause-attribute
returns-clause-attribute c = λ text. (same-is_safe attribute_marks text refl, is_safe-same attribute_marks text)

pub returns-clause-link_twice : goal.returns-clause-link_twice
returns-clause-link_twice c = λ text. is_safe-same link_marks (safe link_marks text) (safe-is_safe link_marks text refl)

pub returns-clause-attribute_twice : goal.returns-clause-attribute_twice
returns-clause-attribute_twice c = λ text. is_safe-same attribute_marks (safe attribute_marks text) (safe-is_safe attribute_marks text refl)
