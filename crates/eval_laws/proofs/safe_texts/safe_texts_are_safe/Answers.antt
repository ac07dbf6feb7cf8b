use Rattle.std.proofs.Common.{refl}
use Rattle.text_bytes.specs.Safe.{attribute_marks, link_marks}
use Rattle.eval_laws.proofs.SafeBytes.{safe-is_safe}
use Rattle.eval_laws.proofs.safe_texts.safe_texts_are_safe.Goals as goal

pub returns-clause-link : goal.returns-clause-link
returns-clause-link c = λ text. safe-is_safe link_marks text refl

pub returns-clause-attribute : goal.returns-clause-attribute
returns-clause-attribute c = λ text. safe-is_safe attribute_marks text refl
