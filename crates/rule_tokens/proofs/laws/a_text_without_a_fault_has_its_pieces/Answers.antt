use Rattle.rule_tokens.proofs.Left.{faultless, whole_is_left}
use Rattle.rule_tokens.proofs.laws.a_text_without_a_fault_has_its_pieces.Goals as goal

pub returns-clause-faultless : goal.returns-clause-faultless
returns-clause-faultless c = faultless

pub returns-clause-whole : goal.returns-clause-whole
returns-clause-whole c = whole_is_left
