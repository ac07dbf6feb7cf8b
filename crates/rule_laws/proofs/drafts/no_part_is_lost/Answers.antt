use Rattle.rule_laws.proofs.Counting.{none_is_lost}
use Rattle.rule_laws.proofs.drafts.no_part_is_lost.Goals as goal

pub returns : goal.returns
returns c = none_is_lost
