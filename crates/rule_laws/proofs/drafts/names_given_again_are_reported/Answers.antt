use Rattle.rule_laws.proofs.Again.{is_reported}
use Rattle.rule_laws.proofs.drafts.names_given_again_are_reported.Goals as goal

pub returns : goal.returns
returns c = is_reported
