use Rattle.rule_laws.proofs.WrittenLemmas.{as_written}
use Rattle.rule_laws.proofs.drafts.keys_are_assigned_as_written.Goals as goal

pub returns : goal.returns
returns c = as_written
