use Rattle.rule_laws.proofs.Law.{is_read}
use Rattle.rule_laws.proofs.templates.what_is_read_is_what_is_spelled.Goals as goal

pub returns : goal.returns
returns c = is_read
