use Rattle.engine_reports.proofs.Bounding.{never_too_large}
use Rattle.rule_laws.proofs.bounds.what_is_read_is_never_too_large.Goals as goal

pub returns : goal.returns
returns c = never_too_large
