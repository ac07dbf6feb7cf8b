use Rattle.hwdb_core.proofs.Earlier.{file_lints}
use Rattle.hwdb_core.proofs.earlier_laws.lines_are_looked_at_by_those_before_them.Goals as goal

pub returns : goal.returns
returns c = file_lints
