use Rattle.std.proofs.Common.{drop}
use Rattle.hwdb_core.specs.Parts.{early_found}
use Rattle.hwdb_core.proofs.Joining.{Proceeds}
use Rattle.hwdb_core.proofs.reading.read_early.Given as goal

abbrev pub invariant-loop-line : goal.invariant-loop-line
invariant-loop-line l = Proceeds (early_found l.file) l.initial.found l.found l.early (drop l.line-index l.early)
