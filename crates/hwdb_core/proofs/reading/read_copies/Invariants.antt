use Rattle.std.proofs.Common.{drop}
use Rattle.hwdb_core.specs.Parts.{pair_found}
use Rattle.hwdb_core.proofs.Joining.{Proceeds}
use Rattle.hwdb_core.proofs.reading.read_copies.Given as goal

abbrev pub invariant-loop-line : goal.invariant-loop-line
invariant-loop-line l = Proceeds (pair_found l.file l.pattern) l.initial.found l.found l.properties (drop l.line-index l.properties)
