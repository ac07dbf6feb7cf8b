use Rattle.std.proofs.Common.{drop}
use Rattle.hwdb_core.specs.Parts.{match_found}
use Rattle.hwdb_core.proofs.Joining.{Proceeds}
use Rattle.hwdb_core.proofs.reading.read_matches.Given as goal

abbrev pub invariant-loop-line : goal.invariant-loop-line
invariant-loop-line l = Proceeds (match_found l.file l.properties) l.initial.found l.found l.matches (drop l.line-index l.matches)
