use Rattle.std.proofs.Common.{drop}
use Rattle.hwdb_core.specs.Parts.{property_found}
use Rattle.hwdb_core.proofs.Joining.{Proceeds}
use Rattle.hwdb_core.proofs.reading.read_properties.Given as goal

abbrev pub invariant-loop-line : goal.invariant-loop-line
invariant-loop-line l = Proceeds (property_found l.file) l.initial.found l.found l.properties (drop l.line-index l.properties)
