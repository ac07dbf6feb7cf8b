use Rattle.hwdb_core.specs.Found.{onto}
use Rattle.hwdb_core.specs.Lines.{lines_of}
use Rattle.hwdb_core.proofs.Walking.{Walks, lines_found}
use Rattle.hwdb_core.proofs.reading.read_file.Given as goal

abbrev pub invariant-loop-line : goal.invariant-loop-line
invariant-loop-line l = Walks l.name (onto l.initial.found (lines_found l.name (lines_of l.file.bytes))) l.found l.open.items l.line-iterator
