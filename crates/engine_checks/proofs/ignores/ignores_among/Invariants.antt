use Rattle.text_bytes.specs.Lines.{numbered_lines}
use Rattle.engine_checks.specs.Ignores.{ignores_among}
use Rattle.engine_checks.proofs.Walking.{Walks}
use Rattle.engine_checks.proofs.ignores.ignores_among.Given as goal

abbrev pub invariant-loop-line : goal.invariant-loop-line
invariant-loop-line l = Walks l.kind (ignores_among l.kind l.starts (numbered_lines l.bytes)) l.ignores.items l.rest l.line-iterator
