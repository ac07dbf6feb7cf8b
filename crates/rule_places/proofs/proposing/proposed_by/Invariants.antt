use Rattle.std.proofs.Common.{◌≡◌, ◌++◌, []}
use Rattle.rule_places.specs.Proposed.{proposed_from}
use Rattle.rule_places.specs.WholeLines.{whole_lines}
use Rattle.rule_places.proofs.proposing.proposed_by.Given as goal

abbrev pub invariant-loop-line : goal.invariant-loop-line
invariant-loop-line l = l.written.items ++ proposed_from l.lines l.run.items l.size l.line-iterator ≡ proposed_from l.fn.lines [] 0 (whole_lines l.bytes)
