use Rattle.std.proofs.Common.{◌≡◌, ◌++◌, length}
use Rattle.rule_core.specs.Ends.{as_read, as_read_after}
use Rattle.rule_core.proofs.line_ends.read_ends.Given as goal

abbrev pub invariant-loop-byte : goal.invariant-loop-byte
invariant-loop-byte l = l.read.items ++ as_read_after l.passed l.rest ≡ as_read l.bytes

abbrev pub decreases-loop-byte : goal.decreases-loop-byte
decreases-loop-byte l = length l.rest
