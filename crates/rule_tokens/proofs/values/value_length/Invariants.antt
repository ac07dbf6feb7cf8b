use Rattle.std.proofs.Common.{◌≡◌, ◌+◌, ◌≤◌, length}
use Rattle.rule_tokens.specs.Reading.{value_length}
use Rattle.rule_tokens.proofs.values.value_length.Given as goal

abbrev pub invariant-loop-after : goal.invariant-loop-after
invariant-loop-after l = (length l.rest ≤ length l.fn.text) × (length l.fn.text + value_length l.fn.escaped l.rest ≡ value_length l.fn.escaped l.fn.text + length l.rest)

abbrev pub decreases-loop-after : goal.decreases-loop-after
decreases-loop-after l = length l.rest
