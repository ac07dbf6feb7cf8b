use Rattle.std.proofs.Common.{◌≡◌}
use Rattle.text_bytes.specs.Lines.{numbered_lines}
use Rattle.rule_core.specs.Ends.{first_too_long}
use Rattle.rule_core.proofs.line_ends.abandoned_at.Given as goal

abbrev pub invariant-loop-line : goal.invariant-loop-line
invariant-loop-line l = first_too_long l.line-iterator ≡ first_too_long (numbered_lines l.bytes)
