use Rattle.std.proofs.Common.{◌≡◌, take}
use Rattle.rule_core.specs.Counts.{token_count}
use Rattle.rule_core.proofs.counts.token_count.Given as goal

abbrev pub invariant-loop-line : goal.invariant-loop-line
invariant-loop-line l = l.count ≡ token_count (take l.line-index l.lines)
