use Rattle.std.proofs.Common.{◌≡◌, drop}
use Rattle.engine_checks.specs.Told.{are_rising}
use Rattle.engine_checks.proofs.told.are_rising.Given as goal

abbrev pub invariant-loop-line : goal.invariant-loop-line
invariant-loop-line l = are_rising l.last (drop l.line-index l.lines) l.open_at ≡ are_rising 0 l.lines l.open_at
