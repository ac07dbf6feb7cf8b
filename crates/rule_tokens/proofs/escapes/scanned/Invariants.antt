use Rattle.std.proofs.Common.{◌≡◌, ◌<◌, drop}
use Rattle.rule_tokens.specs.Reading.{scan}
use Rattle.rule_tokens.proofs.escapes.scanned.Given as goal

abbrev pub invariant-loop-b : goal.invariant-loop-b
invariant-loop-b l = (l.value < 1114112) × (scan l.fn.base l.value (drop l.b-index l.fn.digits) ≡ scan l.fn.base 0 l.fn.digits)
