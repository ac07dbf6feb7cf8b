use Rattle.std.proofs.Common.{◌≡◌, ◌++◌, drop}
use Rattle.engine_checks.specs.Told.{lints_said, told}
use Rattle.engine_checks.proofs.told_lines.tell_lints.Given as goal

abbrev pub invariant-loop-spot : goal.invariant-loop-spot
invariant-loop-spot l = l.text.items ++ told l.asked (lints_said l.name l.number (drop l.spot-index l.spots)) ≡ l.initial.text.items ++ told l.asked (lints_said l.name l.number l.spots)
