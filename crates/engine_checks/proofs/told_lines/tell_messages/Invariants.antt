use Rattle.std.proofs.Common.{◌≡◌, ◌++◌, drop}
use Rattle.engine_checks.specs.Told.{messages_said, told}
use Rattle.engine_checks.proofs.told_lines.tell_messages.Given as goal

abbrev pub invariant-loop-spot : goal.invariant-loop-spot
invariant-loop-spot l = l.text.items ++ told l.asked (messages_said l.name l.number (drop l.spot-index l.spots)) ≡ l.initial.text.items ++ told l.asked (messages_said l.name l.number l.spots)
