use Rattle.std.proofs.Common.{◌≡◌, ◌++◌, drop, map}
use Rattle.engine_checks.specs.Told.{database_said, told}
use Rattle.engine_checks.proofs.updates.messages_told.Given as goal

abbrev pub invariant-loop-message : goal.invariant-loop-message
invariant-loop-message l = l.text.items ++ told l.asked (map database_said (drop l.message-index l.messages)) ≡ told l.asked (map database_said l.messages)
