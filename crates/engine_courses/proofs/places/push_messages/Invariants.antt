use Rattle.std.proofs.Common.{◌≡◌, ◌++◌, take, map}
use Rattle.engine_courses.proofs.places.push_messages.Given as goal

abbrev pub invariant-loop-message : goal.invariant-loop-message
invariant-loop-message l = l.places.items ≡ l.initial.places.items ++ map (λ m. (m.file, m.line)) (take l.message-index l.messages)
