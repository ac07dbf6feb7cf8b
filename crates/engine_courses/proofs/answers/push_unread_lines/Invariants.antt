use Rattle.std.proofs.Common.{◌≡◌, ◌++◌, take, map}
use Rattle.engine_courses.specs.Asked.{unread}
use Rattle.engine_courses.specs.WhyLines.{unread_lines}
use Rattle.engine_courses.proofs.answers.push_unread_lines.Given as goal

abbrev pub invariant-loop-message : goal.invariant-loop-message
invariant-loop-message l = l.lines.items ≡ l.initial.lines.items ++ unread_lines (unread (map (λ t. t.now) l.why) (take l.message-index l.messages) l.rules)
