use Rattle.std.proofs.Common.{◌≡◌, take}
use Rattle.engine_reports.specs.Messages.{message_lines}
use Rattle.engine_reports.proofs.messages.message_lines.Given as goal

abbrev pub invariant-loop-message : goal.invariant-loop-message
invariant-loop-message l = l.text.items ≡ message_lines (take l.message-index l.messages)
