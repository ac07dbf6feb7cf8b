use Rattle.std.proofs.Common.{◌≡◌, take, filter, not}
use Rattle.file_messages.specs.Messages.{is_style}
use Rattle.engine_reports.specs.Messages.{message_lines}
use Rattle.engine_reports.proofs.messages.plain_message_lines.Given as goal

abbrev pub invariant-loop-message : goal.invariant-loop-message
invariant-loop-message l = l.text.items ≡ message_lines (filter (λ m. not (is_style m.kind)) (take l.message-index l.messages))
