use Rattle.std.proofs.Common.{append_assoc}
use Rattle.lsp_messages.specs.Responses.{notification_begins}
use Rattle.lsp_messages.proofs.responses.begin_notification.Goals as goal

pub returns-clause-tokens : goal.returns-clause-tokens
unfolding notification_begins
returns-clause-tokens c =
    rw (
      c.in_ok-key.ensures.ok,
      c.in_ok-write_word-2.ensures.tokens,
      c.in_ok-write_word.ensures.tokens,
      c.in_ok-begin_object.ensures.ok,
    )
    (simp append_assoc)
