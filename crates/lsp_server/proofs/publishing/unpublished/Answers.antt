use Rattle.std.proofs.Common.{refl}
use Rattle.lsp_messages.specs.Responses.{notification_begins, notification_of}
use Rattle.lsp_server.specs.Documents.{unpublished}
use Rattle.lsp_server.proofs.publishing.unpublished.Goals as goal

pub returns : goal.returns
unfolding unpublished notification_begins notification_of
returns c =
    rw (
      c.into_inner.ensures.items,
      c.in_ok-end_object-2.ensures.room.0,
      c.in_ok-end_object-2.ensures.ok,
      c.in_ok-end_object.ensures.room.0,
      c.in_ok-end_object.ensures.ok,
      c.in_ok-end_array.ensures.room.0,
      c.in_ok-end_array.ensures.ok,
      c.in_ok-begin_array.ensures.room.0,
      c.in_ok-begin_array.ensures.ok,
      c.in_ok-key.ensures.room.0,
      c.in_ok-key.ensures.ok,
      c.in_ok-write_told.ensures.before,
      c.in_ok-write_told.ensures.tokens,
      c.in_ok-begin_object.ensures.room.0,
      c.in_ok-begin_object.ensures.ok,
      c.in_ok-begin_notification.ensures.before,
      c.in_ok-begin_notification.ensures.tokens,
      c.new-writer.ensures.before,
      c.new-writer.ensures.tokens,
      c.new.ensures.items,
    )
    (refl)
