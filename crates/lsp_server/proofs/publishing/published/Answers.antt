use Rattle.std.proofs.Common.{ap}
use Rattle.json.specs.Print.{print}
use Rattle.lsp_server.specs.Documents.{published}
use Rattle.lsp_server.proofs.Reports.{report_written}
use Rattle.lsp_server.proofs.publishing.published.Goals as goal

pub returns : goal.returns
unfolding published
returns c =
    rw (
      c.into_inner.ensures.items,
      c.in_ok-end_object-2.ensures.room.0,
      c.in_ok-end_object-2.ensures.ok,
      c.in_ok-end_object.ensures.room.0,
      c.in_ok-end_object.ensures.ok,
      c.in_ok-write_document_diagnostics.ensures.before,
      c.in_ok-write_document_diagnostics.ensures.tokens,
      c.in_ok-key.ensures.room.0,
      c.in_ok-key.ensures.ok,
      c.in_ok-write_version.ensures.before,
      c.in_ok-write_version.ensures.tokens,
      c.in_ok-write_told.ensures.before,
      c.in_ok-write_told.ensures.tokens,
      c.in_ok-begin_object.ensures.room.0,
      c.in_ok-begin_object.ensures.ok,
      c.in_ok-begin_notification.ensures.before,
      c.in_ok-begin_notification.ensures.tokens,
      c.new-writer.ensures.before,
      c.new-writer.ensures.tokens,
      c.new.ensures.items,
      ← c.server.view_is,
    )
    (ap print (report_written _ _ _))
