use Rattle.std.proofs.Common.{[], ap}
use Rattle.json.specs.Print.{print}
use Rattle.lsp_messages.proofs.Written.{response_after}
use Rattle.lsp_server.proofs.requests.response_to.Goals as goal

pub returns : goal.returns
returns c =
    rw (
      c.into_inner.ensures.items,
      c.in_ok-end_object.ensures.room.0,
      c.in_ok-end_object.ensures.ok,
      c.in_ok-write_answer.ensures.before,
      c.in_ok-write_answer.ensures.tokens,
      c.in_ok-begin_response.ensures.before,
      c.in_ok-begin_response.ensures.tokens,
      c.new-writer.ensures.before,
      c.new-writer.ensures.tokens,
      c.new.ensures.items,
      ← c.server.view_is,
    )
    (ap print (response_after [] _ _))
