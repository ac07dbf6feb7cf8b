use Rattle.std.proofs.Common.{◌≡◌, Option, Some, None, option_map, refl}
use Rattle.json.specs.Json.{Json}
use Rattle.lsp_server.specs.Contents.{step}
use Rattle.lsp_server.specs.Given.{framed_content, written}
use Rattle.lsp_server.specs.Replies.{frame_of}
use Rattle.lsp_server.proofs.replies.ServerReplying.reply.Goals as goal

-- a value is sent in a frame
sent_framed : (sent : Option Json) → framed_content (option_map written sent) ≡ frame_of sent
sent_framed None = refl
sent_framed (Some value) = refl

pub returns-clause-replies : goal.returns-clause-replies
returns-clause-replies c =
    rw (
      c.in_ok-frame_of.ensures,
      c.in_ok-outcome.ensures.step.sends,
      sent_framed (step c.args.self.now c.args.item).sent,
      c.exit_at.ensures,
      c.in_ok-outcome.ensures.exits,
      ← c.self.view_is,
    )
    refl
