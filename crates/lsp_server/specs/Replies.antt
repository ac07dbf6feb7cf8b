-- What the server replies to each frame.
use Rattle.std.specs.Prelude.{if◌then◌else◌, [], Option, Some, None}
use Rattle.text_bytes.specs.Text.{Text}
use Rattle.json.specs.Json.{Json}
use Rattle.json.specs.Print.{print}
use Rattle.json.specs.Tree.{json_tokens}
use Rattle.lsp_server.specs.Framed.{framed}
use Rattle.lsp_server.specs.declared.frames.Item.{Item}
use Rattle.lsp_server.specs.declared.replying.Exit.{Exit}
use Rattle.lsp_server.specs.declared.replying.Exit.TheVariants.{AfterShutdown, WithoutShutdown}
use Rattle.lsp_server.specs.declared.replying.Reply.{Reply}
use Rattle.lsp_server.specs.Contents.{exits, step}
use Rattle.lsp_server.specs.Servers.{Server}
use Rattle.lsp_server.specs.declared.server.Phase.{Phase}
use Rattle.lsp_server.specs.declared.server.Phase.TheVariants.{Down}

-- the frame of what is sent, and nothing if nothing is
abbrev pub frame_of : Option Json → Text
frame_of None = []
frame_of (Some value) = framed (print (json_tokens value))

-- how a client exits
abbrev pub exit_by : Phase → Exit
exit_by Down = AfterShutdown
exit_by _ = WithoutShutdown

-- the reply to a frame
abbrev pub reply : Server → Item → Reply
reply server item = record {
  text = frame_of (step server item).sent;
  exit = if exits item then Some (exit_by server.phase) else None;
}

-- the server after a frame
abbrev pub after : Server → Item → Server
after server item = (step server item).server
