-- For proofs only: what a call gives of a step.
use Rattle.std.specs.Prelude.{◌≡◌, [], Option, Some, None, option_map}
use Rattle.text_bytes.specs.Text.{Text}
use Rattle.json.specs.Json.{Json}
use Rattle.json.specs.Print.{print}
use Rattle.json.specs.Tree.{json_tokens}
use Rattle.lsp_server.specs.Framed.{framed}
use Rattle.lsp_server.specs.Servers.{Server, Step}

-- a value as a content
abbrev pub written : Json → Text
written value = print (json_tokens value)

-- The server is that of the step, and this is the content that the step sends.
pub record Gives (step : Step) (server : Server) (content : Text) : Type 0 where
  pub after : server ≡ step.server
  pub sends : Some content ≡ option_map written step.sent

-- The server is that of the step, and this is the content that the step sends, if it sends one.
pub record GivesSome (step : Step) (server : Server) (content : Option Text) : Type 0 where
  pub after : server ≡ step.server
  pub sends : content ≡ option_map written step.sent

-- the frame of a content, and nothing if there is none
abbrev pub framed_content : Option Text → Text
framed_content None = []
framed_content (Some content) = framed content
