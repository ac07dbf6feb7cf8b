-- The state of a server, and what comes of a content.
use Rattle.std.specs.Prelude.{List, [], Option, Some, None}
use Rattle.text_bytes.specs.Text.{Text}
use Rattle.json.specs.Json.{Json}
use Rattle.lsp_answers.specs.Settings.{Settings, strict}
use Rattle.lsp_messages.specs.declared.documents.Document.{Document}
use Rattle.lsp_messages.specs.declared.counting.Encoding.{Encoding}
use Rattle.lsp_messages.specs.declared.counting.Encoding.TheVariants.{Utf16}
use Rattle.lsp_server.specs.declared.server.Phase.{Phase}
use Rattle.lsp_server.specs.declared.server.Phase.TheVariants.{Fresh}

-- how far client and server have come, the units in which characters are counted, what is reported for documents, and the
-- documents that are open, each with its URI
pub record Server : Type 0 where
  pub phase : Phase
  pub encoding : Encoding
  pub settings : Settings
  pub documents : List (Text × Document)

-- a server that no client has spoken to
abbrev pub first : Server
first = record { phase = Fresh; encoding = Utf16; settings = strict; documents = [] }

-- the server after a content, and the content that it sends then, if it sends one
pub record Step : Type 0 where
  pub server : Server
  pub sent : Option Json

-- it sends this, and stays as it is
abbrev pub sends : Server → Json → Step
sends server content = record { server = server; sent = Some content }

-- it sends nothing, and stays as it is
abbrev pub is_silent : Server → Step
is_silent server = record { server = server; sent = None }
