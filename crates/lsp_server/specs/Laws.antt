-- What laws say of what a server sends.
use Rattle.std.specs.Prelude.{◌≡◌, ◌⊎◌, List, [], ◌∷◌, fold, Option, Some, codes}
use Rattle.text_bytes.specs.Text.{Text}
use Rattle.text_tables.specs.Pairs.{without_name}
use Rattle.json.specs.Json.{Json}
use Rattle.lsp_server.specs.declared.frames.Item.{Item}
use Rattle.lsp_messages.specs.Parameters.{OpenedValue}
use Rattle.lsp_messages.specs.Responses.{error_of, response_of}
use Rattle.lsp_messages.specs.declared.errors.ErrorCode.{ErrorCode}
use Rattle.lsp_messages.specs.Documents.{with_document}
use Rattle.lsp_messages.specs.declared.documents.Document.{Document}
use Rattle.lsp_messages.specs.declared.documents.Document.TheVariants.{InStep, OutOfStep}
use Rattle.lsp_server.specs.Replies.{after}
use Rattle.lsp_server.specs.Servers.{Server}

-- What is sent is the response to the request of this id, or the error in its place.
abbrev pub IsAnswerTo : (id : Json) → Option Json → Type 0
IsAnswerTo id sent =
    ((result : Json) × (sent ≡ Some (response_of id result))) ⊎ ((code : ErrorCode) × (said : Text) × (sent ≡ Some (error_of (Some id) code said)))

-- the notifications that are about which documents are open, and about what they hold
abbrev pub document_methods : List Text
document_methods = codes "textDocument/didOpen" ∷ codes "textDocument/didChange" ∷ codes "textDocument/didClose" ∷ []

-- the server after frames, one after another
abbrev pub after_all : Server → List Item → Server
after_all server items = fold after server items

-- what is held of a document that was opened
abbrev pub as_document : OpenedValue → Document
as_document opened = InStep opened.version opened.text

-- a server for which a document is out of step, and one for which it is not open
abbrev pub out_of_step : Server → (uri : Text) → Server
out_of_step server uri = record server { documents = with_document server.documents uri OutOfStep }

abbrev pub not_open : Server → (uri : Text) → Server
not_open server uri = record server { documents = without_name server.documents uri }
