-- The documents that a server holds: they may be held, whatever comes.
use Rattle.std.proofs.Common.{◌≡◌, Bool, true, false, List, [], ◌∷◌, Option, Some, None, cond, ap, ◌∙◌}
use Rattle.std.specs.Prelude.{ℕ, codes}
use Rattle.std.specs.Str.{bytes_eq}
use Rattle.text_tables.specs.Pairs.{value_of}
use Rattle.text_bytes.specs.Text.{Text}
use Rattle.json.specs.Json.{Json}
use Rattle.lsp_server.specs.declared.frames.Item.{Item}
use Rattle.lsp_server.specs.declared.frames.Item.TheVariants.{Content, NoFrame, TooLong}
use Rattle.lsp_messages.specs.Changes.{changes_of}
use Rattle.lsp_messages.specs.Messages.{MessageValue, invalid, message_of, notification, request, response}
use Rattle.lsp_messages.specs.Parameters.{OpenedValue, opened_of, uri_of, version_of}
use Rattle.lsp_messages.proofs.Holding.{held_without, still_held}
use Rattle.lsp_messages.specs.ChangeValues.{ChangeValue}
use Rattle.lsp_messages.specs.Documents.{may_be_held, text_after}
use Rattle.lsp_messages.specs.declared.documents.Document.{Document}
use Rattle.lsp_messages.specs.declared.documents.Document.TheVariants.{InStep, OutOfStep}
use Rattle.lsp_server.proofs.Answering.{request_answered}
use Rattle.lsp_server.specs.Contents.{notified, step_by, step_of, told_of, value_of_content, step}
use Rattle.lsp_server.specs.Documents.{changed, changed_by, changed_to, closed, lost, opened}
use Rattle.lsp_server.specs.Laws.{after_all}
use Rattle.lsp_server.specs.Replies.{after}
use Rattle.lsp_server.specs.Servers.{Server, Step, is_silent}
use Rattle.lsp_server.specs.declared.server.Phase.{Phase}
use Rattle.lsp_server.specs.declared.server.Phase.TheVariants.{Down, Fresh, Running}

-- What a server holds may be held.
abbrev pub Holds : Server → Type 0
Holds server = may_be_held server.documents ≡ true

lost_held : (server : Server) (uri : Text) (found : Option Document) → Holds server → Holds (lost server uri found).server
lost_held server uri None h = h
lost_held server uri (Some document) h = still_held server.documents uri OutOfStep h

opened_held : (server : Server) (asked : Option OpenedValue) (uri : Option Text) → Holds server → Holds (opened server asked uri).server
opened_held server (Some o) uri h = still_held server.documents o.uri (InStep o.version o.text) h
opened_held server None None h = h
opened_held server None (Some uri) h = lost_held server uri (value_of server.documents uri) h

by_text : (server : Server) (uri : Text) (version : Option ℕ) (text : Option Text) → Holds server → Holds (changed_to server uri version text).server
by_text server uri version None h = h
by_text server uri version (Some text) h = still_held server.documents uri (InStep version text) h

by_changes : (server : Server) (uri : Text) (version : Option ℕ) (changes : List ChangeValue) (found : Option Document) → Holds server
    → Holds (changed_by server uri version changes found).server
by_changes server uri version changes None h = h
by_changes server uri version changes (Some document) h = by_text server uri version (text_after server.encoding document changes) h

changed_held : (server : Server) (uri : Option Text) (version : Option ℕ) (changes : Option (List ChangeValue)) → Holds server
    → Holds (changed server uri version changes).server
changed_held server (Some uri) version (Some changes) h = by_changes server uri version changes (value_of server.documents uri) h
changed_held server (Some uri) version None h = lost_held server uri (value_of server.documents uri) h
changed_held server None version changes h = h

closed_held : (server : Server) (uri : Option Text) → Holds server → Holds (closed server uri).server
closed_held server None h = h
closed_held server (Some uri) h = held_without server.documents uri h

-- either of two steps keeps it if both do
either : (b : Bool) (one other : Step) → Holds one.server → Holds other.server → Holds (cond b one other).server
either true one other f g = f
either false one other f g = g

told_held : (server : Server) (method : Text) (params : Json) → Holds server → Holds (told_of server method params).server
told_held server method params h =
    let close = closed server (uri_of params) in
    let change = changed server (uri_of params) (version_of params) (changes_of params) in
    let last = cond (bytes_eq method (codes "textDocument/didClose")) close (is_silent server) in
    let later = cond (bytes_eq method (codes "textDocument/didChange")) change last in
    either (bytes_eq method (codes "textDocument/didOpen")) (opened server (opened_of params) (uri_of params)) later
    (opened_held server (opened_of params) (uri_of params) h)
    (either (bytes_eq method (codes "textDocument/didChange")) change last (changed_held server (uri_of params) (version_of params) (changes_of params) h)
    (either (bytes_eq method (codes "textDocument/didClose")) close (is_silent server) (closed_held server (uri_of params) h) h))

notified_held : (phase : Phase) (server : Server) (method : Text) (params : Option Json) → Holds server → Holds (notified phase server method params).server
notified_held Running server method (Some params) h = told_held server method params h
notified_held Running server method None h = h
notified_held Fresh server method params h = h
notified_held Down server method params h = h

message_held : (server : Server) (message : MessageValue) → Holds server → Holds (step_of server message).server
message_held server (request id method params) h = ap may_be_held (request_answered server.phase server id method params).1 ∙ h
message_held server (notification method params) h = notified_held server.phase server method params h
message_held server response h = h
message_held server invalid h = h

value_held : (server : Server) (value : Option Json) → Holds server → Holds (step_by server value).server
value_held server None h = h
value_held server (Some value) h = message_held server (message_of value) h

item_held : (server : Server) (item : Item) → Holds server → Holds (after server item)
unfolding step
item_held server (Content content) h = value_held server (value_of_content content) h
item_held server NoFrame h = h
item_held server TooLong h = h

-- so it may after any frames
pub all_held : (server : Server) (items : List Item) → Holds server → Holds (after_all server items)
all_held server [] h = h
all_held server (item ∷ items) h = all_held (after server item) items (item_held server item h)
