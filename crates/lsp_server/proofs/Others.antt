-- The documents that a notification is not about.
use Rattle.std.proofs.Common.{◌≡◌, Bool, true, false, List, Option, Some, None, cond, refl, ap, ◌∙◌}
use Rattle.std.specs.Prelude.{ℕ, codes}
use Rattle.std.specs.Str.{bytes_eq}
use Rattle.text_tables.proofs.Found.{value_removed}
use Rattle.text_tables.specs.Pairs.{value_of}
use Rattle.text_bytes.specs.Text.{Text}
use Rattle.text_tables.specs.Texts.{same_text}
use Rattle.json.specs.Json.{Json}
use Rattle.lsp_messages.specs.Changes.{changes_of}
use Rattle.lsp_messages.specs.Parameters.{OpenedValue, opened_of, uri_of, version_of}
use Rattle.lsp_messages.proofs.Holding.{others_found}
use Rattle.lsp_messages.specs.ChangeValues.{ChangeValue}
use Rattle.lsp_messages.specs.Documents.{text_after}
use Rattle.lsp_messages.specs.declared.documents.Document.{Document}
use Rattle.lsp_messages.specs.declared.documents.Document.TheVariants.{InStep, OutOfStep}
use Rattle.lsp_server.specs.Contents.{notified}
use Rattle.lsp_server.specs.Documents.{changed, changed_by, changed_to, closed, lost, opened}
use Rattle.lsp_server.specs.Servers.{Server, Step, is_silent}
use Rattle.lsp_server.specs.declared.server.Phase.{Phase}
use Rattle.lsp_server.specs.declared.server.Phase.TheVariants.{Down, Fresh, Running}

-- The document of this name stays.
abbrev pub Stays : Server → Text → Step → Type 0
Stays server other step = value_of step.server.documents other ≡ value_of server.documents other

-- another one is opened
open_stays : (server : Server) (other : Text) (asked : Option OpenedValue) (uri : Option Text) (o : OpenedValue) → asked ≡ Some o
    → same_text other o.uri ≡ false → Stays server other (opened server asked uri)
open_stays server other asked uri o is apart =
    ap (λ found. value_of (opened server found uri).server.documents other) is
    ∙ others_found server.documents o.uri (InStep o.version o.text) other apart

-- another one is lost, if it is open
lose_stays : (server : Server) (other uri : Text) (found : Option Document) → same_text other uri ≡ false → Stays server other (lost server uri found)
lose_stays server other uri None apart = refl
lose_stays server other uri (Some document) apart = others_found server.documents uri OutOfStep other apart

-- another one is changed, if its text is known then
change_to_stays : (server : Server) (other uri : Text) (version : Option ℕ) (text : Option Text) → same_text other uri ≡ false
    → Stays server other (changed_to server uri version text)
change_to_stays server other uri version None apart = refl
change_to_stays server other uri version (Some text) apart = others_found server.documents uri (InStep version text) other apart

-- another one is changed, if it is open
change_by_stays : (server : Server) (other uri : Text) (version : Option ℕ) (changes : List ChangeValue) (found : Option Document) → same_text other uri ≡ false
    → Stays server other (changed_by server uri version changes found)
change_by_stays server other uri version changes None apart = refl
change_by_stays server other uri version changes (Some document) apart =
    change_to_stays server other uri version (text_after server.encoding document changes) apart

changes_stay : (server : Server) (other uri : Text) (version : Option ℕ) (changes : Option (List ChangeValue)) → same_text other uri ≡ false
    → Stays server other (changed server (Some uri) version changes)
changes_stay server other uri version None apart = lose_stays server other uri (value_of server.documents uri) apart
changes_stay server other uri version (Some changes) apart = change_by_stays server other uri version changes (value_of server.documents uri) apart

-- another one is closed
close_stays : (server : Server) (other uri : Text) → same_text other uri ≡ false → Stays server other (closed server (Some uri))
close_stays server other uri apart = value_removed server.documents uri other ∙ ap (λ s. cond s None (value_of server.documents other)) apart

-- either of two steps leaves it if both do
either : (b : Bool) (server : Server) (other : Text) (one two : Step) → Stays server other one → Stays server other two → Stays server other (cond b one two)
either true server other one two f g = f
either false server other one two f g = g

-- what is told of a document by its URI, as a change or as its close
told_stays : (server : Server) (other uri : Text) (method : Text) (params : Json) → same_text other uri ≡ false
    → Stays server other (cond (bytes_eq method (codes "textDocument/didChange")) (changed server (Some uri) (version_of params) (changes_of params))
    (cond (bytes_eq method (codes "textDocument/didClose")) (closed server (Some uri)) (is_silent server)))
told_stays server other uri method params apart =
    let close = closed server (Some uri) in
    let last = cond (bytes_eq method (codes "textDocument/didClose")) close (is_silent server) in
    either (bytes_eq method (codes "textDocument/didChange")) server other (changed server (Some uri) (version_of params) (changes_of params)) last
    (changes_stay server other uri (version_of params) (changes_of params) apart)
    (either (bytes_eq method (codes "textDocument/didClose")) server other close (is_silent server) (close_stays server other uri apart) refl)

-- a document was opened
pub opening_stays : (phase : Phase) (server : Server) (params : Json) (o : OpenedValue) (other : Text) → opened_of params ≡ Some o
    → same_text other o.uri ≡ false → Stays server other (notified phase server (codes "textDocument/didOpen") (Some params))
opening_stays Running server params o other is apart = open_stays server other (opened_of params) (uri_of params) o is apart
opening_stays Fresh server params o other is apart = refl
opening_stays Down server params o other is apart = refl

-- a document was changed or closed
pub named_stays : (phase : Phase) (server : Server) (method : Text) (params : Json) (uri other : Text) → bytes_eq method (codes "textDocument/didOpen") ≡ false
    → uri_of params ≡ Some uri → same_text other uri ≡ false → Stays server other (notified phase server method (Some params))
named_stays Running server method params uri other differs is apart =
    ap (λ b. value_of (cond b (opened server (opened_of params) (uri_of params)) (by_uri (uri_of params))).server.documents other) differs
    ∙ ap (λ found. value_of (by_uri found).server.documents other) is
    ∙ told_stays server other uri method params apart
  where
    by_uri : Option Text → Step
    by_uri found =
        cond (bytes_eq method (codes "textDocument/didChange")) (changed server found (version_of params) (changes_of params))
        (cond (bytes_eq method (codes "textDocument/didClose")) (closed server found) (is_silent server))
named_stays Fresh server method params uri other differs is apart = refl
named_stays Down server method params uri other differs is apart = refl
