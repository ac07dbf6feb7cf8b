use Rattle.std.proofs.Common.{◌≡◌, Bool, true, false, ◌||◌, Option, Some, None, cond, refl}
use Rattle.text_bytes.specs.Text.{Text}
use Rattle.text_tables.specs.Texts.{is_among}
use Rattle.json.specs.Json.{Json}
use Rattle.lsp_messages.specs.Changes.{changes_of}
use Rattle.lsp_messages.specs.Parameters.{opened_of, uri_of, version_of}
use Rattle.std.specs.Prelude.{codes}
use Rattle.std.specs.Str.{bytes_eq}
use Rattle.lsp_server.specs.Contents.{notified, told_of}
use Rattle.lsp_server.specs.Documents.{changed, closed, opened}
use Rattle.lsp_server.specs.Laws.{document_methods}
use Rattle.lsp_server.specs.Servers.{Server, Step, is_silent}
use Rattle.lsp_server.specs.declared.server.Phase.{Phase}
use Rattle.lsp_server.specs.declared.server.Phase.TheVariants.{Down, Fresh, Running}
use Rattle.lsp_server.proofs.laws.other_notifications_change_nothing.Goals as goal

-- the last of four, unless a test passes
last_of : (a b c : Bool) (one two three other : Step) → (a || (b || (c || false))) ≡ false → cond a one (cond b two (cond c three other)) ≡ other
last_of false false false one two three other none = refl
last_of true b c one two three other none = absurd cc
last_of false true c one two three other none = absurd cc
last_of false false true one two three other none = absurd cc

heard : (phase : Phase) (server : Server) (method : Text) (params : Option Json) → is_among document_methods method ≡ false
    → notified phase server method params ≡ is_silent server
heard Running server method (Some params) other =
    last_of (bytes_eq method (codes "textDocument/didOpen")) (bytes_eq method (codes "textDocument/didChange"))
    (bytes_eq method (codes "textDocument/didClose")) (opened server (opened_of params) (uri_of params))
    (changed server (uri_of params) (version_of params) (changes_of params)) (closed server (uri_of params)) (is_silent server) other
heard Running server method None other = refl
heard Fresh server method params other = refl
heard Down server method params other = refl

pub returns : goal.returns
returns c server method params other = heard server.phase server method params other
