-- The notification of what is reported for a document, part by part.
use Rattle.std.proofs.Common.{◌≡◌, ℕ, List, [], ◌∷◌, ◌++◌, Option, Some, None, append_assoc}
use Rattle.std.specs.Prelude.{codes}
use Rattle.json.specs.Json.{Json}
use Rattle.json.specs.Token as token
use Rattle.json.specs.Tree.{json_tokens}
use Rattle.text_json.specs.Listed.{member_tokens}
use Rattle.text_json.specs.Told.{told_text}
use Rattle.lsp_messages.specs.Responses.{notification_begins, notification_of}
use Rattle.lsp_server.specs.Documents.{reported, version_members}

-- it is what is written, with a version or without one
pub report_written : (uri : List ℕ) (version : Option ℕ) (diagnostics : Json)
    → ((((((notification_begins (codes "textDocument/publishDiagnostics") ++ token.begin_object ∷ [])
    ++ token.key (codes "uri") ∷ token.string (told_text uri) ∷ []) ++ member_tokens (version_members version))
    ++ token.key (codes "diagnostics") ∷ []) ++ json_tokens diagnostics) ++ token.end_object ∷ []) ++ token.end_object ∷ []
    ≡ json_tokens (reported uri version diagnostics)
unfolding notification_begins notification_of
report_written uri None diagnostics = simp append_assoc
report_written uri (Some version) diagnostics = simp append_assoc

pub report_without_version : (uri : List ℕ) (diagnostics : Json)
    → (((((notification_begins (codes "textDocument/publishDiagnostics") ++ token.begin_object ∷ [])
    ++ token.key (codes "uri") ∷ token.string (told_text uri) ∷ []) ++ token.key (codes "diagnostics") ∷ [])
    ++ json_tokens diagnostics) ++ token.end_object ∷ []) ++ token.end_object ∷ []
    ≡ json_tokens (reported uri None diagnostics)
unfolding notification_begins notification_of
report_without_version uri diagnostics = simp append_assoc
