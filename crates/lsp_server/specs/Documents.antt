-- What comes of documents that are opened, changed and closed.
use Rattle.std.specs.Prelude.{ℕ, ◌++◌, if◌then◌else◌, List, [], ◌∷◌, Option, Some, None, codes}
use Rattle.text_tables.specs.Pairs.{value_of, with_value, without_name}
use Rattle.text_bytes.specs.Text.{Text}
use Rattle.json.specs.Json.{Json}
use Rattle.text_json.specs.Told.{told}
use Rattle.text_json.specs.Values.{array_of, number_value, object_of}
use Rattle.lsp_answers.specs.Documents.{about_whole, document_diagnostics}
use Rattle.lsp_messages.specs.Parameters.{OpenedValue}
use Rattle.lsp_messages.specs.Responses.{notification_of}
use Rattle.lsp_messages.specs.ChangeValues.{ChangeValue}
use Rattle.lsp_messages.specs.Documents.{may_be_held, text_after, with_document}
use Rattle.lsp_messages.specs.declared.documents.Document.{Document}
use Rattle.lsp_messages.specs.declared.documents.Document.TheVariants.{InStep, OutOfStep}
use Rattle.lsp_server.specs.Servers.{Server, Step, is_silent}
use Rattle.lsp_server.specs.declared.publishing.Reason.{Reason}
use Rattle.lsp_server.specs.declared.publishing.Reason.TheVariants as because

-- a member of an object: its key and its value
abbrev pub Member : Type 0
Member = Text × Json

-- the member with a version, if there is one
abbrev pub version_members : Option ℕ → List Member
version_members None = []
version_members (Some version) = (codes "version", number_value version) ∷ []

-- the notification of what is reported for a document
abbrev pub reported : (uri : Text) → Option ℕ → Json → Json
reported uri version diagnostics =
    notification_of (codes "textDocument/publishDiagnostics")
    (object_of ((codes "uri", told uri) ∷ version_members version ++ (codes "diagnostics", diagnostics) ∷ []))

-- what is reported for a document by the settings of the server
unfoldable pub published : Server → (uri : Text) → Option ℕ → Text → Json
published server uri version text = reported uri version (document_diagnostics server.encoding server.settings uri text)

-- nothing is reported any more for a document that was closed
unfoldable pub unpublished : (uri : Text) → Json
unpublished uri = reported uri None (array_of [])

-- what is said about a document that is not held: since too much is open, or since a change of it was not understood
abbrev pub reason_said : Reason → Text
reason_said because.TooMuch = codes "not checked: 1,024 files or 64 MiB are open, so close some and open this one again"
reason_said because.OutOfStep = codes "out of step: a change of this file was not understood, so open this file again"

-- what is reported for a document that is not held: one diagnostic, which says why
unfoldable pub not_held : (uri : Text) → Reason → Json
not_held uri reason = reported uri None (about_whole (reason_said reason))

-- the text of a document comes in the place of that of its URI, or last
abbrev pub taken : Server → (uri : Text) → Option ℕ → Text → Step
taken server uri version text =
    let document = InStep version text in
    record {
      server = record server { documents = with_document server.documents uri document };
      sent = Some (if may_be_held (with_value server.documents uri document) then published server uri version text else not_held uri because.TooMuch);
    }

-- what comes of what is not understood about a document that is open, or not: it is out of step
abbrev pub lost : Server → (uri : Text) → Option Document → Step
lost server uri None = is_silent server
lost server uri (Some document) = record {
  server = record server { documents = with_document server.documents uri OutOfStep };
  sent = Some (not_held uri because.OutOfStep);
}

-- what comes of `textDocument/didOpen`, by what is opened, if that is understood, and by its URI
abbrev pub opened : Server → Option OpenedValue → Option Text → Step
opened server (Some o) uri = taken server o.uri o.version o.text
opened server None None = is_silent server
opened server None (Some uri) = lost server uri (value_of server.documents uri)

-- what comes of the text of a document after changes, if it is known
abbrev pub changed_to : Server → (uri : Text) → Option ℕ → Option Text → Step
changed_to server uri version None = is_silent server
changed_to server uri version (Some text) = taken server uri version text

-- what comes of changes to a document that is open, or not
abbrev pub changed_by : Server → (uri : Text) → Option ℕ → List ChangeValue → Option Document → Step
changed_by server uri version changes None = is_silent server
changed_by server uri version changes (Some document) = changed_to server uri version (text_after server.encoding document changes)

-- what comes of `textDocument/didChange`, by its URI, its version and its changes, if they are understood
abbrev pub changed : Server → Option Text → Option ℕ → Option (List ChangeValue) → Step
changed server None version changes = is_silent server
changed server (Some uri) version None = lost server uri (value_of server.documents uri)
changed server (Some uri) version (Some changes) = changed_by server uri version changes (value_of server.documents uri)

-- what comes of `textDocument/didClose`
abbrev pub closed : Server → Option Text → Step
closed server None = is_silent server
closed server (Some uri) = record { server = record server { documents = without_name server.documents uri }; sent = Some (unpublished uri) }
