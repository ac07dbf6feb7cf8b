-- What the server says it can do.
use Rattle.std.specs.Prelude.{[], ◌∷◌, codes, true}
use Rattle.text_bytes.specs.Text.{Text}
use Rattle.json.specs.Json.{Json, boolean, string}
use Rattle.text_json.specs.Values.{array_of, number_value, object_of}
use Rattle.lsp_messages.specs.declared.counting.Encoding.{Encoding}
use Rattle.lsp_messages.specs.declared.counting.Encoding.TheVariants.{Utf16, Utf8}

-- the name of an encoding
abbrev pub encoding_name : Encoding → Text
encoding_name Utf8 = codes "utf-8"
encoding_name Utf16 = codes "utf-16"

-- how documents come: they are opened and closed, and changed part by part
unfoldable pub synchronization : Json
synchronization = object_of ((codes "openClose", boolean true) ∷ (codes "change", number_value 2) ∷ [])

-- after which characters names can be completed, beside letters
unfoldable pub completion : Json
completion = object_of ((codes "triggerCharacters", array_of (string (codes "$") ∷ string (codes "%") ∷ string (codes "{") ∷ string (codes "\"") ∷ [])) ∷ [])

-- what can be done with code
unfoldable pub code_actions : Json
code_actions = object_of ((codes "codeActionKinds", array_of (string (codes "quickfix") ∷ [])) ∷ [])

-- what the server can do, with characters counted in this encoding
unfoldable pub capabilities : Encoding → Json
capabilities encoding =
    object_of
    ((codes "positionEncoding", string (encoding_name encoding)) ∷ (codes "textDocumentSync", synchronization) ∷ (codes "hoverProvider", boolean true)
    ∷ (codes "completionProvider", completion) ∷ (codes "definitionProvider", boolean true) ∷ (codes "referencesProvider", boolean true)
    ∷ (codes "documentSymbolProvider", boolean true) ∷ (codes "codeActionProvider", code_actions) ∷ (codes "documentFormattingProvider", boolean true) ∷ [])

-- the server
unfoldable pub server_info : Json
server_info = object_of ((codes "name", string (codes "devdry-lsp")) ∷ (codes "version", string (codes "0.1.0")) ∷ [])

-- the answer to `initialize`
unfoldable pub initialized : Encoding → Json
initialized encoding = object_of ((codes "capabilities", capabilities encoding) ∷ (codes "serverInfo", server_info) ∷ [])
