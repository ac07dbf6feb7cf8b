-- The request `initialize`.
use Rattle.std.specs.Prelude.{if◌then◌else◌, Option, Some, None, Result, Ok, Err}
use Rattle.text_bytes.specs.Text.{Text}
use Rattle.json.specs.Json.{Json}
use Rattle.text_json.specs.Told.{told_text}
use Rattle.lsp_messages.specs.Offers.{offers_utf8}
use Rattle.lsp_messages.specs.Options.{OptionsValue, absent, words, malformed, options_of}
use Rattle.lsp_messages.specs.Responses.{error_of, response_of}
use Rattle.lsp_messages.specs.declared.errors.ErrorCode.TheVariants.{InvalidParams}
use Rattle.lsp_answers.specs.Options.{settings_of}
use Rattle.lsp_answers.specs.Settings.{Settings, strict}
use Rattle.lsp_messages.specs.declared.counting.Encoding.{Encoding}
use Rattle.lsp_messages.specs.declared.counting.Encoding.TheVariants.{Utf16, Utf8}
use Rattle.lsp_server.specs.Capabilities.{initialized}
use Rattle.lsp_server.specs.Errors.{error_for, said_of}
use Rattle.lsp_server.specs.Servers.{Server, Step, sends}
use Rattle.lsp_server.specs.declared.server.Phase.TheVariants.{Running}

-- bytes of UTF-8 are counted if the client can, and else units of UTF-16, which each client can
abbrev pub encoding_of : Json → Encoding
encoding_of params = if offers_utf8 params then Utf8 else Utf16

-- the settings that a client asks for: those of `verify --strict` if it gives no options, and else those of its words
abbrev pub settings_asked : OptionsValue → Result Settings Text
settings_asked absent = Ok strict
settings_asked (words ws) = settings_of ws
settings_asked malformed = Err (said_of InvalidParams)

-- what comes of `initialize` by the settings that its parameters ask for, or by what is wrong with these
abbrev pub begun_with : Server → (id params : Json) → Result Settings Text → Step
begun_with server id params (Ok settings) = record {
  server = record server { phase = Running; encoding = encoding_of params; settings = settings };
  sent = Some (response_of id (initialized (encoding_of params)));
}
begun_with server id params (Err said) = sends server (error_of (Some id) InvalidParams (told_text said))

-- what comes of `initialize` by its parameters
unfoldable pub begun : Server → (id : Json) → Option Json → Step
begun server id None = sends server (error_for (Some id) InvalidParams)
begun server id (Some params) = begun_with server id params (settings_asked (options_of params))
