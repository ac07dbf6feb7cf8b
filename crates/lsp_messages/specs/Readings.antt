-- Serves laws only: what texts are as messages, and what their parameters say.
use Rattle.std.specs.Prelude.{Option, option_and_then, option_map}
use Rattle.text_bytes.specs.Text.{Text}
use Rattle.json.specs.Json.{Json, document}
use Rattle.lsp_messages.specs.Messages.{MessageValue, message_of}

-- the message that a text is
abbrev pub message_in : Text → Option MessageValue
message_in text = option_map message_of (document text)

-- what is read of the value that a text is
abbrev pub read_in : {A : Type 0} → (Json → Option A) → Text → Option A
read_in read text = option_and_then read (document text)
