-- What a message keeps of a line, its number and the text that it is about, and which messages are about style.
use Rattle.std.specs.Prelude.{ℕ, Bool, true, false}
use Rattle.text_bytes.specs.Text.{Text}
use Rattle.text_bytes.specs.Numbers.{capped}
use Rattle.text_bytes.specs.Texts.{word_of}
use Rattle.file_messages.specs.declared.message.Message.{Message}
use Rattle.file_messages.specs.declared.message.MessageKind.{MessageKind}
use Rattle.file_messages.specs.declared.message.MessageKind.TheVariants.{CommaExpected, BlankExpected, ReadAsAssign, LabelUnused}
use Rattle.file_messages.specs.declared.message.MessageKind.TheVariants.{LeadingComma, BlankBeforeComma}

-- the message that something is wrong with a line of a file, reported with a text of that line
abbrev pub message : Text → ℕ → MessageKind → Text → Message
message file number kind text = record { file = file; line = capped number; kind = kind; word = word_of text }

-- whether a kind of message is about style: the S messages
abbrev pub is_style : MessageKind → Bool
is_style CommaExpected = true
is_style BlankExpected = true
is_style ReadAsAssign = true
is_style LabelUnused = true
is_style LeadingComma = true
is_style BlankBeforeComma = true
is_style _ = false
