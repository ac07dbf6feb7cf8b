-- The lines of messages: `FILE:LINE: CODE TEXT: WORD`.
use Rattle.std.specs.Prelude.{List, [], ◌∷◌, ◌++◌, flat_map}
use Rattle.text_bytes.specs.Text.{Text}
use Rattle.text_bytes.specs.Names.{newline}
use Rattle.engine_sessions.specs.Places.{place_of, word_part}
use Rattle.file_catalogue.specs.Catalogue.{remark_heading}
use Rattle.file_catalogue.specs.declared.remark.Remark.TheVariants as about
use Rattle.file_messages.specs.declared.message.Message.{Message}

-- the line of a message
unfoldable pub message_line : Message → Text
message_line message = place_of message.file message.line ++ remark_heading (about.Message message.kind) ++ word_part message.word ++ newline ∷ []

-- the lines of messages, in their order
abbrev pub message_lines : List Message → Text
message_lines messages = flat_map message_line messages
