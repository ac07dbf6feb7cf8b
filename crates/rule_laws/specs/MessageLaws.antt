-- The order of the messages about a file.
use Rattle.std.specs.Prelude.{◌≡◌, ◌<◌, ◌⊎◌, ℕ}
use Rattle.file_messages.specs.declared.message.Message.{Message}
use Rattle.file_messages.specs.declared.message.MessageKind.{MessageKind}
use Rattle.file_messages.specs.declared.message.MessageKind.TheVariants.{PropertyWithoutMatch, MatchWithoutProperty, UnindentedLine}
use Rattle.file_messages.specs.declared.message.MessageKind.TheVariants.{NoEquals, EmptyKey, PatternNotSupported}

-- the number in the code of a message about the database, such as 3 in H3; the rest are of rules
abbrev pub code_number : MessageKind → ℕ
code_number PropertyWithoutMatch = 1
code_number MatchWithoutProperty = 2
code_number UnindentedLine = 3
code_number NoEquals = 4
code_number EmptyKey = 5
code_number PatternNotSupported = 6
code_number _ = 0

-- a message is about a line before another's, or about the same line and of a lesser code
abbrev pub ComesBefore : Message → Message → Type 0
ComesBefore m n = (m.line < n.line) ⊎ ((m.line ≡ n.line) × (code_number m.kind < code_number n.kind))
