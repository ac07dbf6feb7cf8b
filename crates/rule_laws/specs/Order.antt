-- The order of the messages about a file.
use Rattle.std.specs.Prelude.{◌≡◌, ◌<◌, ◌≤◌, ◌^◌, ◌-◌, ℕ, List, [], ◌∷◌, ⊤}
use Rattle.file_messages.specs.declared.message.Message.{Message}
use Rattle.file_messages.specs.declared.message.MessageKind.{MessageKind}
use Rattle.file_messages.specs.declared.message.MessageKind.TheVariants as kind

-- the position of a message among those about one line, by its kind: the V by number, then S1 to S3, and S4 last;
-- none of the database is among them
abbrev pub rank : MessageKind → ℕ
rank kind.BadSyntax = 1
rank kind.UnknownKey = 2
rank kind.OperatorNotAllowed = 3
rank kind.WrongAttribute = 4
rank kind.BadValue = 5
rank kind.BadSubstitution = 6
rank kind.NoLaterLabel = 7
rank kind.GivenTwice = 8
rank kind.LineTooLong = 9
rank kind.BadPrefix = 10
rank kind.SetNotSupported = 11
rank kind.OpenAtEnd = 12
rank kind.CommaExpected = 13
rank kind.BlankExpected = 13
rank kind.ReadAsAssign = 13
rank kind.LabelUnused = 14
rank other = 0

-- a message may come before another: its line is not after the other's, and for the same line its kind is not; lines
-- over the greatest number that is reported can't be distinguished
pub record ComesBefore (m n : Message) : Type 0 where
  pub line : m.line ≤ n.line
  pub rank : m.line ≡ n.line → m.line < 2 ^ 32 - 1 → rank m.kind ≤ rank n.kind

-- a message may come before the first of these, if there is one
abbrev pub ComesBeforeAny : Message → List Message → Type 0
ComesBeforeAny m [] = ⊤
ComesBeforeAny m (n ∷ messages) = ComesBefore m n

-- each message may come before the next
abbrev pub AreInOrder : List Message → Type 0
AreInOrder [] = ⊤
AreInOrder (m ∷ messages) = ComesBeforeAny m messages × AreInOrder messages
