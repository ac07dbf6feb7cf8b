-- What is true of the findings of a file and of its lines.
use Rattle.std.specs.Prelude.{◌≡◌, ◌<◌, ◌⊎◌, ℕ, ◌+◌, ◌-◌, ◌==◌, Bool, true, false, not, ◌&&◌, ◌||◌, List, [], ◌∷◌, ◌++◌, take, drop, length}
use Rattle.std.specs.List.{AllByRecursion}
use Rattle.text_bytes.specs.Text.{Text}
use Rattle.text_bytes.specs.Lines.{NumberedLine, numbered_lines}
use Rattle.text_bytes.specs.Names.{backslash, double_quote}
use Rattle.text_bytes.specs.Texts.{ends_in}
use Rattle.file_messages.specs.declared.message.Message.{Message}
use Rattle.file_messages.specs.declared.message.MessageKind.{MessageKind}
use Rattle.file_messages.specs.declared.message.MessageKind.TheVariants.{BadSyntax, BadPrefix, UnknownKey, OperatorNotAllowed, WrongAttribute, BadValue}
use Rattle.file_messages.specs.declared.message.MessageKind.TheVariants.{BadSubstitution, NoLaterLabel, GivenTwice, LineTooLong, SetNotSupported}
use Rattle.file_messages.specs.declared.message.MessageKind.TheVariants.{ReservedProperty, NameWithoutEffect, UnknownBuiltin, MatchesExclude}
use Rattle.file_messages.specs.declared.message.MessageKind.TheVariants.{SaidTwice, RuleWithoutEffect, ResultBeforeProgram, EmptyValue}
use Rattle.file_messages.specs.declared.message.MessageKind.TheVariants.{BadAttributeSubstitution, AttributeElsewhere, OldSubsystemName, AssignExpected}
use Rattle.file_messages.specs.declared.message.MessageKind.TheVariants.{UnknownAccount, FileAbandoned, CommaExpected, BlankExpected}
use Rattle.file_messages.specs.declared.message.MessageKind.TheVariants.{ReadAsAssign, OpenAtEnd, LabelUnused, LeadingComma, BlankBeforeComma}
use Rattle.rule_tokens.specs.Grammar.{AllAre, BeginsOther, is_gap_byte}
use Rattle.rule_core.specs.Ends.{is_too_long}
use Rattle.rule_core.specs.Lines.{kept, piece_of}
use Rattle.rule_core.specs.Rules.{message}
use Rattle.rule_core.specs.Style.{commas}
use Rattle.rule_places.specs.Shown.{IsAmong}
use Rattle.rule_places.specs.declared.kept.Place.{Place}
use Rattle.rule_places.specs.declared.placed_finding.PlacedFinding.{PlacedFinding}
use Rattle.rule_types.specs.declared.spot.Spot.{Spot}

-- a finding of a file of this name, as its message
abbrev pub as_message : Text → PlacedFinding MessageKind → Message
as_message name p = message name p.begins p.kind p.word

-- whether what is said is reported with the very text that it is about: a key, an attribute, the letters before a
-- quote, or the rest of a line that is not a token
abbrev pub is_about_text : MessageKind → Bool
is_about_text BadSyntax = true
is_about_text BadPrefix = true
is_about_text UnknownKey = true
is_about_text OperatorNotAllowed = true
is_about_text WrongAttribute = true
is_about_text CommaExpected = true
is_about_text BlankExpected = true
is_about_text ReadAsAssign = true
is_about_text BlankBeforeComma = true
is_about_text ReservedProperty = true
is_about_text MatchesExclude = true
is_about_text SaidTwice = true
is_about_text ResultBeforeProgram = true
is_about_text EmptyValue = true
is_about_text BadAttributeSubstitution = true
is_about_text AttributeElsewhere = true
is_about_text AssignExpected = true
is_about_text _ = false

-- whether what is said is about a value
abbrev pub is_about_value : MessageKind → Bool
is_about_value BadValue = true
is_about_value BadSubstitution = true
is_about_value SetNotSupported = true
is_about_value GivenTwice = true
is_about_value NoLaterLabel = true
is_about_value LabelUnused = true
is_about_value NameWithoutEffect = true
is_about_value UnknownBuiltin = true
is_about_value OldSubsystemName = true
is_about_value UnknownAccount = true
is_about_value _ = false

-- if what is said is reported with the text that it is about, and this is not empty, the place has as many bytes as
-- the text, and the text is in the line there
abbrev pub IsTextThere : Text → Spot MessageKind → Type 0
IsTextThere line s = is_about_text s.kind ≡ true → 0 < length s.word → (s.size ≡ length s.word) × (take s.size (drop s.start line) ≡ s.word)

-- whether a `\` comes directly before each quote of a text that follows this byte
abbrev pub escapes_quotes : ℕ → Text → Bool
escapes_quotes before [] = true
escapes_quotes before (b ∷ text) = (not (b == double_quote) || before == backslash) && escapes_quotes b text

-- the part has a quote directly before it and directly after it, and each quote within has a `\` directly before it
pub record IsQuoted (line : Text) (start size : ℕ) : Type 0 where
  pub opens : take 1 (drop (start - 1) line) ≡ double_quote ∷ []
  pub closes : take 1 (drop (start + size) line) ≡ double_quote ∷ []
  pub within : escapes_quotes double_quote (take size (drop start line)) ≡ true

-- whether what is said is about where a jump leads
abbrev pub is_about_jump : MessageKind → Bool
is_about_jump NoLaterLabel = true
is_about_jump LabelUnused = true
is_about_jump _ = false

-- if what is said is about a value, the value is between its quotes; for a jump only if the rule has a name for it,
-- without which nothing is said about it for a file
abbrev pub IsQuotedThere : Text → Spot MessageKind → Type 0
IsQuotedThere line s = is_about_value s.kind ≡ true → (is_about_jump s.kind ≡ true → 0 < length s.word) → IsQuoted line s.start s.size

-- the part is what follows the last token: all from a quote up to the line's end, which is blanks and commas
pub record IsAfterTokens (line : Text) (start size : ℕ) : Type 0 where
  pub following : take 1 (drop (start - 1) line) ≡ double_quote ∷ []
  pub ends : start + size ≡ length line
  pub gap : AllAre is_gap_byte (drop start line)

-- whether what is said is about the commas of a gap
abbrev pub is_about_commas : MessageKind → Bool
is_about_commas CommaExpected = true
is_about_commas _ = false

-- if what is said is about commas, and is reported with no key, it is said about what follows the last token
abbrev pub FollowsTokens : Text → Spot MessageKind → Type 0
FollowsTokens line s = is_about_commas s.kind ≡ true → s.word ≡ [] → IsAfterTokens line s.start s.size

-- whether what is said is about commas before the first token
abbrev pub is_about_leading_commas : MessageKind → Bool
is_about_leading_commas LeadingComma = true
is_about_leading_commas _ = false

-- the part is the gap before the first token: from the line's start on blanks and commas, as many as there are, with
-- a comma among them
pub record IsBeforeTokens (line : Text) (start size : ℕ) : Type 0 where
  pub starts : start ≡ 0
  pub gap : AllAre is_gap_byte (take size line)
  pub longest : BeginsOther is_gap_byte (drop size line)
  pub comma : 0 < commas (take size line)

-- if what is said is about commas before the first token, it is said about the gap there
abbrev pub PrecedesTokens : Text → Spot MessageKind → Type 0
PrecedesTokens line s = is_about_leading_commas s.kind ≡ true → IsBeforeTokens line s.start s.size

-- whether what is said is about a rule as a whole
abbrev pub is_about_rule : MessageKind → Bool
is_about_rule LineTooLong = true
is_about_rule RuleWithoutEffect = true
is_about_rule _ = false

-- if what is said is about a rule as a whole, it is said about the whole line
abbrev pub IsWholeLine : Text → Spot MessageKind → Type 0
IsWholeLine line s = is_about_rule s.kind ≡ true → (s.start ≡ 0) × (s.size ≡ length line)

-- A text is at a place of a file: the line of the place's number has from the column up to the end, which is after
-- it, the first bytes of the text, and all of them unless the line gives no more to a joined line.
pub record IsFoundIn (bytes text : Text) (p : Place) : Type 0 where
  pub line : NumberedLine
  pub among : IsAmong line (numbered_lines bytes)
  pub number : p.line ≡ line.number
  pub counted : 0 < p.column
  pub some : p.column < p.end
  pub shown : take (p.end - p.column) (drop (p.column - 1) line.text) ≡ take (p.end - p.column) text
  pub whole : (p.end - p.column ≡ length text) ⊎ (p.end - 1 ≡ length (piece_of line).text)

-- the place of a finding
abbrev pub place_of : PlacedFinding MessageKind → Place
place_of p = record { line = p.line; column = p.column; end = p.end }

-- if a finding of a file is reported with the text that it is about, and this is not empty, the text is in the file
-- at its place
abbrev pub IsInFile : Text → PlacedFinding MessageKind → Type 0
IsInFile bytes p = is_about_text p.kind ≡ true → 0 < length p.word → IsFoundIn bytes p.word (place_of p)

-- The last finding of a file with these bytes is that a line is open. It is at the `\` that is the last byte of the
-- last line of the file that is not a comment.
pub record EndsOpen (bytes : Text) (found : List (PlacedFinding MessageKind)) : Type 0 where
  pub others : List (PlacedFinding MessageKind)
  pub reported : PlacedFinding MessageKind
  pub last : found ≡ others ++ reported ∷ []
  pub kind : reported.kind ≡ OpenAtEnd
  pub before : List NumberedLine
  pub line : NumberedLine
  pub following : List NumberedLine
  pub lines : numbered_lines bytes ≡ before ++ line ∷ following
  pub comments : kept following ≡ []
  pub backslash : ends_in backslash line.text ≡ true
  pub number : reported.line ≡ line.number
  pub column : reported.column ≡ length line.text
  pub end : reported.end ≡ length line.text + 1

-- About a file with these bytes only one thing is found, that it is given up, and this about the whole of the first
-- line that is too long.
pub record IsReportedForOneLine (bytes : Text) (found : List (PlacedFinding MessageKind)) : Type 0 where
  pub reported : PlacedFinding MessageKind
  pub only : found ≡ reported ∷ []
  pub kind : reported.kind ≡ FileAbandoned
  pub before : List NumberedLine
  pub line : NumberedLine
  pub following : List NumberedLine
  pub lines : numbered_lines bytes ≡ before ++ line ∷ following
  pub short : AllByRecursion (λ l. is_too_long l.text ≡ false) before
  pub long : is_too_long line.text ≡ true
  pub begins : reported.begins ≡ line.number
  pub number : reported.line ≡ line.number
  pub column : reported.column ≡ 1
  pub end : reported.end ≡ length line.text + 1
