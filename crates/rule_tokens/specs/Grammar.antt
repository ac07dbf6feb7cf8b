-- The tokens of a rule line, as a relation between a line, its tokens and its end.
use Rattle.std.specs.Prelude.{◌≡◌, ℕ, ◌+◌, ◌<◌, Bool, true, false, ◌&&◌, ◌||◌, not, List, [], ◌∷◌, ◌++◌, length}
use Rattle.std.specs.Prelude.{drop, Option, Some, None, ◌==◌, if◌then◌else◌, codes, ⊤, Result, Ok, Err}
use Rattle.std.specs.List.{list_all}
use Rattle.std.specs.Char.{is_ascii_alphabetic, is_ascii_alphanumeric}
use Rattle.text_bytes.specs.Text.{Text}
use Rattle.text_bytes.specs.Names.{nul, comma, double_quote, underscore, open_brace, close_brace, is_blank}
use Rattle.rule_tokens.specs.Letters.{letter_e, letter_i}
use Rattle.rule_tokens.specs.Values.{Piece, Spells, has_escapes}
use Rattle.rule_tokens.specs.declared.kinds.Operator.{Operator}
use Rattle.rule_tokens.specs.declared.kinds.Operator.TheVariants.{Equal, NotEqual, Add, Remove, AssignFinal, Assign}
use Rattle.rule_tokens.specs.declared.kinds.Quote.{Quote}
use Rattle.rule_tokens.specs.declared.kinds.Quote.TheVariants.{Plain, Escaped, Blind, BlindEscaped}
use Rattle.rule_tokens.specs.declared.kinds.Span.{Span}
use Rattle.rule_tokens.specs.declared.kinds.TokenFault.{TokenFault}
use Rattle.rule_tokens.specs.declared.kinds.TokenFaultKind.{TokenFaultKind}
use Rattle.rule_tokens.specs.declared.kinds.TokenFaultKind.TheVariants.{Syntax, Prefix}

-- A key is made of ASCII letters, digits and underscores.
abbrev pub is_key_byte : ℕ → Bool
is_key_byte b = is_ascii_alphanumeric b || b == underscore

-- An attribute is made of any bytes but a closing brace and NUL.
abbrev pub is_attribute_byte : ℕ → Bool
is_attribute_byte b = not (b == close_brace) && not (b == nul)

-- The prefix of a value is made of ASCII letters.
abbrev pub is_letter : ℕ → Bool
is_letter b = is_ascii_alphabetic b

-- A gap between tokens is made of blanks and commas.
abbrev pub is_gap_byte : ℕ → Bool
is_gap_byte b = is_blank b || b == comma

-- Each byte is of the class.
abbrev pub AllAre : (ℕ → Bool) → Text → Type 0
AllAre class bytes = list_all class bytes ≡ true

-- The text does not begin with a byte of the class.
abbrev pub BeginsOther : (ℕ → Bool) → Text → Type 0
BeginsOther class [] = ⊤
BeginsOther class (b ∷ rest) = class b ≡ false

-- How an operator is written.
abbrev pub operator_text : Operator → Text
operator_text Equal = codes "=="
operator_text NotEqual = codes "!="
operator_text Add = codes "+="
operator_text Remove = codes "-="
operator_text AssignFinal = codes ":="
operator_text Assign = codes "="

-- How an attribute is written: in braces, or not at all.
abbrev pub attribute_text : Option Text → Text
attribute_text None = []
attribute_text (Some name) = open_brace ∷ name ++ close_brace ∷ []

-- The bytes of an attribute, none if there is no attribute.
abbrev pub attribute_bytes : Option Text → Text
attribute_bytes None = []
attribute_bytes (Some name) = name

-- What comes before a value: a key, perhaps an attribute, and an operator.
pub record Head : Type 0 where
  pub key : Text
  pub attribute : Option Text
  pub operator : Operator

-- The text begins with this head, with blanks before and after its operator, and rest follows.
pub record BeginsWithHead (text : Text) (h : Head) (rest : Text) : Type 0 where
  pub before : Text
  pub following : Text
  pub spelled : text ≡ h.key ++ attribute_text h.attribute ++ before ++ operator_text h.operator ++ following ++ rest
  pub some_key : 0 < length h.key
  pub key : AllAre is_key_byte h.key
  pub attribute : AllAre is_attribute_byte (attribute_bytes h.attribute)
  pub blanks : AllAre is_blank before × AllAre is_blank following

-- Whether an operator compares; the others change their key.
abbrev pub compares : Operator → Bool
compares Equal = true
compares NotEqual = true
compares _ = false

-- What one letter before the quote asks for: e for escapes and, after an operator that compares, i for a value that ignores case.
abbrev pub one_letter : Operator → ℕ → Option Quote
one_letter o a =
    if a == letter_e then Some Escaped
    else (if a == letter_i && compares o then Some Blind
    else None)

-- What two letters before the quote ask for: ie and ei, after an operator that compares, for both.
abbrev pub two_letters : Operator → ℕ → ℕ → Option Quote
two_letters o a b =
    if ((a == letter_i && b == letter_e) || (a == letter_e && b == letter_i)) && compares o then Some BlindEscaped
    else None

-- The quoting that the letters directly before the quote ask for; None if they are not a prefix after this operator.
unfoldable pub prefix_quote : Operator → Text → Option Quote
prefix_quote o [] = Some Plain
prefix_quote o (a ∷ []) = one_letter o a
prefix_quote o (a ∷ b ∷ []) = two_letters o a b
prefix_quote o (a ∷ b ∷ c ∷ more) = None

-- The parts of a token: its head, how its value is quoted, and the value as it is spelled.
pub record Parts : Type 0 where
  pub head : Head
  pub quote : Quote
  pub value : Text

-- The text begins with a token of these parts, and rest follows it.
pub record BeginsWithToken (text : Text) (t : Parts) (rest : Text) : Type 0 where
  pub quoted : Text
  pub letters : Text
  pub pieces : List Piece
  pub head : BeginsWithHead text t.head quoted
  pub spelled : quoted ≡ letters ++ double_quote ∷ t.value ++ double_quote ∷ rest
  pub letters_are : AllAre is_letter letters
  pub prefix : prefix_quote t.head.operator letters ≡ Some t.quote
  pub value : Spells (has_escapes t.quote) pieces t.value

-- The text is right up to the blanks after its operator, and letters that are not a prefix there come directly before
-- a quote.
pub record WrongPrefix (text : Text) : Type 0 where
  pub head : Head
  pub quoted : Text
  pub letters : Text
  pub rest : Text
  pub is_present : BeginsWithHead text head quoted
  pub spelled : quoted ≡ letters ++ double_quote ∷ rest
  pub letters_are : AllAre is_letter letters
  pub prefix : prefix_quote head.operator letters ≡ None

-- The text begins with no token.
abbrev pub NoToken : Text → Type 0
NoToken text = (t : Parts) (rest : Text) → ¬ (BeginsWithToken text t rest)

-- Why the text begins with no token: its prefix is wrong, or else its syntax.
abbrev pub IsFault : Text → TokenFaultKind → Type 0
IsFault text Prefix = WrongPrefix text
IsFault text Syntax = NoToken text × ¬ (WrongPrefix text)

-- A token in its line: its parts, and the places of its first byte and of the byte after it.
pub record Placed : Type 0 where
  pub parts : Parts
  pub span : Span

-- The text, which is at a place of a line, begins with this token, and rest follows it.
pub record TokenAt (at : ℕ) (text : Text) (t : Placed) (rest : Text) : Type 0 where
  pub is_present : BeginsWithToken text t.parts rest
  pub start : t.span.start ≡ at
  pub end : t.span.end + length rest ≡ at + length text

-- What follows a token is the longest gap, and then next.
pub record Gap (rest gap next : Text) : Type 0 where
  pub spelled : rest ≡ gap ++ next
  pub all : AllAre is_gap_byte gap
  pub longest : BeginsOther is_gap_byte next

-- The text, which is at a place of a line, is these tokens with gaps between them, up to its end or to the first part
-- that is not a token.
pub data LexesAt : ℕ → Text → List Placed → Option TokenFault → Type 0 where
  -- no token is here
  faulty : {at : ℕ} {text : Text} {fault : TokenFault} → fault.at ≡ at → IsFault text fault.kind → LexesAt at text [] (Some fault)
  -- a token, and with the gap after it the text ends
  last : {at : ℕ} {text : Text} {t : Placed} (rest gap : Text) → TokenAt at text t rest → Gap rest gap [] → LexesAt at text (t ∷ []) None
  -- a token, and after it and a gap others, or a fault
  more : {at : ℕ} {text : Text} {t : Placed} {tokens : List Placed} {end : Option TokenFault} (rest gap next : Text) → TokenAt at text t rest
      → Gap rest gap next
      → 0 < length next → LexesAt (t.span.end + length gap) next tokens end → LexesAt at text (t ∷ tokens) end

-- A line, its tokens and its end: None if it is done, or the fault that ends it.
abbrev pub Lexes : Text → List Placed → Option TokenFault → Type 0
Lexes line tokens end = LexesAt 0 line tokens end

-- What a line gives in turn: a token, or the fault that ends them.
abbrev pub Item : Type 0
Item = Result Placed TokenFault

-- The tokens in turn, and the fault that ends them.
abbrev pub answers : List Placed → Option TokenFault → List Item
answers [] None = []
answers [] (Some fault) = Err fault ∷ []
answers (t ∷ tokens) end = Ok t ∷ answers tokens end

-- The items are tokens and an end of the line from a place on.
abbrev pub GivenFrom : ℕ → Text → List Item → Type 0
GivenFrom start line items = (tokens : List Placed) × (end : Option TokenFault) × LexesAt start (drop start line) tokens end × (items ≡ answers tokens end)

-- From there on the line has no other tokens and end than the items.
abbrev pub OnlyFrom : ℕ → Text → List Item → Type 0
OnlyFrom start line items = (tokens : List Placed) (end : Option TokenFault) → LexesAt start (drop start line) tokens end → items ≡ answers tokens end

-- The items are tokens and an end of the line.
abbrev pub Given : Text → List Item → Type 0
Given line items = GivenFrom 0 line items

-- The line has no other tokens and end than the items.
abbrev pub Only : Text → List Item → Type 0
Only line items = OnlyFrom 0 line items

-- Each line has tokens and an end.
abbrev pub SomeAnswer : Type 0
SomeAnswer = (line : Text) → (tokens : List Placed) × (end : Option TokenFault) × Lexes line tokens end

-- No line has two.
abbrev pub OneAnswer : Type 0
OneAnswer = (line : Text) (s t : List Placed) (e f : Option TokenFault) → Lexes line s e → Lexes line t f → (s ≡ t) × (e ≡ f)
