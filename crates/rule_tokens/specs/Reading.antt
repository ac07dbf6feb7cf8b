-- Reading a token from the front of a text, as functions of lists: the private functions of the crate are proved
-- against these. What a line's tokens are is stated in Grammar and Values, independently of all this.
use Rattle.std.specs.Prelude.{◌≡◌, ◌&&◌, not, ℕ, zero, suc, ◌+◌, ◌*◌, Bool, true, false, List, [], ◌∷◌, length, take, drop}
use Rattle.std.specs.Prelude.{Option, Some, None, option_map, Result, Ok, Err, nat_lt, ◌==◌, if◌then◌else◌, slice_index}
use Rattle.std.specs.List.{prefix_len, flat_map}
use Rattle.std.specs.Char.{digit_value, encode_utf8}
use Rattle.text_bytes.specs.Text.{Text}
use Rattle.rule_tokens.specs.declared.escapes.Meaning.{Meaning}
use Rattle.rule_tokens.specs.declared.escapes.Meaning.TheVariants.{Byte, Character}
use Rattle.rule_tokens.specs.declared.parts.TokenParts.{TokenParts}
use Rattle.rule_tokens.specs.declared.kinds.Operator.{Operator}
use Rattle.rule_tokens.specs.declared.kinds.Operator.TheVariants.{Equal, NotEqual, Add, Remove, AssignFinal, Assign}
use Rattle.rule_tokens.specs.declared.kinds.Quote.{Quote}
use Rattle.rule_tokens.specs.declared.kinds.TokenFaultKind.{TokenFaultKind}
use Rattle.rule_tokens.specs.declared.kinds.TokenFaultKind.TheVariants.{Syntax, Prefix}
use Rattle.text_bytes.specs.Names.{nul, bang, double_quote, plus, minus, colon, equals, backslash, open_brace, close_brace, is_blank}
use Rattle.text_bytes.specs.Texts.{ends_in, skip_while}
use Rattle.rule_tokens.specs.Letters.{capital_u, letter_u, letter_x}
use Rattle.rule_tokens.specs.Values.{Piece, byte, letter, octal, hex, short, long, spelling, meaning, letter_means, is_scalar, is_piece, has_escapes}
use Rattle.rule_tokens.specs.Grammar.{is_key_byte, is_letter, is_attribute_byte, Head, Parts, prefix_quote}

-- Goes on with what was read, or stops at the first fault.
infixl 10 ◌>>=◌
abbrev pub ◌>>=◌ : {A B : Type 0} → Result A TokenFaultKind → (A → Result B TokenFaultKind) → Result B TokenFaultKind
(Ok x) >>= f = f x
(Err e) >>= f = Err e

-- What a function returned, seen by view, is what reading gives.
abbrev pub Gives : {X Y : Type 0} → (X → Y) → Result X TokenFaultKind → Result Y TokenFaultKind → Type 0
Gives view (Ok x) read = read ≡ Ok (view x)
Gives view (Err e) read = read ≡ Err e

-- The longest run of key bytes, not empty, and what follows it.
unfoldable pub key_at : Text → Result (Text × Text) TokenFaultKind
key_at text = let n = prefix_len is_key_byte text in if n == 0 then Err Syntax else Ok (take n text, drop n text)

-- The first n bytes, if the byte b directly follows them, and what follows it.
unfoldable pub closed_at : ℕ → ℕ → Text → Result (Text × Text) TokenFaultKind
closed_at b n text = if slice_index text n == b then Ok (take n text, drop (n + 1) text) else Err Syntax

-- The name up to a closing brace, and what follows the brace.
abbrev pub name_at : Text → Result (Text × Text) TokenFaultKind
name_at text = closed_at close_brace (prefix_len is_attribute_byte text) text

-- A name in braces, if an open brace is at the front, and what follows it.
unfoldable pub attribute_at : Text → Result (Option Text × Text) TokenFaultKind
attribute_at [] = Ok (None, [])
attribute_at (b ∷ rest) = if b == open_brace then (name_at rest >>= λ x. Ok (Some x.0, x.1)) else Ok (None, b ∷ rest)

-- The operator at the front, and what follows it.
unfoldable pub operator_at : Text → Result (Operator × Text) TokenFaultKind
operator_at [] = Err Syntax
operator_at (a ∷ []) = if a == equals then Ok (Assign, []) else Err Syntax
operator_at (a ∷ b ∷ rest) =
    if b == equals then
    (if a == equals then Ok (Equal, rest)
    else (if a == bang then Ok (NotEqual, rest)
    else (if a == plus then Ok (Add, rest)
    else (if a == minus then Ok (Remove, rest)
    else (if a == colon then Ok (AssignFinal, rest) else Err Syntax)))))
    else (if a == equals then Ok (Assign, b ∷ rest) else Err Syntax)

-- Key, attribute, blanks, operator and blanks, and what follows them.
unfoldable pub head_at : Text → Result (Head × Text) TokenFaultKind
head_at text = do
  key ← key_at text
  attribute ← attribute_at key.1
  operator ← operator_at (skip_while is_blank attribute.1)
  Ok (record { key = key.0; attribute = attribute.0; operator = operator.0 }, skip_while is_blank operator.1)

-- The quoting that letters ask for, or the fault if they are not a prefix.
abbrev pub quoted_by : Option Quote → Text → Result (Quote × Text) TokenFaultKind
quoted_by None rest = Err Prefix
quoted_by (Some q) rest = Ok (q, rest)

-- Letters with a quote after them, and what follows the quote.
unfoldable pub quote_at : Operator → Text → Result (Quote × Text) TokenFaultKind
quote_at o text = do
  letters ← closed_at double_quote (prefix_len is_letter text) text
  quoted_by (prefix_quote o letters.0) letters.1

-- The piece that a backslash begins in an e value, as its first byte determines it; it need not be an allowed one.
unfoldable pub escape_first : Text → Piece
escape_first [] = byte backslash
escape_first (c ∷ rest) =
    if c == letter_x then hex (take 2 rest)
    else (if c == letter_u then short (take 4 rest)
    else (if c == capital_u then long (take 8 rest)
    else (if nat_lt (digit_value c) 8 then octal (take 3 (c ∷ rest)) else letter c)))

-- The piece that a backslash begins in a plain value.
abbrev pub plain_first : Text → Piece
plain_first [] = byte backslash
plain_first (c ∷ rest) = if c == double_quote then letter c else byte backslash

-- The same for a value of either kind.
abbrev pub either_first : Bool → Text → Piece
either_first true rest = escape_first rest
either_first false rest = plain_first rest

-- The piece that a byte begins.
abbrev pub first_piece : Bool → ℕ → Text → Piece
first_piece escaped b rest = if b == backslash then either_first escaped rest else byte b

-- The piece, if it is an allowed one.
abbrev pub if_piece : Bool → Piece → Option Piece
if_piece escaped p = if is_piece escaped p then Some p else None

-- The piece at the front of a text, if one is there.
unfoldable pub piece_at : Bool → Text → Option Piece
piece_at escaped [] = None
piece_at escaped (b ∷ rest) = if_piece escaped (first_piece escaped b rest)

-- Any byte but a backslash, a quote and NUL: in each value it is a piece of its own.
abbrev pub is_single : ℕ → Bool
is_single b = not (b == backslash) && (not (b == double_quote) && not (b == nul))

-- A piece and those after it, if more gives those after so many bytes.
abbrev pub pieces_from : (ℕ → List Piece) → Option Piece → List Piece
pieces_from more None = []
pieces_from more (Some p) = p ∷ more (length (drop 1 (spelling p)))

-- The pieces of a text from so many bytes on, up to the first place without one.
unfoldable pub pieces_of : Bool → ℕ → Text → List Piece
pieces_of escaped n [] = []
pieces_of escaped (suc n) (b ∷ rest) = pieces_of escaped n rest
pieces_of escaped zero (b ∷ rest) = pieces_from (λ n. pieces_of escaped n rest) (piece_at escaped (b ∷ rest))

-- How long the value at the front of a text is.
abbrev pub value_length : Bool → Text → ℕ
value_length escaped text = length (flat_map spelling (pieces_of escaped 0 text))

-- The value at the front of a text and the quote after it, and what follows the quote.
abbrev pub value_at : Bool → Text → Result (Text × Text) TokenFaultKind
value_at escaped text = closed_at double_quote (value_length escaped text) text

-- The token at the front of a text, and what follows it.
unfoldable pub token_at : Text → Result (Parts × Text) TokenFaultKind
token_at text = do
  head ← head_at text
  quote ← quote_at head.0.operator head.1
  value ← value_at (has_escapes quote.0) quote.1
  Ok (record { head = head.0; quote = quote.0; value = value.0 }, value.1)

-- What a piece means, and what follows it.
abbrev pub meaning_at : Bool → Text → Option (Text × Text)
meaning_at escaped text = option_map (λ p. (meaning p, drop (length (spelling p)) text)) (piece_at escaped text)

-- The bytes of a meaning, as the code has it.
abbrev pub meant : Meaning → Text
meant (Byte b) = b ∷ []
meant (Character c) = encode_utf8 c

-- The parts of a token, as the code has them, regardless of where they are in memory.
abbrev pub parts_of : TokenParts → Parts
parts_of p =
    record { head = record { key = p.key.now; attribute = option_map (λ a. a.now) p.attribute; operator = p.operator }; quote = p.quote; value = p.value.now }

-- The number that digits write after those of v, up to 10FFFF.
unfoldable pub scan : ℕ → ℕ → Text → Option ℕ
scan base v [] = Some v
scan base v (d ∷ digits) =
    if nat_lt (digit_value d) base then (if nat_lt (v * base + digit_value d) 1114112 then scan base (v * base + digit_value d) digits else None) else None

-- A number, if it is not 0.
abbrev pub positive : Option ℕ → Option ℕ
positive None = None
positive (Some v) = if v == 0 then None else Some v

-- The number that the first so many bytes write, if it is not 0 and at most 10FFFF.
abbrev pub number_at : ℕ → ℕ → Text → Option ℕ
number_at base count text = if nat_lt (length text) count then None else positive (scan base 0 (take count text))

-- A number as one byte, and what follows it.
abbrev pub byte_from : Text → Option ℕ → Option (Text × Text)
byte_from rest None = None
byte_from rest (Some v) = if nat_lt v 256 then Some (v ∷ [], rest) else None

-- The byte whose number so many digits write, and what follows them.
abbrev pub byte_at : ℕ → ℕ → Text → Option (Text × Text)
byte_at base count text = byte_from (drop count text) (number_at base count text)

-- A number as a character, and what follows it.
abbrev pub character_from : Text → Option ℕ → Option (Text × Text)
character_from rest None = None
character_from rest (Some v) = if is_scalar v then Some (encode_utf8 v, rest) else None

-- The character whose number so many hexadecimal digits write, and what follows them.
abbrev pub character_at : ℕ → Text → Option (Text × Text)
character_at count text = character_from (drop count text) (number_at 16 count text)

-- What a letter means, if anything, and what follows it.
abbrev pub letter_from : ℕ → Text → Option (Text × Text)
letter_from b rest = if b == 0 then None else Some (b ∷ [], rest)

-- What an escape means after its backslash, and what follows it.
unfoldable pub escape_at : Text → Option (Text × Text)
escape_at [] = None
escape_at (c ∷ rest) =
    if c == letter_x then byte_at 16 2 rest
    else (if c == letter_u then character_at 4 rest
    else (if c == capital_u then character_at 8 rest
    else (if nat_lt (digit_value c) 8 then byte_at 8 3 (c ∷ rest) else letter_from (letter_means c) rest)))

-- What the pieces of a value mean.
abbrev pub unquoted : Quote → Text → Text
unquoted quote value = flat_map meaning (pieces_of (has_escapes quote) 0 value)

-- The pieces of a value are the whole of it, and a plain one has no backslash at its end.
abbrev pub IsWholeValue : Quote → Text → Type 0
IsWholeValue quote value = (value_length (has_escapes quote) value ≡ length value) × ((not (has_escapes quote) && ends_in backslash value) ≡ false)
