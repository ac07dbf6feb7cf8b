-- What is between the quotes of a value, and what it means.
use Rattle.std.specs.Prelude.{◌≡◌, ℕ, Bool, true, false, ◌&&◌, ◌||◌, not, List, [], ◌∷◌, length, nat_lt, ◌==◌, if◌then◌else◌}
use Rattle.std.specs.List.{flat_map, list_all}
use Rattle.std.specs.Char.{encode_utf8, digit_value}
use Rattle.std.specs.Str.Parse.{digits_value}
use Rattle.text_bytes.specs.Text.{Text}
use Rattle.text_bytes.specs.Names.{nul, tab, newline, vertical_tab, form_feed, carriage_return, space, double_quote, single_quote, backslash}
pub use Rattle.text_bytes.specs.Texts.{ends_in}
use Rattle.rule_tokens.specs.Letters.{bell, backspace, capital_u, letter_a, letter_b, letter_f, letter_n}
use Rattle.rule_tokens.specs.Letters.{letter_r, letter_s, letter_t, letter_u, letter_v, letter_x}
use Rattle.rule_tokens.specs.declared.kinds.Quote.{Quote}
use Rattle.rule_tokens.specs.declared.kinds.Quote.TheVariants.{Plain, Escaped, Blind, BlindEscaped}

-- A piece of a value is a byte that stands for itself, a letter after a backslash, or a number by its digits: three
-- octal digits, two hexadecimal ones after x, four after u, eight after U.
pub data Piece : Type 0 where
  byte letter : ℕ → Piece
  octal hex short long : Text → Piece

-- How a piece is spelled.
abbrev pub spelling : Piece → Text
spelling (byte b) = b ∷ []
spelling (letter c) = backslash ∷ c ∷ []
spelling (octal digits) = backslash ∷ digits
spelling (hex digits) = backslash ∷ letter_x ∷ digits
spelling (short digits) = backslash ∷ letter_u ∷ digits
spelling (long digits) = backslash ∷ capital_u ∷ digits

-- The byte that a letter stands for after a backslash; 0 if the letter stands for none.
unfoldable pub letter_means : ℕ → ℕ
letter_means c =
    if c == letter_a then bell
    else (if c == letter_b then backspace
    else (if c == letter_f then form_feed
    else (if c == letter_n then newline
    else (if c == letter_r then carriage_return
    else (if c == letter_t then tab
    else (if c == letter_v then vertical_tab
    else (if c == backslash then backslash
    else (if c == double_quote then double_quote
    else (if c == single_quote then single_quote
    else (if c == letter_s then space
    else 0))))))))))

-- What a piece stands for: a byte, or after u and U the character of that number in UTF-8.
abbrev pub meaning : Piece → Text
meaning (byte b) = b ∷ []
meaning (letter c) = letter_means c ∷ []
meaning (octal digits) = digits_value 8 digits ∷ []
meaning (hex digits) = digits_value 16 digits ∷ []
meaning (short digits) = encode_utf8 (digits_value 16 digits)
meaning (long digits) = encode_utf8 (digits_value 16 digits)

-- These are so many digits of a base, and not all of them are 0.
unfoldable pub is_number : ℕ → ℕ → Text → Bool
is_number base count digits = length digits == count && (list_all (λ d. nat_lt (digit_value d) base) digits && nat_lt 0 (digits_value base digits))

-- The number is a character's: not a surrogate (D800 to DFFF), and at most 10FFFF.
abbrev pub is_scalar : ℕ → Bool
is_scalar c = nat_lt c 55296 || (nat_lt 57343 c && nat_lt c 1114112)

-- A piece of a plain value is \" or any byte but a quote and NUL.
abbrev pub is_plain_piece : Piece → Bool
is_plain_piece (byte b) = not (b == double_quote) && not (b == nul)
is_plain_piece (letter c) = c == double_quote
is_plain_piece (octal digits) = false
is_plain_piece (hex digits) = false
is_plain_piece (short digits) = false
is_plain_piece (long digits) = false

-- A piece of an e value is an escape, or any byte but a quote, NUL and a backslash. No escape stands for NUL, an
-- octal number is at most 377, and the number after u and U is a character's.
abbrev pub is_escaped_piece : Piece → Bool
is_escaped_piece (byte b) = not (b == double_quote) && (not (b == nul) && not (b == backslash))
is_escaped_piece (letter c) = nat_lt 0 (letter_means c)
is_escaped_piece (octal digits) = is_number 8 3 digits && nat_lt (digits_value 8 digits) 256
is_escaped_piece (hex digits) = is_number 16 2 digits
is_escaped_piece (short digits) = is_number 16 4 digits && is_scalar (digits_value 16 digits)
is_escaped_piece (long digits) = is_number 16 8 digits && is_scalar (digits_value 16 digits)

-- The pieces of a value of either kind.
abbrev pub is_piece : Bool → Piece → Bool
is_piece false p = is_plain_piece p
is_piece true p = is_escaped_piece p

-- Whether a value has escapes as in C.
abbrev pub has_escapes : Quote → Bool
has_escapes Plain = false
has_escapes Escaped = true
has_escapes Blind = false
has_escapes BlindEscaped = true

-- The text between the quotes is these pieces. A plain value has no backslash at its end, since no backslash comes directly before the quote that ends it.
pub record Spells (escaped : Bool) (pieces : List Piece) (text : Text) : Type 0 where
  pub spelled : text ≡ flat_map spelling pieces
  pub allowed : list_all (is_piece escaped) pieces ≡ true
  pub end : escaped ≡ false → ends_in backslash text ≡ false

-- The text between the quotes means these bytes.
pub record Means (escaped : Bool) (text bytes : Text) : Type 0 where
  pub pieces : List Piece
  pub spells : Spells escaped pieces text
  pub bytes_are : bytes ≡ flat_map meaning pieces

-- A text between quotes has one meaning at most.
abbrev pub OneMeaning : Type 0
OneMeaning = (escaped : Bool) (text some other : Text) → Means escaped text some → Means escaped text other → some ≡ other

-- None of the bytes is NUL.
abbrev pub HasNoNul : Text → Type 0
HasNoNul bytes = list_all (λ b. not (b == nul)) bytes ≡ true

-- A text between quotes has no NUL, and neither do the bytes that it means.
abbrev pub NoNul : Type 0
NoNul = (escaped : Bool) (text bytes : Text) → Means escaped text bytes → HasNoNul text × HasNoNul bytes
