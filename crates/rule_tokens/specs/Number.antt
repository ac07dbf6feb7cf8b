-- The number in the braces after `$result` and `%c`.
use Rattle.std.specs.Prelude.{ℕ, zero, suc, ◌-◌, Bool, ◌==◌, nat_lt, length, take, Option, Some, None, option_map, if◌then◌else◌}
use Rattle.text_bytes.specs.Text.{Text}
use Rattle.text_bytes.specs.Names.{plus}
use Rattle.text_bytes.specs.Texts.{ends_in}
use Rattle.text_bytes.specs.Numbers.{decimal_below}
use Rattle.rule_tokens.specs.Integers.{natural_of}
use Rattle.rule_tokens.specs.declared.piece.Piece.{Piece}
use Rattle.rule_tokens.specs.declared.piece.Piece.TheVariants as piece

-- a number, if it is not 0
abbrev pub not_zero : Option ℕ → Option ℕ
not_zero None = None
not_zero (Some zero) = None
not_zero (Some (suc n)) = Some (suc n)

-- the number from 1 to 65535 that a text of decimal digits writes
abbrev pub number_of : Text → Option ℕ
number_of text = not_zero (decimal_below 65536 text)

-- `N` asks for the N-th word, `N+` for all from the N-th word on
unfoldable pub word_of : Text → Option Piece
word_of content =
    if ends_in plus content then option_map (λ n. piece.From n) (number_of (take (length content - 1) content))
    else option_map (λ n. piece.Word n) (number_of content)

-- a text without the plus that it ends in, if it does
abbrev pub without_plus : Text → Text
without_plus content = if ends_in plus content then take (length content - 1) content else content

-- the number of a word in 16 bits; no result has as many words as the greatest of these, so this is used for all that
-- are greater
abbrev pub word_number : ℕ → ℕ
word_number n = if nat_lt n 65535 then n else 65535

-- what udev gives for a number: for 0 the whole result, else the N-th word, or with a plus all from the N-th word on
abbrev pub numbered_word : Bool → ℕ → Piece
numbered_word has_plus n = if n == 0 then piece.Result else if has_plus then piece.From (word_number n) else piece.Word (word_number n)

-- what the content of the braces asks udev for, if it is a number, with or without a plus after it
unfoldable pub udev_word_of : Text → Option Piece
udev_word_of content = option_map (numbered_word (ends_in plus content)) (natural_of (without_plus content))
