-- Numbers in decimal digits, and the numbers of lines.
use Rattle.std.specs.Prelude.{ℕ, ◌+◌, ◌-◌, ◌*◌, ◌^◌, min, Bool, not, ◌&&◌, nat_le, nat_lt, [], ◌∷◌, Option, Some, None, if◌then◌else◌}
use Rattle.std.specs.List.{list_all}
use Rattle.text_bytes.specs.Text.{Text}
use Rattle.text_bytes.specs.Names.{digit_zero, digit_nine}
use Rattle.text_bytes.specs.Texts.{is_empty}

-- the digits `0` to `9` of ASCII
abbrev pub is_digit : ℕ → Bool
is_digit b = nat_le digit_zero b && nat_le b digit_nine

-- whether a text is one digit or more, and nothing else
abbrev pub is_decimal : Text → Bool
is_decimal text = not (is_empty text) && list_all is_digit text

-- the number that digits write after those of n
abbrev pub decimal_after : ℕ → Text → ℕ
decimal_after n [] = n
decimal_after n (b ∷ text) = decimal_after (10 * n + (b - digit_zero)) text

-- the number that digits write, the most significant first
abbrev pub decimal : Text → ℕ
decimal text = decimal_after 0 text

-- the number that a text of one digit or more writes, if it is below a bound
unfoldable pub decimal_below : ℕ → Text → Option ℕ
decimal_below bound text = if is_decimal text && nat_lt (decimal text) bound then Some (decimal text) else None

-- the number of a line as it is reported: at most 2^32 - 1
abbrev pub capped : ℕ → ℕ
capped number = min number (2 ^ 32 - 1)
