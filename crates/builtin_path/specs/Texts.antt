-- What a text has in it.
use Rattle.std.specs.Prelude.{ℕ, drop, length, nat_eq, position, Option}
use Rattle.std.specs.List.{range_with_len, starts_with}
use Rattle.text_bytes.specs.Text.{Text}

-- the first place of a text where another one is
unfoldable pub first_place : (wanted text : Text) → Option ℕ
first_place wanted text = position (λ place. starts_with nat_eq (drop place text) wanted) (range_with_len 0 (length text))
