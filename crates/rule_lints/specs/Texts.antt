-- Bytes of a text, and what follows them.
use Rattle.std.specs.Prelude.{ℕ, Bool, ◌==◌}
use Rattle.std.specs.List.{after_first, after_last, list_any}
use Rattle.text_bytes.specs.Text.{Text}

-- whether a text has this byte
abbrev pub has_byte : ℕ → Text → Bool
has_byte byte text = list_any (λ b. b == byte) text

-- what follows the first such byte of a text, nothing if it has none
abbrev pub rest_after_first : ℕ → Text → Text
rest_after_first byte text = after_first (λ b. b == byte) text

-- what follows the last such byte of a text, all of it if it has none
abbrev pub rest_after_last : ℕ → Text → Text
rest_after_last byte text = after_last (λ b. b == byte) text
