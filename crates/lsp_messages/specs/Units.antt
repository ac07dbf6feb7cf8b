-- The units in which characters are counted.
use Rattle.std.specs.Prelude.{ℕ, suc, ◌-◌, Bool, ◌&&◌, nat_le, nat_lt, [], ◌∷◌, sum_by, if◌then◌else◌}
use Rattle.text_bytes.specs.Text.{Text}
use Rattle.lsp_messages.specs.declared.counting.Encoding.{Encoding}
use Rattle.lsp_messages.specs.declared.counting.Encoding.TheVariants.{Utf8, Utf16}

-- whether a byte goes on with a character that an earlier byte began
abbrev pub is_within : ℕ → Bool
is_within b = nat_le 128 b && nat_lt b 192

-- how many units the character has that a byte begins, in UTF-8 its bytes; none if it begins none
abbrev pub width : Encoding → ℕ → ℕ
width Utf8 b = if is_within b then 0 else if nat_lt b 192 then 1 else if nat_lt b 224 then 2 else if nat_lt b 240 then 3 else 4
width Utf16 b = if is_within b then 0 else if nat_lt b 240 then 1 else 2

-- how many units a text has
abbrev pub units : Encoding → Text → ℕ
units encoding text = sum_by (width encoding) text

-- how many bytes the characters have that come before there are more units than so many
abbrev pub fitting : Encoding → ℕ → Text → ℕ
fitting encoding n [] = 0
fitting encoding n (b ∷ text) = if nat_le (width encoding b) n then suc (fitting encoding (n - width encoding b) text) else 0
