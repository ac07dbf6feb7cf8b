-- A text for examples.
use Rattle.std.specs.Prelude.{◌∷◌, ◌++◌, codes}
use Rattle.text_bytes.specs.Text.{Text}

-- two rows; the second has U+1F600, four bytes of UTF-8, between two letters
abbrev pub two_rows : Text
two_rows = codes "a\r\nb" ++ 240 ∷ 159 ∷ 152 ∷ 128 ∷ codes "c"
