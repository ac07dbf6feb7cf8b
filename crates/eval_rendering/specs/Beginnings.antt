-- Serves inner proofs only: how a pattern and a text begin.
use Rattle.std.specs.Prelude.{◌==◌, Bool, true, false, not, [], ◌∷◌}
use Rattle.text_bytes.specs.Text.{Text}
use Rattle.text_core.specs.declared.item.Item.{Item}
use Rattle.text_core.specs.declared.item.Item.TheVariants.{Byte}

-- whether an item is a byte with which a text does not begin
abbrev pub is_other_byte : Item → Text → Bool
is_other_byte (Byte c) [] = true
is_other_byte (Byte c) (b ∷ t) = not (c == b)
is_other_byte other t = false
