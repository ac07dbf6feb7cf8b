-- Serves inner proofs only: the first labels of a pattern as bytes.
use Rattle.std.specs.Prelude.{ℕ, zero, suc, ◌+◌, Bool, ◌==◌, ◌&&◌, not, if◌then◌else◌, List, [], ◌∷◌, min}
use Rattle.text_core.specs.declared.item.Item.{Item}
use Rattle.text_core.specs.declared.item.Item.TheVariants.{Byte, One, Many, Among}

-- the byte of a label: all bytes from 250 on share one, and so do all sets
abbrev pub code : Item → ℕ
code (Byte b) = min b 250 + 1
code One = 252
code Many = 253
code (Among set) = 254

-- whether just one label has a byte
abbrev pub is_exact : ℕ → Bool
is_exact c = not (c == 251) && not (c == 254)

-- the byte of the first label
abbrev pub first_code : List Item → ℕ
first_code [] = 0
first_code (x ∷ p) = code x

-- what is left, unless the byte leaves it open which label was first
abbrev pub following : List Item → List Item
following [] = []
following (x ∷ p) = if is_exact (code x) then p else []

-- the bytes of the first n labels
unfoldable pub codes : ℕ → List Item → List ℕ
codes zero p = []
codes (suc n) p = first_code p ∷ codes n (following p)
