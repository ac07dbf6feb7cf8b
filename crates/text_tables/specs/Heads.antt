-- Serves inner proofs only: the first bytes of a text as a number, and names with their places.
use Rattle.std.specs.Prelude.{◌≡◌, ℕ, zero, suc, ◌+◌, ◌*◌, ◌^◌, ◌<◌, List, [], ◌∷◌, get_or}
use Rattle.text_bytes.specs.Text.{Text}
use Rattle.text_tables.specs.Pairs.{Pair}

-- so many first bytes of a text as a number whose highest byte is the first; zeros follow a text that is shorter
abbrev pub head_of : ℕ → Text → ℕ
head_of zero text = 0
head_of (suc n) [] = 0
head_of (suc n) (byte ∷ text) = byte * 256 ^ n + head_of n text

-- the four bytes of a text from a place on, as a number whose highest byte is the first
unfoldable pub four_at : Text → ℕ → ℕ
four_at text place = get_or text place 0 * 256 ^ 3 + get_or text (place + 1) 0 * 256 ^ 2 + get_or text (place + 2) 0 * 256 + get_or text (place + 3) 0

-- a number is the first eight bytes of a text
pub record IsHead (head : ℕ) (text : Text) : Type 0 where
  pub is : head ≡ head_of 8 text
  pub bytes : (k : ℕ) → get_or text k 0 < 256

-- each name with its place, if the first has this one
abbrev pub named_places : ℕ → List Text → List (Text × ℕ)
named_places place [] = []
named_places place (name ∷ names) = (name, place) ∷ named_places (suc place) names

-- the name at a place with its value, both empty if there is none
abbrev pub pair_at : List Pair → ℕ → Pair
pair_at pairs place = get_or pairs place ([], [])
