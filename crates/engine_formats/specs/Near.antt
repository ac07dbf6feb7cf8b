-- The known name that is nearest to a word.
use Rattle.std.specs.Prelude.{ℕ, List, [], ◌∷◌, Option, None, if◌then◌else◌, length, map, min, nat_eq, nat_le}
use Rattle.std.specs.Char.{to_ascii_lowercase}
use Rattle.std.specs.List.{find}
use Rattle.text_bytes.specs.Text.{Text}
use Rattle.text_tables.specs.Texts.{is_among}
use Rattle.strsim.specs.Edits.{levenshtein_row}

-- a text in lower case letters
abbrev pub small : Text → Text
small text = map to_ascii_lowercase text

-- how many bytes have to be put in, taken out or replaced at least to come from a name to a word; the case of letters
-- does not count
unfoldable pub distance : Text → Text → ℕ
distance name word = levenshtein_row nat_eq (small name) (small word) (length (small word))

-- how far a name may be from a word that is meant as it: one byte if the word has up to three, two if it has up to
-- six, and three if it has more
abbrev pub farthest : Text → ℕ
farthest word = if nat_le (length word) 3 then 1 else (if nat_le (length word) 6 then 2 else 3)

-- the least of a number and of the distances of names from a word
abbrev pub reach : ℕ → List Text → Text → ℕ
reach most [] word = most
reach most (name ∷ names) word = reach (min most (distance name word)) names word

-- the first of the names that are nearest to a word, if they are near it and none of them is the word itself
unfoldable pub nearest : List Text → Text → Option Text
nearest names word =
    if is_among names word then None
    else find (λ name. nat_le (distance name word) (reach (farthest word) names word)) names
