-- Words for texts that several readers use.
use Rattle.std.specs.Prelude.{ℕ, Bool, true, false, not, ◌==◌, List, [], ◌∷◌, length, take, take_while, drop, slice_index}
use Rattle.std.specs.Prelude.{position, Option, Some, None, option_map, ◌+◌, ◌-◌, nat_eq, if◌then◌else◌}
use Rattle.std.specs.Cmp.Lexicographic.{pointwise}
use Rattle.std.specs.List.{prefix_len, suffix_len}
use Rattle.text_bytes.specs.Text.{Text}
use Rattle.text_bytes.specs.Names.{is_blank, is_whitespace}

-- whether a list has nothing in it
abbrev pub is_empty : {X : Type 0} → List X → Bool
is_empty [] = true
is_empty (x ∷ xs) = false

-- the first of a list, if there is one
abbrev pub first : {X : Type 0} → List X → Option X
first [] = None
first (x ∷ xs) = Some x

-- the last of a list, if there is one
abbrev pub last : {X : Type 0} → List X → Option X
last [] = None
last (x ∷ []) = Some x
last (x ∷ y ∷ ys) = last (y ∷ ys)

-- whether a text begins with this byte
abbrev pub begins_with : ℕ → Text → Bool
begins_with byte [] = false
begins_with byte (b ∷ text) = b == byte

-- whether a text ends in this byte
abbrev pub ends_in : ℕ → Text → Bool
ends_in byte [] = false
ends_in byte (b ∷ text) = slice_index (b ∷ text) (length text) == byte

-- what follows the elements at the front that pass a test
abbrev pub skip_while : {X : Type 0} → (X → Bool) → List X → List X
skip_while test xs = drop (prefix_len test xs) xs

-- what follows the front of a text, if it begins with that
abbrev pub following : Text → Text → Option Text
following prefix text = if pointwise nat_eq (take (length prefix) text) prefix then Some (drop (length prefix) text) else None

-- a text without the spaces and tabs at its start
abbrev pub unindented : Text → Text
unindented text = skip_while is_blank text

-- a text without the whitespace at its end
abbrev pub trimmed : Text → Text
trimmed text = take (length text - suffix_len is_whitespace text) text

-- a text without its last byte
abbrev pub without_last : Text → Text
without_last text = take (length text - 1) text

-- a text up to the first such byte, all of it if it has none
abbrev pub up_to : ℕ → Text → Text
up_to byte text = take_while (λ b. not (b == byte)) text

-- what comes before the first such byte of a text, and what comes after it
unfoldable pub split_once : ℕ → Text → Option (Text × Text)
split_once byte text = option_map (λ n. (take n text, drop (n + 1) text)) (position (λ b. b == byte) text)

-- what is reported of a text: its first 32 bytes
abbrev pub word_of : Text → Text
word_of text = take 32 text
