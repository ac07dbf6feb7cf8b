-- Serves inner proofs only: numbers by which texts can be distinguished.
use Rattle.std.specs.Prelude.{ℕ, ◌+◌, ◌*◌, ◌%◌, ◌^◌, Bool, false, not, if◌then◌else◌, List, [], ◌∷◌, fold, Option, Some, None}
use Rattle.std.specs.List.{list_all}
use Rattle.text_bytes.specs.Names.{is_whitespace}
use Rattle.text_bytes.specs.Text.{Text}
use Rattle.text_core.specs.declared.item.Item.{Item}
use Rattle.text_core.specs.declared.item.Item.TheVariants as item

-- a sketch with one more byte
unfoldable pub mixed : ℕ → ℕ → ℕ
mixed sketch b = ((sketch * 1099511628211) % 2 ^ 64 + b) % 2 ^ 64

-- the sketch of a text
abbrev pub sketch : Text → ℕ
sketch text = fold mixed 0 text

-- whether an item is a byte that is not whitespace
abbrev pub is_word_item : Item → Bool
is_word_item (item.Byte b) = not (is_whitespace b)
is_word_item _ = false

-- the byte that an item is, if it is one
abbrev pub byte_of : Item → ℕ
byte_of (item.Byte b) = b
byte_of _ = 0

-- the sketch of the text that a pattern is
abbrev pub items_sketch : List Item → ℕ
items_sketch items = fold (λ sketch x. mixed sketch (byte_of x)) 0 items

-- the one pattern of a choice, if there is only one
abbrev pub only_part : List (List Item) → Option (List Item)
only_part [] = None
only_part (part ∷ []) = Some part
only_part (part ∷ other ∷ parts) = None

-- the sketch of a pattern that is a text without whitespace
abbrev pub word_sketch : Option (List Item) → Option ℕ
word_sketch None = None
word_sketch (Some items) = if list_all is_word_item items then Some (items_sketch items) else None

-- the sketch of the one text that a choice fits, if it fits only one, without whitespace
abbrev pub exact_sketch : List (List Item) → Option ℕ
exact_sketch choice = word_sketch (only_part choice)

-- the first byte of a text, or 256 if it is empty
abbrev pub first_byte : Text → ℕ
first_byte [] = 256
first_byte (b ∷ t) = b

-- the byte that an item is, if it is one
abbrev pub byte_item : Item → Option ℕ
byte_item (item.Byte b) = Some b
byte_item _ = None

-- the byte that a pattern begins with, if it does
abbrev pub head_of : List Item → Option ℕ
head_of [] = None
head_of (x ∷ xs) = byte_item x

-- the byte that a pattern begins with, if there is one
abbrev pub head_in : Option (List Item) → Option ℕ
head_in None = None
head_in (Some items) = head_of items

-- the first byte of the texts that a choice fits, if it is one pattern that begins with a byte
abbrev pub exact_head : List (List Item) → Option ℕ
exact_head choice = head_in (only_part choice)
