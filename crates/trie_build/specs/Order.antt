-- The order of paths: by their length, then label by label.
use Rattle.std.specs.Prelude.{ℕ, List, ◌∷◌, [], length}
use Rattle.std.specs.Ordering.{nat_cmp, ordering_then}
use Rattle.std.specs.declared.cmp.Ordering.{Ordering}
use Rattle.std.specs.Cmp.Lexicographic.{slice_cmp}
use Rattle.text_core.specs.declared.item.Item.{Item}
use Rattle.text_core.specs.declared.item.Item.TheVariants.{Byte, One, Many, Among}

-- which labels come first: bytes, then `?`, `*` and the sets
abbrev pub label_rank : Item → ℕ
label_rank (Byte b) = 1
label_rank One = 2
label_rank Many = 3
label_rank (Among set) = 4

-- what labels of equal rank compare by: a byte, and the bytes of a set
abbrev pub label_bytes : Item → List ℕ
label_bytes (Byte b) = b ∷ []
label_bytes One = []
label_bytes Many = []
label_bytes (Among set) = set.bits

-- a label as it is compared: by its rank, then by its byte or the bytes of its set
abbrev pub label_key : Item → List ℕ
label_key label = label_rank label ∷ label_bytes label

-- how a label compares with another
abbrev pub label_cmp : Item → Item → Ordering
label_cmp x y = slice_cmp nat_cmp (label_key x) (label_key y)

-- how a pattern compares with another, label by label: a pattern comes before a longer one that begins with it
abbrev pub pattern_cmp : List Item → List Item → Ordering
pattern_cmp p q = slice_cmp label_cmp p q

-- how a path compares with another: the shorter first, and of one length label by label
abbrev pub path_cmp : List Item → List Item → Ordering
path_cmp p q = ordering_then (nat_cmp (length p) (length q)) (pattern_cmp p q)
