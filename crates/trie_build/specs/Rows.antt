-- Serves inner proofs only: the entries, sorted by their patterns.
use Rattle.std.specs.Prelude.{ℕ, ◌≡◌, ◌==◌, ◌-◌, ◌<◌, ◌≤◌, if◌then◌else◌, List, [], length, map, min, drop, slice_index_or}
use Rattle.std.specs.Ordering.{nat_cmp, ordering_then}
use Rattle.std.specs.Cmp.Lexicographic.{slice_cmp}
use Rattle.std.specs.declared.cmp.Ordering.{Ordering}
use Rattle.std.specs.declared.cmp.Ordering.TheVariants.{Equal, Greater}
use Rattle.text_core.specs.declared.item.Item.{Item}
use Rattle.text_core.specs.declared.item.Item.TheVariants.{One}
use Rattle.trie_nodes.specs.declared.entry.Entry.{Entry}
use Rattle.trie_build.specs.Order.{label_cmp, pattern_cmp}
use Rattle.trie_build.specs.Content.{entry_at}
use Rattle.trie_build.specs.Prefixes.{codes}
use Rattle.trie_build.specs.declared.rows.Row.{Row}

-- a row has the pattern of the entry with its number
pub record Reports (es : List Entry) (r : Row) : Type 0 where
  pub within : r.number < length es
  pub items : r.items.now ≡ (entry_at es r.number).pattern
  pub prefix : r.prefix ≡ codes 24 r.items.now

-- the bytes of a row are those of its pattern's first labels
abbrev pub HasPrefix : Row → Type 0
HasPrefix r = r.prefix ≡ codes 24 r.items.now

-- two rows of 24 bytes have so many in common at their fronts, and no more
pub record AreAlike (bs cs : List ℕ) (n : ℕ) : Type 0 where
  pub within : n ≤ 24
  pub same : (d : ℕ) → d < n → slice_index_or bs d 0 ≡ slice_index_or cs d 0
  pub next : n < 24 → slice_index_or bs n 0 ≡ slice_index_or cs n 0 → ⊥

-- what the bytes of its first labels leave open of a pattern: if there is a last one, they determine all labels
-- before that
abbrev pub undetermined : List ℕ → List Item → List Item
undetermined prefix p = if slice_index_or prefix 23 0 == 0 then p else drop (min (length p) 23) p

-- how a row compares with another: by the first labels, by what these leave open, and for equal patterns by the
-- numbers
abbrev pub row_cmp : Row → Row → Ordering
row_cmp r s =
    ordering_then (slice_cmp nat_cmp r.prefix s.prefix)
    (ordering_then (pattern_cmp (undetermined r.prefix r.items.now) (undetermined s.prefix s.items.now)) (nat_cmp r.number s.number))

-- the patterns of rows
abbrev pub patterns : List Row → List (List Item)
patterns rows = map (λ r. r.items.now) rows

-- the numbers of rows
abbrev pub numbers : List Row → List ℕ
numbers rows = map (λ r. r.number) rows

-- the pattern at a place
abbrev pub pattern_at : List (List Item) → ℕ → List Item
pattern_at ps x = slice_index_or ps x []

-- none is above a later one
abbrev pub IsSorted : List (List Item) → Type 0
IsSorted ps = (x y : ℕ) → x < y → y < length ps → pattern_cmp (pattern_at ps x) (pattern_at ps y) ≡ Greater → ⊥

-- of rows of one pattern the numbers rise
abbrev pub SameRise : List Row → Type 0
SameRise rows =
    (x y : ℕ) → x < y → y < length rows → pattern_at (patterns rows) x ≡ pattern_at (patterns rows) y
    → slice_index_or (numbers rows) x 0 < slice_index_or (numbers rows) y 0

-- two patterns have so many labels in common at their fronts, and no more
pub record IsCommon (p q : List Item) (n : ℕ) : Type 0 where
  pub same : (d : ℕ) → d < n → slice_index_or p d One ≡ slice_index_or q d One
  pub next : n < length p → n < length q → label_cmp (slice_index_or p n One) (slice_index_or q n One) ≡ Equal → ⊥

-- for each pattern but the first how many labels it has in common with the one before it
pub record AreShared (ps : List (List Item)) (shared : List ℕ) : Type 0 where
  pub len : length shared ≡ length ps
  pub each : (x : ℕ) → x < length ps → 0 < x → IsCommon (pattern_at ps (x - 1)) (pattern_at ps x) (slice_index_or shared x 0)
