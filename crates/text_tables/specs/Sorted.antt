-- Names with values, sorted by name.
use Rattle.std.specs.Prelude.{List, [], fold}
use Rattle.std.specs.List.Sorted.{IsStrictlySortedBy}
use Rattle.text_bytes.specs.Insertion.{put_by, text_order}
use Rattle.text_tables.specs.Pairs.{Pair, names}

-- each name comes before all later ones, so that no name is there twice
abbrev pub NamesRise : List Pair → Type 0
NamesRise pairs = IsStrictlySortedBy text_order (names pairs)

-- a name with its value in its place among others that are sorted by name, byte by byte
abbrev pub put : List Pair → Pair → List Pair
put pairs pair = put_by (λ p. p.0) (λ earlier later. later) pairs pair

-- names with their values, sorted by name
abbrev pub by_name : List Pair → List Pair
by_name pairs = fold put [] pairs
