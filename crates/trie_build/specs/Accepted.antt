-- Which files are an index: eight conditions; any other file fails one of them first.
use Rattle.std.specs.Prelude.{◌≡◌, ◌≢◌, ◌↔◌, ◌⊎◌, ℕ, ◌+◌, ◌<◌, ◌≤◌, List, IsTrue, length, map, nat_eq, sum}
use Rattle.std.specs.List.{range_with_len, starts_with}
use Rattle.trie_nodes.specs.Bounds.{first_version, header_len, max_entries, max_nodes, second_version}
use Rattle.trie_build.specs.Header.{header_of, magic, whole_len}
use Rattle.trie_build.specs.Kinds.{root_kind, byte_kind, among_kind}
use Rattle.trie_build.specs.Records.{node, value}
use Rattle.trie_build.specs.declared.records.NodeRecord.{NodeRecord}
use Rattle.trie_build.specs.declared.records.ValueRecord.{ValueRecord}
use Rattle.trie_build.specs.declared.records.Span.{Span}
use Rattle.trie_build.specs.declared.index_fault.IndexFault.{IndexFault}
use Rattle.trie_build.specs.declared.index_fault.IndexFault.TheVariants.{Short, Magic, Version, Size, Shape, Label, Text, Order}

-- at least one node, not too many of each, a reserved field of 0, and the length that follows from these numbers
pub record HasSize (bytes : List ℕ) : Type 0 where
  pub some : 0 < (header_of bytes).nodes
  pub nodes : (header_of bytes).nodes ≤ max_nodes
  pub values : (header_of bytes).values ≤ max_entries
  pub sets : (header_of bytes).sets ≤ max_nodes
  pub reserved : (header_of bytes).reserved ≡ 0
  pub whole : length bytes ≡ whole_len (header_of bytes)

-- how many children and how many values the nodes before node i have
abbrev pub children_before : List ℕ → ℕ → ℕ
children_before bytes i = sum (map (λ k. (node bytes k).count) (range_with_len 0 i))

abbrev pub values_before : List ℕ → ℕ → ℕ
values_before bytes i = sum (map (λ k. (node bytes k).values) (range_with_len 0 i))

-- Node i has its children after those of the nodes before it, the root being no child, and after itself, and its
-- values after those of the nodes before it.
pub record IsInPlace (i children values : ℕ) (n : NodeRecord) : Type 0 where
  pub first : n.first ≡ 1 + children
  pub later : i < n.first
  pub first_value : n.first_value ≡ values

-- each node is in its place, their children are all nodes but the root, and their values are all values
pub record HasShape (bytes : List ℕ) : Type 0 where
  pub each : (i : ℕ) → i < (header_of bytes).nodes → IsInPlace i (children_before bytes i) (values_before bytes i) (node bytes i)
  pub children : 1 + children_before bytes (header_of bytes).nodes ≡ (header_of bytes).nodes
  pub values : values_before bytes (header_of bytes).nodes ≡ (header_of bytes).values

-- Node i of an index of some sets is labelled: as the root if it is node 0, and else as one of the items of a
-- pattern. Only a byte is given with a byte, only a set with the number of one.
pub record IsLabelled (sets i : ℕ) (n : NodeRecord) : Type 0 where
  pub root : (n.kind ≡ root_kind) ↔ (i ≡ 0)
  pub known : n.kind ≤ among_kind
  pub byte : n.kind ≢ byte_kind → n.byte ≡ 0
  pub first_zero : n.first_zero ≡ 0
  pub second_zero : n.second_zero ≡ 0
  pub no_set : n.kind ≢ among_kind → n.set ≡ 0
  pub a_set : n.kind ≡ among_kind → n.set < sets

-- a part is within a text of some length
abbrev pub IsWithin : ℕ → Span → Type 0
IsWithin len span = span.place + span.len ≤ len

-- a value's texts are within the text, and its key is not empty
pub record HasTexts (len : ℕ) (v : ValueRecord) : Type 0 where
  pub some : 0 < v.key.len
  pub key : IsWithin len v.key
  pub value : IsWithin len v.value
  pub file : IsWithin len v.file

-- the orders of a node's values rise strictly
abbrev pub OrdersRise : List ℕ → NodeRecord → Type 0
OrdersRise bytes n = (j : ℕ) → n.first_value ≤ j → j + 1 < n.first_value + n.values → (value bytes j).order < (value bytes (j + 1)).order

-- what a check requires
abbrev pub Holds : IndexFault → List ℕ → Type 0
Holds Short bytes = header_len ≤ length bytes
Holds Magic bytes = IsTrue (starts_with nat_eq bytes magic)
Holds Version bytes = ((header_of bytes).version ≡ first_version) ⊎ ((header_of bytes).version ≡ second_version)
Holds Size bytes = HasSize bytes
Holds Shape bytes = HasShape bytes
Holds Label bytes = (i : ℕ) → i < (header_of bytes).nodes → IsLabelled (header_of bytes).sets i (node bytes i)
Holds Text bytes = (j : ℕ) → j < (header_of bytes).values → HasTexts (header_of bytes).text (value bytes j)
Holds Order bytes = (i : ℕ) → i < (header_of bytes).nodes → OrdersRise bytes (node bytes i)

-- the place of a check among all
abbrev pub check_place : IndexFault → ℕ
check_place Short = 0
check_place Magic = 1
check_place Version = 2
check_place Size = 3
check_place Shape = 4
check_place Label = 5
check_place Text = 6
check_place Order = 7

-- a file is an index if each check holds
abbrev pub Accepted : List ℕ → Type 0
Accepted bytes = (check : IndexFault) → Holds check bytes

-- a check is the first that a file fails: it does not hold, and all before it do
pub record FailsFirst (bytes : List ℕ) (check : IndexFault) : Type 0 where
  pub earlier : (other : IndexFault) → check_place other < check_place check → Holds other bytes
  pub fails : Holds check bytes → ⊥
