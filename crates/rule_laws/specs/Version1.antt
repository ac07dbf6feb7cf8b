-- The index file of version 1, stated for it alone: what a file has to be, and what it lists; the names end in 1. The
-- header, the nodes, their shape and how a number is read are those of both versions. Whatever depends on the length
-- of a value, or on what is in one, is said here again.
use Rattle.std.specs.Prelude.{◌≡◌, ℕ, ◌+◌, ◌*◌, ◌<◌, ◌≤◌, ◌==◌, if◌then◌else◌, List, [], IsTrue, flat_map, length, map, nat_eq, take, drop}
use Rattle.std.specs.List.{range_with_len, starts_with}
use Rattle.text_core.specs.declared.item.Item.{Item}
use Rattle.text_core.specs.declared.item.Item.TheVariants.{Byte, One, Many, Among}
use Rattle.trie_nodes.specs.Bounds.{max_entries, max_nodes}
use Rattle.trie_nodes.specs.declared.entry.Entry.{Entry}
use Rattle.trie_nodes.specs.declared.node.Node.{Node}
use Rattle.trie_nodes.specs.Tree.{path}
use Rattle.trie_build.specs.Accepted.{HasShape, IsLabelled}
use Rattle.trie_build.specs.Header.{header_of, magic}
use Rattle.trie_build.specs.Kinds.{byte_kind, many_kind, among_kind}
use Rattle.trie_build.specs.Numbers.{number_at}
use Rattle.trie_build.specs.Records.{node}
use Rattle.trie_build.specs.declared.index_fault.IndexFault.{IndexFault}
use Rattle.trie_build.specs.declared.index_fault.IndexFault.TheVariants.{Short, Magic, Version, Size, Shape, Label, Text, Order}
use Rattle.trie_build.specs.declared.records.NodeRecord.{NodeRecord}

-- After a header of 32 bytes come the nodes, of 24 bytes each, the values, of 20, the sets, of 32, and the text:
-- where value j, set s and the text begin, and how long the file is.
abbrev pub value_start_1 : List ℕ → ℕ → ℕ
value_start_1 bytes j = 32 + 24 * (header_of bytes).nodes + 20 * j

abbrev pub set_start_1 : List ℕ → ℕ → ℕ
set_start_1 bytes s = 32 + 24 * (header_of bytes).nodes + 20 * (header_of bytes).values + 32 * s

abbrev pub text_start_1 : List ℕ → ℕ
text_start_1 bytes = 32 + 24 * (header_of bytes).nodes + 20 * (header_of bytes).values + 32 * (header_of bytes).sets

abbrev pub len_1 : List ℕ → ℕ
len_1 bytes = text_start_1 bytes + (header_of bytes).text

-- a value: where its key and its value begin in the text, how many bytes they have, and its order
pub record Value1 : Type 0 where
  pub key_place : ℕ
  pub key_len : ℕ
  pub value_place : ℕ
  pub value_len : ℕ
  pub order : ℕ

-- the value that begins at a place: five numbers
abbrev pub value_at_1 : List ℕ → ℕ → Value1
value_at_1 bytes at = record {
  key_place = number_at bytes at;
  key_len = number_at bytes (at + 4);
  value_place = number_at bytes (at + 8);
  value_len = number_at bytes (at + 12);
  order = number_at bytes (at + 16);
}

-- value j
abbrev pub value_1 : List ℕ → ℕ → Value1
value_1 bytes j = value_at_1 bytes (value_start_1 bytes j)

-- so many bytes of the text, from a place in it on
abbrev pub text_1 : List ℕ → ℕ → ℕ → List ℕ
text_1 bytes place len = take len (drop (text_start_1 bytes + place) bytes)

-- a value's key and value are within a text of some length, and its key is not empty
pub record HasTexts1 (len : ℕ) (v : Value1) : Type 0 where
  pub some : 0 < v.key_len
  pub key : v.key_place + v.key_len ≤ len
  pub value : v.value_place + v.value_len ≤ len

-- at least one node, not too many of each, a reserved field of 0, and the length that follows from these numbers
pub record HasSize1 (bytes : List ℕ) : Type 0 where
  pub some : 0 < (header_of bytes).nodes
  pub nodes : (header_of bytes).nodes ≤ max_nodes
  pub values : (header_of bytes).values ≤ max_entries
  pub sets : (header_of bytes).sets ≤ max_nodes
  pub reserved : (header_of bytes).reserved ≡ 0
  pub whole : length bytes ≡ len_1 bytes

-- the orders of a node's values rise strictly
abbrev pub OrdersRise1 : List ℕ → NodeRecord → Type 0
OrdersRise1 bytes n = (j : ℕ) → n.first_value ≤ j → j + 1 < n.first_value + n.values → (value_1 bytes j).order < (value_1 bytes (j + 1)).order

-- what a check requires
abbrev pub Holds1 : IndexFault → List ℕ → Type 0
Holds1 Short bytes = 32 ≤ length bytes
Holds1 Magic bytes = IsTrue (starts_with nat_eq bytes magic)
Holds1 Version bytes = (header_of bytes).version ≡ 1
Holds1 Size bytes = HasSize1 bytes
Holds1 Shape bytes = HasShape bytes
Holds1 Label bytes = (i : ℕ) → i < (header_of bytes).nodes → IsLabelled (header_of bytes).sets i (node bytes i)
Holds1 Text bytes = (j : ℕ) → j < (header_of bytes).values → HasTexts1 (header_of bytes).text (value_1 bytes j)
Holds1 Order bytes = (i : ℕ) → i < (header_of bytes).nodes → OrdersRise1 bytes (node bytes i)

-- a file is an index of version 1 if each check holds
abbrev pub Accepted1 : List ℕ → Type 0
Accepted1 bytes = (check : IndexFault) → Holds1 check bytes

-- the item that leads to a node; the root's is never used
abbrev pub label_1 : List ℕ → NodeRecord → Item
label_1 bytes n =
    if n.kind == byte_kind then Byte n.byte
    else if n.kind == many_kind then Many
    else if n.kind == among_kind then Among (record { bits = take 32 (drop (set_start_1 bytes n.set) bytes) })
    else One

-- node i
abbrev pub node_1 : List ℕ → ℕ → Node
node_1 bytes i = record {
  label = label_1 bytes (node bytes i);
  first = (node bytes i).first;
  count = (node bytes i).count;
  first_value = (node bytes i).first_value;
  values = (node bytes i).values;
}

-- the nodes, by number
abbrev pub nodes_1 : List ℕ → List Node
nodes_1 bytes = map (node_1 bytes) (range_with_len 0 (header_of bytes).nodes)

-- value j as an entry of a pattern: with its key, value and order, and with no file and line 0
abbrev pub entry_1 : List ℕ → List Item → ℕ → Entry
entry_1 bytes pattern j = record {
  pattern = pattern;
  key = text_1 bytes (value_1 bytes j).key_place (value_1 bytes j).key_len;
  value = text_1 bytes (value_1 bytes j).value_place (value_1 bytes j).value_len;
  order = (value_1 bytes j).order;
  file = [];
  line = 0;
}

-- node by node and value by value, the entry with the node's path as its pattern
abbrev pub listed_1 : List ℕ → List Entry
listed_1 bytes =
    flat_map (λ i. map (entry_1 bytes (path (nodes_1 bytes) i)) (range_with_len (node bytes i).first_value (node bytes i).values))
    (range_with_len 0 (header_of bytes).nodes)
