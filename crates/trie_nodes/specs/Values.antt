-- What the nodes of a database hold for the devices that reach them.
use Rattle.std.specs.Prelude.{ℕ, List, [], map, flat_map, slice_index_or}
use Rattle.std.specs.List.{range_with_len}
use Rattle.text_bytes.specs.Text.{Text}
use Rattle.text_core.specs.declared.item.Item.{Item}
use Rattle.trie_nodes.specs.declared.entry.Entry.{Entry}
use Rattle.trie_nodes.specs.declared.node.Node.{Node}
use Rattle.trie_nodes.specs.Tree.{node_at, numbers, path}

-- a property, with the order of its entry and the file and line that it comes from
pub record Value : Type 0 where
  pub key : Text
  pub value : Text
  pub order : ℕ
  pub file : Text
  pub line : ℕ

-- a value, for numbers that none has
abbrev pub no_value : Value
no_value = record { key = []; value = []; order = 0; file = []; line = 0 }

-- the value with a number
abbrev pub value_at : List Value → ℕ → Value
value_at values j = slice_index_or values j no_value

-- a node's values
abbrev pub values_of : List Node → List Value → ℕ → List Value
values_of nodes values i = map (value_at values) (range_with_len (node_at nodes i).first_value (node_at nodes i).values)

-- a value as an entry of a pattern
abbrev pub entry : List Item → Value → Entry
entry pattern v = record { pattern = pattern; key = v.key; value = v.value; order = v.order; file = v.file; line = v.line }

-- node by node and value by value, the entry with the node's path as its pattern
abbrev pub listed : List Node → List Value → List Entry
listed nodes values = flat_map (λ i. map (entry (path nodes i)) (values_of nodes values i)) (numbers nodes)

-- a value as an entry without a pattern
abbrev pub bare : Value → Entry
bare v = entry [] v
