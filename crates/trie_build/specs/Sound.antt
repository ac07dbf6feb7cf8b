-- Serves inner proofs only: when what is written is an index, in terms of the draft.
use Rattle.std.specs.Prelude.{◌≡◌, ℕ, ◌+◌, ◌<◌, ◌≤◌, ◌==◌, if◌then◌else◌, List, [], length, map, sum_by, take, drop, slice_index_or}
use Rattle.text_core.specs.declared.byte_set.ByteSet.{ByteSet}
use Rattle.text_core.specs.declared.item.Item.{Item}
use Rattle.text_core.specs.declared.item.Item.TheVariants.{Byte, One, Many, Among}
use Rattle.trie_nodes.specs.declared.node.Node.{Node}
use Rattle.trie_nodes.specs.Values.{Value}
use Rattle.trie_nodes.specs.Bounds.{max_entries, max_nodes}
use Rattle.trie_build.specs.Accepted.{HasTexts, IsInPlace, IsLabelled}
use Rattle.trie_build.specs.Contents.{Contents}
use Rattle.trie_build.specs.Kinds.{byte_kind, many_kind, among_kind}
use Rattle.trie_build.specs.Written.{Draft}
use Rattle.trie_build.specs.declared.records.NodeRecord.{NodeRecord}
use Rattle.trie_build.specs.declared.records.ValueRecord.{ValueRecord}
use Rattle.trie_build.specs.declared.records.Span.{Span}

-- how many children and how many values the first i nodes have
abbrev pub first_children : Draft → ℕ → ℕ
first_children d i = sum_by (λ n. n.count) (take i d.nodes)

abbrev pub first_values : Draft → ℕ → ℕ
first_values d i = sum_by (λ n. n.values) (take i d.nodes)

-- At least one node and not too many of each, children and values that follow one another, valid labels, texts that
-- are in the text, and orders that rise.
pub record IsSound (d : Draft) : Type 0 where
  pub some : 0 < length d.nodes
  pub nodes : length d.nodes ≤ max_nodes
  pub values : length d.values ≤ max_entries
  pub sets : length d.sets ≤ max_nodes
  pub in_place : (i : ℕ) (n : NodeRecord) → i < length d.nodes → IsInPlace i (first_children d i) (first_values d i) (slice_index_or d.nodes i n)
  pub children : 1 + first_children d (length d.nodes) ≡ length d.nodes
  pub all_values : first_values d (length d.nodes) ≡ length d.values
  pub labels : (i : ℕ) (n : NodeRecord) → i < length d.nodes → IsLabelled (length d.sets) i (slice_index_or d.nodes i n)
  pub texts : (j : ℕ) (v : ValueRecord) → j < length d.values → HasTexts (length d.text) (slice_index_or d.values j v)
  pub orders : (i j : ℕ) (n : NodeRecord) (v : ValueRecord) → i < length d.nodes → (slice_index_or d.nodes i n).first_value ≤ j
      → j + 1 < (slice_index_or d.nodes i n).first_value + (slice_index_or d.nodes i n).values
      → (slice_index_or d.values j v).order < (slice_index_or d.values (j + 1) v).order

-- the item that a node is reached by
abbrev pub said_label : List ByteSet → NodeRecord → Item
said_label sets n =
    if n.kind == byte_kind then Byte n.byte
    else if n.kind == many_kind then Many
    else if n.kind == among_kind then Among (slice_index_or sets n.set (record { bits = [] }))
    else One

abbrev pub said_node : List ByteSet → NodeRecord → Node
said_node sets n = record { label = said_label sets n; first = n.first; count = n.count; first_value = n.first_value; values = n.values }

abbrev pub said_text : List ℕ → Span → List ℕ
said_text text s = take s.len (drop s.place text)

abbrev pub said_value : List ℕ → ValueRecord → Value
said_value text v = record { key = said_text text v.key; value = said_text text v.value; order = v.order; file = said_text text v.file; line = v.line }

-- what a draft says
abbrev pub said : Draft → Contents
said d = record { nodes = map (said_node d.sets) d.nodes; values = map (said_value d.text) d.values }
