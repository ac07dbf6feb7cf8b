-- Serves inner proofs only: what is written, by the nodes and the entries that it is written from.
use Rattle.std.specs.Prelude.{ℕ, Bool, ◌+◌, ◌==◌, if◌then◌else◌, List, length, map, flat_map, take, sum_by}
use Rattle.std.specs.List.{range_with_len}
use Rattle.text_bytes.specs.Text.{Text}
use Rattle.trie_nodes.specs.declared.entry.Entry.{Entry}
use Rattle.trie_build.specs.Content.{entry_at}
use Rattle.trie_nodes.specs.Tree.{node_at}
use Rattle.trie_nodes.specs.declared.node.Node.{Node}
use Rattle.trie_build.specs.Distinct.{Rises, number_in}
use Rattle.text_bytes.specs.Insertion.{text_order}
use Rattle.trie_build.specs.Kinds.{root_kind}
use Rattle.trie_build.specs.Numbers.{IsSmall}
use Rattle.trie_build.specs.declared.records.NodeRecord.{NodeRecord}
use Rattle.trie_build.specs.declared.records.ValueRecord.{ValueRecord}
use Rattle.trie_build.specs.Image.{all_names, label_byte, label_kind, label_set, own_text}

-- the entries with these numbers
abbrev pub named : List Entry → List ℕ → List Entry
named es numbers = map (entry_at es) numbers

-- a node as it is written, by whether it is the root and by the values before its own
abbrev pub record_of : List (List ℕ) → Bool → ℕ → Node → NodeRecord
record_of sets is_root first_value n = record {
  kind = if is_root then root_kind else label_kind n.label;
  byte = label_byte n.label;
  first_zero = 0;
  second_zero = 0;
  set = label_set sets n.label;
  first = n.first;
  count = n.count;
  first_value = first_value;
  values = n.values;
}

-- node i of some, as it is written
abbrev pub node_record : List (List ℕ) → List Node → ℕ → NodeRecord
node_record sets nodes i = record_of sets (i == 0) (sum_by (λ n. n.values) (take i nodes)) (node_at nodes i)

abbrev pub node_records : List (List ℕ) → List Node → List NodeRecord
node_records sets nodes = map (node_record sets nodes) (range_with_len 0 (length nodes))

-- where the texts of entry j of some begin, and where a name does after all of them
abbrev pub place_before : List Entry → ℕ → ℕ
place_before es j = length (flat_map own_text (take j es))

abbrev pub name_before : List Entry → List Text → ℕ → ℕ
name_before es names k = length (flat_map own_text es) + length (all_names (take k names))

-- entry j of some, as it is written
abbrev pub value_record : List Entry → List Text → ℕ → ValueRecord
value_record es names j = record {
  key = record { place = place_before es j; len = length (entry_at es j).key };
  value = record { place = place_before es j + length (entry_at es j).key; len = length (entry_at es j).value };
  order = (entry_at es j).order;
  file = record { place = name_before es names (number_in text_order names (entry_at es j).file); len = length (entry_at es j).file };
  line = (entry_at es j).line;
}

abbrev pub value_records : List Entry → List Text → List ValueRecord
value_records es names = map (value_record es names) (range_with_len 0 (length es))

-- where the names begin, and where the last of them ends
abbrev pub name_places : List Entry → List Text → List ℕ
name_places es names = map (name_before es names) (range_with_len 0 (length names + 1))

-- texts that rise, and are few
pub record AreTexts (texts : List Text) : Type 0 where
  pub rise : Rises text_order texts
  pub few : IsSmall (length texts)
