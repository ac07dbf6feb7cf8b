-- The index of a list of entries: its nodes, values, sets and text.
use Rattle.std.specs.Prelude.{ℕ, ◌+◌, List, ◌∷◌, [], ◌++◌, length, map, flat_map, take, sum_by, count_by}
use Rattle.std.specs.List.{enumerate_from}
use Rattle.text_bytes.specs.Text.{Text}
use Rattle.text_core.specs.declared.byte_set.ByteSet.{ByteSet}
use Rattle.text_core.specs.declared.item.Item.{Item}
use Rattle.text_core.specs.declared.item.Item.TheVariants.{Byte, One, Many, Among}
use Rattle.trie_nodes.specs.declared.entry.Entry.{Entry}
use Rattle.trie_build.specs.Distinct.{number_in}
use Rattle.trie_build.specs.Paths.{ending_at, is_child, paths_of}
use Rattle.trie_build.specs.Sizes.{last_label, names_of, sets_of}
use Rattle.text_bytes.specs.Insertion.{text_order}
use Rattle.trie_build.specs.Kinds.{root_kind, byte_kind, one_kind, many_kind, among_kind}
use Rattle.trie_build.specs.Written.{Draft, written}
use Rattle.trie_build.specs.declared.records.NodeRecord.{NodeRecord}
use Rattle.trie_build.specs.declared.records.ValueRecord.{ValueRecord}

-- how many children the node with a path has
abbrev pub child_count : List Entry → List Item → ℕ
child_count es p = count_by (is_child p) (paths_of es)

-- how many values the node with a path has
abbrev pub value_count : List Entry → List Item → ℕ
value_count es p = length (ending_at es p)

-- the entries node by node, which is the order of the values
abbrev pub by_nodes : List Entry → List Entry
by_nodes es = flat_map (ending_at es) (paths_of es)

-- how a label is written: its kind, its byte and the number of its set among some
abbrev pub label_kind : Item → ℕ
label_kind (Byte b) = byte_kind
label_kind One = one_kind
label_kind Many = many_kind
label_kind (Among set) = among_kind

abbrev pub label_byte : Item → ℕ
label_byte (Byte b) = b
label_byte One = 0
label_byte Many = 0
label_byte (Among set) = 0

abbrev pub label_set : List (List ℕ) → Item → ℕ
label_set sets (Byte b) = 0
label_set sets One = 0
label_set sets Many = 0
label_set sets (Among set) = number_in text_order sets set.bits

-- the kind of the node with a path: the root's is its own, and the others' is that of the last label
abbrev pub path_kind : List Item → ℕ
path_kind [] = root_kind
path_kind (x ∷ p) = label_kind (last_label (x ∷ p))

-- the node with a number and a path
abbrev pub image_node : List Entry → ℕ → List Item → NodeRecord
image_node es i p = record {
  kind = path_kind p;
  byte = label_byte (last_label p);
  first_zero = 0;
  second_zero = 0;
  set = label_set (sets_of es) (last_label p);
  first = 1 + sum_by (child_count es) (take i (paths_of es));
  count = child_count es p;
  first_value = sum_by (value_count es) (take i (paths_of es));
  values = value_count es p;
}

-- the bytes of a set, as a set
abbrev pub as_set : List ℕ → ByteSet
as_set bits = record { bits = bits }

-- the text: the key and the value of each value, and after all of these the names of the files
abbrev pub own_text : Entry → Text
own_text e = e.key ++ e.value

abbrev pub all_texts : List Entry → Text
all_texts es = flat_map own_text (by_nodes es)

abbrev pub all_names : List Text → Text
all_names names = flat_map (λ name. name) names

abbrev pub image_text : List Entry → Text
image_text es = all_texts es ++ all_names (names_of es)

-- where the texts of value j begin
abbrev pub text_place : List Entry → ℕ → ℕ
text_place es j = length (flat_map own_text (take j (by_nodes es)))

-- where a file's name begins
abbrev pub name_place : List Entry → Text → ℕ
name_place es name = length (all_texts es) + length (all_names (take (number_in text_order (names_of es) name) (names_of es)))

-- the value with a number, of an entry
abbrev pub image_value : List Entry → ℕ → Entry → ValueRecord
image_value es j e = record {
  key = record { place = text_place es j; len = length e.key };
  value = record { place = text_place es j + length e.key; len = length e.value };
  order = e.order;
  file = record { place = name_place es e.file; len = length e.file };
  line = e.line;
}

-- the nodes, the values, the sets and the text
abbrev pub draft_of : List Entry → Draft
draft_of es = record {
  nodes = map (λ n. image_node es n.0 n.1) (enumerate_from 0 (paths_of es));
  values = map (λ v. image_value es v.0 v.1) (enumerate_from 0 (by_nodes es));
  sets = map as_set (sets_of es);
  text = image_text es;
}

-- the bytes of the index
unfoldable pub image : List Entry → List ℕ
image es = written (draft_of es)
