-- How long the index file of a list of entries is, and how large a trie may be.
use Rattle.std.specs.Prelude.{ℕ, ◌+◌, ◌-◌, ◌*◌, ◌^◌, ◌≤◌, List, ◌∷◌, [], length, map, flat_map, sum_by, slice_index_or}
use Rattle.text_bytes.specs.Text.{Text}
use Rattle.text_bytes.specs.Insertion.{text_order}
use Rattle.text_core.specs.declared.item.Item.{Item}
use Rattle.text_core.specs.declared.item.Item.TheVariants.{Byte, One, Many, Among}
use Rattle.trie_nodes.specs.Bounds.{header_len, max_entries, max_nodes, node_len, second_version, set_len, value_len}
use Rattle.trie_nodes.specs.declared.entry.Entry.{Entry}
use Rattle.trie_build.specs.Distinct.{distinct}
use Rattle.trie_build.specs.Paths.{paths_of}

-- the bytes of a label's set, if it has one
abbrev pub set_in : Item → List (List ℕ)
set_in (Byte b) = []
set_in One = []
set_in Many = []
set_in (Among set) = set.bits ∷ []

-- a path's last label; for the root, which has none, one without a set
abbrev pub last_label : List Item → Item
last_label p = slice_index_or p (length p - 1) One

-- the sets by which nodes are reached, as their bytes, each once, sorted
abbrev pub sets_of : List Entry → List (List ℕ)
sets_of es = distinct text_order (flat_map (λ p. set_in (last_label p)) (paths_of es))

-- the names of the files that the entries come from, each once, sorted
abbrev pub names_of : List Entry → List Text
names_of es = distinct text_order (map (λ e. e.file) es)

-- the bytes of the texts of an index: each entry's key and value, and each file's name once
abbrev pub text_len : List Entry → ℕ
text_len es = sum_by (λ e. length e.key + length e.value) es + sum_by length (names_of es)

-- how many bytes the index of a list of entries has, in the version that is written
abbrev pub index_len : List Entry → ℕ
index_len es = header_len + node_len * length (paths_of es) + value_len second_version * length es + set_len * length (sets_of es) + text_len es

-- how many bytes its index may have
abbrev pub max_index_len : ℕ
max_index_len = 2 ^ 32 - 1

-- a trie of a list of entries is not too large: by its entries, its nodes and the bytes of its index
pub record KeepsBounds (es : List Entry) : Type 0 where
  pub entries : length es ≤ max_entries
  pub nodes : length (paths_of es) ≤ max_nodes
  pub index : index_len es ≤ max_index_len
