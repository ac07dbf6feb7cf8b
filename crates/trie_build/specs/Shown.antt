-- Serves inner proofs only: the length of an index, by the nodes that are made for it.
use Rattle.std.specs.Prelude.{ℕ, ◌+◌, ◌*◌, List, flat_map, length}
use Rattle.trie_nodes.specs.Bounds.{header_len, node_len, second_version, set_len, value_len}
use Rattle.trie_nodes.specs.declared.entry.Entry.{Entry}
use Rattle.trie_nodes.specs.declared.node.Node.{Node}
use Rattle.trie_build.specs.Distinct.{distinct}
use Rattle.trie_build.specs.Sizes.{set_in, text_len}
use Rattle.text_bytes.specs.Insertion.{text_order}

-- how many bytes the key and the value of an entry have
abbrev pub own_len : Entry → ℕ
own_len e = length e.key + length e.value

-- and with the name of its file
abbrev pub all_len : Entry → ℕ
all_len e = own_len e + length e.file

-- the sets of the nodes' labels, each once
abbrev pub node_sets : List Node → List (List ℕ)
node_sets nodes = distinct text_order (flat_map (λ n. set_in n.label) nodes)

-- how many bytes the index of entries has whose nodes these are
abbrev pub index_len_by : List Node → List Entry → ℕ
index_len_by nodes es = header_len + node_len * length nodes + value_len second_version * length es + set_len * length (node_sets nodes) + text_len es
