-- What a trie holds: its entries, as they were given, and its nodes with their values.
use Rattle.std.specs.Prelude.{ℕ, ◌≡◌, ◌<◌, List, [], length, map, slice_index_or}
use Rattle.std.specs.Borrow.{Bor}
use Rattle.trie_nodes.specs.Orders.{Rising}
use Rattle.trie_nodes.specs.declared.entry.Entry.{Entry}
use Rattle.trie_nodes.specs.Tree.{Shape, path}
use Rattle.trie_nodes.specs.Values.{Value, values_of}
use Rattle.trie_nodes.specs.declared.node.Node.{Node}
use Rattle.trie_build.specs.Paths.{ending_at, paths_of}

-- an entry, for numbers that none has
abbrev pub no_entry : Entry
no_entry = record { pattern = []; key = []; value = []; order = 0; file = []; line = 0 }

-- the entry with a number
abbrev pub entry_at : List Entry → ℕ → Entry
entry_at es i = slice_index_or es i no_entry

-- an entry as the value of a node
abbrev pub value_of : Entry → Value
value_of e = record { key = e.key; value = e.value; order = e.order; file = e.file; line = e.line }

-- the entries, the numbers of the entries that are the values, and the nodes
pub record Content : Type 0 where
  pub entries : List Entry
  pub numbers : List ℕ
  pub nodes : List Node

-- the values of the nodes
abbrev pub all_values : Content → List Value
all_values t = map (λ i. value_of (entry_at t.entries i)) t.numbers

-- The nodes are those of the distinct prefixes, in their order. The values are as many as the entries, and those of a
-- node are the entries whose pattern is its path, in their order.
pub record IsTrie (t : Content) : Type 0 where
  pub rising : Rising t.entries
  pub shape : Shape t.nodes
  pub count : length t.nodes ≡ length (paths_of t.entries)
  pub paths : (i : ℕ) → i < length t.nodes → path t.nodes i ≡ slice_index_or (paths_of t.entries) i []
  pub values : length t.numbers ≡ length t.entries
  pub each : (i : ℕ) → i < length t.nodes → values_of t.nodes (all_values t) i ≡ map value_of (ending_at t.entries (path t.nodes i))

-- the texts that references lead to
abbrev pub shown : List (Bor (List ℕ)) → List (List ℕ)
shown texts = map (λ t. t.now) texts
