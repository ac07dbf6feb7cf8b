-- What a list of entries has to be before a database is made of it.
use Rattle.std.specs.Prelude.{◌≢◌, ◌<◌, List, [], length, All}
use Rattle.std.specs.List.{AllAdjacentBelow}
use Rattle.trie_nodes.specs.declared.entry.Entry.{Entry}

-- orders rise strictly, and no key is empty
pub record Rising (entries : List Entry) : Type 0 where
  pub orders : AllAdjacentBelow (λ (e next : Entry). e.order < next.order) entries (length entries)
  pub keys : All (λ (e : Entry). e.key ≢ []) entries
