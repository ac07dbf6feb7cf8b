-- Serves inner proofs only: the place of an entry among others.
use Rattle.std.specs.Prelude.{◌≡◌, false, List, ◌∷◌, All}
use Rattle.std.specs.Ordering.{is_lt, match_ordering}
use Rattle.std.specs.declared.cmp.Ordering.{Ordering}
use Rattle.text_bytes.specs.Text.{Text}
use Rattle.text_bytes.specs.Insertion.{text_order}
use Rattle.trie_nodes.specs.Query.{winner}
use Rattle.trie_nodes.specs.declared.entry.Entry.{Entry}

-- no entry has a key after this one
abbrev pub NoneAfter : List Entry → Text → Type 0
NoneAfter entries key = All (λ (e : Entry). is_lt (text_order key e.key) ≡ false) entries

-- one step of `put`, by how the key of x compares with that of e
abbrev pub placed : Ordering → Entry → Entry → List Entry → List Entry → List Entry
placed order e x xs following = match_ordering order (x ∷ following) (winner x e ∷ xs) (e ∷ x ∷ xs)
