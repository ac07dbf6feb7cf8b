-- What the types of entries say about them.
use Rattle.std.specs.Prelude.{◌≡◌, List, ℕ, length, All}
use Rattle.trie_nodes.specs.declared.entry.Entry.{Entry}
use Rattle.trie_build.specs.Sizes.{sets_of}
use Rattle.trie_nodes.specs.Bounds.{set_len}
use Rattle.trie_build.specs.Numbers.{IsSmall}

-- orders and lines have 32 bits, and sets 32 bytes
pub record AreTyped (es : List Entry) : Type 0 where
  pub orders : All (λ (e : Entry). IsSmall e.order) es
  pub lines : All (λ (e : Entry). IsSmall e.line) es
  pub sets : All (λ (bits : List ℕ). length bits ≡ set_len) (sets_of es)
