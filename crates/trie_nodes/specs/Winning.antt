-- Which entries count, in terms of the list of all entries.
use Rattle.std.specs.Prelude.{◌≡◌, ◌≤◌, ◌<◌, true, List, ◌∷◌, ◌++◌, All, AllPairs, Contains, map}
use Rattle.std.specs.declared.cmp.Ordering.TheVariants.{Less}
use Rattle.text_bytes.specs.Text.{Text}
use Rattle.text_core.specs.Fits.{fits}
use Rattle.text_bytes.specs.Insertion.{text_order}
use Rattle.trie_nodes.specs.declared.entry.Entry.{Entry}

-- each key comes before all later ones, so that none is there twice
abbrev pub KeysRise : List Entry → Type 0
KeysRise entries = AllPairs (λ (e later : Entry). text_order e.key later.key ≡ Less) entries

-- an entry applies to a device, and has a key
pub record Applies (modalias key : Text) (e : Entry) : Type 0 where
  pub applies : fits e.pattern modalias ≡ true
  pub has_key : e.key ≡ key

-- An entry of the list counts for a device: its pattern fits, and of the entries that fit and have its key none has a
-- greater order, and none listed later an equal one.
pub record Counts (entries : List Entry) (modalias : Text) (e : Entry) : Type 0 where
  pub before : List Entry
  pub after : List Entry
  pub listed : entries ≡ before ++ e ∷ after
  pub applies : fits e.pattern modalias ≡ true
  pub earlier : All (λ (other : Entry). Applies modalias e.key other → other.order ≤ e.order) before
  pub later : All (λ (other : Entry). Applies modalias e.key other → other.order < e.order) after

-- The answer for a device: entries that count, one for each key of an entry that fits, sorted by key.
pub record IsAnswer (entries : List Entry) (modalias : Text) (won : List Entry) : Type 0 where
  pub rises : KeysRise won
  pub counts : All (Counts entries modalias) won
  pub whole : (e : Entry) → Contains entries e → fits e.pattern modalias ≡ true → Contains (map (λ (w : Entry). w.key) won) e.key
