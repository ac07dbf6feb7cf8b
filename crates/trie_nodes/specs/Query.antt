-- What a database answers for a modalias.
use Rattle.std.specs.Prelude.{ℕ, nat_lt, if◌then◌else◌, List, [], map, filter, fold}
use Rattle.std.specs.Borrow.{Bor}
use Rattle.text_bytes.specs.Text.{Text}
use Rattle.text_bytes.specs.Insertion.{put_by}
use Rattle.text_core.specs.Fits.{fits}
use Rattle.trie_nodes.specs.declared.entry.Entry.{Entry}
use Rattle.trie_nodes.specs.declared.lookup.Sourced.{Sourced}

-- the entries for a device: those whose pattern its modalias fits
abbrev pub fitting : List Entry → Text → List Entry
fitting entries modalias = filter (λ e. fits e.pattern modalias) entries

-- of two entries with one key the one that counts: that of the greater order, and of equal orders the one listed later
abbrev pub winner : Entry → Entry → Entry
winner earlier later = if nat_lt later.order earlier.order then earlier else later

-- an entry in its place among others, all listed earlier, that are sorted by key
abbrev pub put : List Entry → Entry → List Entry
put entries later = put_by (λ e. e.key) winner entries later

-- the entries that fit, for each key the one that counts, sorted by key
abbrev pub winners : List Entry → Text → List Entry
winners entries modalias = fold put [] (fitting entries modalias)

-- the key and the value that an entry gives
abbrev pub property : Entry → Text × Text
property e = (e.key, e.value)

-- the properties that apply: keys and values, sorted by key
abbrev pub query : List Entry → Text → List (Text × Text)
query entries modalias = map property (winners entries modalias)

-- a property with the file and the line that it comes from
pub record Origin : Type 0 where
  pub key : Text
  pub value : Text
  pub file : Text
  pub line : ℕ

-- what an entry gives, with its file and line
abbrev pub origin : Entry → Origin
origin e = record { key = e.key; value = e.value; file = e.file; line = e.line }

-- the properties that apply, each with where it comes from
abbrev pub sourced : List Entry → Text → List Origin
sourced entries modalias = map origin (winners entries modalias)

-- the keys and values that pairs of references lead to
abbrev pub shown : List (Bor Text × Bor Text) → List (Text × Text)
shown pairs = map (λ p. (p.0.now, p.1.now)) pairs

-- the property that a `Sourced` shows
abbrev pub shown_origin : Sourced → Origin
shown_origin s = record { key = s.key.now; value = s.value.now; file = s.file.now; line = s.line }
