-- Serves inner proofs only: what is found in the parts of files, and what is held of it.
use Rattle.std.specs.Prelude.{◌≡◌, ℕ, ◌+◌, ◌≤◌, List, [], ◌∷◌, ◌++◌, Bool, true, length, sum_by, Option, Some, None, Result, Ok, Err}
use Rattle.text_bytes.specs.Text.{Text}
use Rattle.file_messages.specs.declared.message.Message.{Message}
use Rattle.text_core.specs.Fits.{fits}
use Rattle.text_core.specs.declared.item.Item.{Item}
use Rattle.trie_nodes.specs.declared.Entry.{Entry}
use Rattle.trie_nodes.specs.Query.{fitting}
use Rattle.trie_nodes.specs.Bounds.{max_entries, max_match_bytes, max_text_bytes}
use Rattle.hwdb_core.specs.Properties.{Property}
use Rattle.hwdb_core.specs.Sources.{entries_from, text_len}
use Rattle.hwdb_core.specs.declared.fault.HwdbFault.{HwdbFault}
use Rattle.hwdb_core.specs.declared.fault.HwdbFault.TheVariants.{TooMany, Memory}

-- properties, messages, and how many bytes the matches that give an entry have
pub record Found : Type 0 where
  pub properties : List Property
  pub messages : List Message
  pub match_bytes : ℕ

-- nothing so far
abbrev pub nothing : Found
nothing = record { properties = []; messages = []; match_bytes = 0 }

-- messages alone
abbrev pub only_messages : List Message → Found
only_messages ms = record { properties = []; messages = ms; match_bytes = 0 }

-- what was found, and after it more
unfoldable pub join : Found → Found → Found
join a b = record { properties = a.properties ++ b.properties; messages = a.messages ++ b.messages; match_bytes = a.match_bytes + b.match_bytes }

-- all that is found in the parts of a list
unfoldable pub found_in : {X : Type 0} → (X → Found) → List X → Found
found_in f [] = nothing
found_in f (x ∷ xs) = join (f x) (found_in f xs)

-- What is held while files are read: the modalias that is asked for, if just one is; of the entries found those that
-- it fits, or all; how many were found; how many bytes the matches that give an entry have, and how many the keys and
-- values; the messages.
pub record Held : Type 0 where
  pub wanted : Option Text
  pub entries : List Entry
  pub count : ℕ
  pub match_bytes : ℕ
  pub text_bytes : ℕ
  pub messages : List Message

-- before anything was read
abbrev pub begun : Option Text → Held
begun wanted = record { wanted = wanted; entries = []; count = 0; match_bytes = 0; text_bytes = 0; messages = [] }

-- whether entries of a pattern count
abbrev pub counts : Option Text → List Item → Bool
counts None pattern = true
counts (Some modalias) pattern = fits pattern modalias

-- the entries that count: if one modalias is asked for, those whose pattern it fits
abbrev pub counting : Option Text → List Entry → List Entry
counting None entries = entries
counting (Some modalias) entries = fitting entries modalias

-- what is held, and after it what was found in a part
unfoldable pub onto : Held → Found → Held
onto h a = record {
  wanted = h.wanted;
  entries = h.entries ++ counting h.wanted (entries_from h.count a.properties);
  count = h.count + length a.properties;
  match_bytes = h.match_bytes + a.match_bytes;
  text_bytes = h.text_bytes + sum_by text_len a.properties;
  messages = h.messages ++ a.messages;
}

-- what is held, with one entry more that is counted
abbrev pub one_more : ℕ → Held → Held
one_more len h = record h { count = h.count + 1; text_bytes = h.text_bytes + len }

-- what is held, with one entry more that is kept
abbrev pub with_entry : Entry → Held → Held
with_entry e h = record h { entries = h.entries ++ e ∷ [] }

-- what may be held
pub record IsKept (h : Held) : Type 0 where
  pub entries : h.count ≤ max_entries
  pub match_bytes : h.match_bytes ≤ max_match_bytes
  pub text_bytes : h.text_bytes ≤ max_text_bytes

-- why a part was not added: with it there were too many
abbrev pub FailsAt : Held → Found → HwdbFault → Type 0
FailsAt before part TooMany = IsKept (onto before part) → ⊥
FailsAt before part Memory = Unit {0}

-- a part was added to what was held before, or was not, for a reason
abbrev pub Adds : {T : Type 0} → Held → Held → Found → Result T HwdbFault → Type 0
Adds before now part (Ok _) = now ≡ onto before part
Adds before now part (Err e) = FailsAt before part e
