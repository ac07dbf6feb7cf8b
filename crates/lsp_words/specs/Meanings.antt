-- What the word at a place of a row means.
use Rattle.std.specs.Prelude.{ℕ, ◌+◌, Bool, true, not, ◌||◌, ◌==◌, nat_le, if◌then◌else◌, drop, length, take, Contains, Option, Some, None}
use Rattle.std.specs.List.{prefix_len}
use Rattle.std.specs.Option.{option_and_then}
use Rattle.text_bytes.specs.Names.{bar, close_brace, double_quote, equals, is_blank}
use Rattle.text_bytes.specs.declared.source_file.FileKind.{FileKind}
use Rattle.text_bytes.specs.Text.{Text}
use Rattle.rule_tokens.specs.Grammar.{is_key_byte}
use Rattle.lsp_words.specs.Classes.{is_operator_byte}
use Rattle.lsp_words.specs.Entries.{Row, entry_at}
use Rattle.lsp_words.specs.Slots.{slot_of}
use Rattle.lsp_words.specs.Tables.{entries_of}
use Rattle.lsp_words.specs.declared.kinds.WordKind.{WordKind}
use Rattle.lsp_words.specs.declared.kinds.WordKind.TheVariants as kind
use Rattle.lsp_words.specs.declared.meanings.Meaning.{Meaning}
use Rattle.lsp_words.specs.declared.slots.Slot.{Slot}

-- a word of a row, from its first byte up to a place, and what is told about it
pub record Found : Type 0 where
  pub start : ℕ
  pub end : ℕ
  pub text : Text

-- what is found, as the code has it
abbrev pub shown : Meaning → Found
shown m = record { start = m.start; end = m.end; text = m.text.now }

-- whether a byte may be in a word of a kind
abbrev pub is_in : WordKind → ℕ → Bool
is_in kind.Key b = is_key_byte b
is_in kind.Operator b = is_operator_byte b
is_in kind.Match b = true
is_in kind.RuleOption b = not (is_blank b || b == double_quote)
is_in _ b = not (is_blank b || (b == double_quote || (b == close_brace || (b == bar || b == equals))))

-- how long the word of a kind at the front of a text is
abbrev pub size_of : WordKind → Text → ℕ
size_of k text = prefix_len (is_in k) text

-- the word that a byte is in, if it is in one, and otherwise the word that ends there
abbrev pub chosen : ℕ → Option Slot → Option Slot → Option Slot
chosen at None other = other
chosen at (Some slot) other = if nat_le slot.start at then Some slot else other

-- the word at a place of a row
unfoldable pub slot_around : FileKind → Text → ℕ → Option Slot
slot_around file row at = chosen at (slot_of file (take (at + 1) row)) (slot_of file (take at row))

-- what is told about the word that begins at a place, if it reaches to the other place
abbrev pub told : ℕ → ℕ → Row → Option Found
told at start row =
    if nat_le at (start + length row.name) then Some (record { start = start; end = start + length row.name; text = row.text }) else None

-- what is told about the word of a slot
unfoldable pub meaning_in : Text → ℕ → Slot → Option Found
meaning_in row at slot =
    let text = drop slot.start row in option_and_then (told at slot.start) (entry_at (entries_of slot.kind) (size_of slot.kind text) text)

-- what is told about the word at a place of a row
abbrev pub meaning_at : FileKind → Text → ℕ → Option Found
meaning_at file row at = option_and_then (meaning_in row at) (slot_around file row at)

-- a table has this word, with this text
abbrev pub IsTold : Text → Text → Type 0
IsTold name text = (k : WordKind) × Contains (entries_of k) (record { name = name; text = text })
