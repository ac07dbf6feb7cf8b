-- The words that can be completed at the end of some bytes of a row.
use Rattle.std.specs.Prelude.{ℕ, List, Option, option_map}
use Rattle.text_bytes.specs.declared.source_file.FileKind.{FileKind}
use Rattle.text_bytes.specs.Text.{Text}
use Rattle.lsp_words.specs.Entries.{Row, rows_in}
use Rattle.lsp_words.specs.Slots.{slot_of}
use Rattle.lsp_words.specs.Tables.{entries_of}
use Rattle.lsp_words.specs.declared.completions.Completions.{Completions}
use Rattle.lsp_words.specs.declared.kinds.WordKind.{WordKind}
use Rattle.lsp_words.specs.declared.slots.Slot.{Slot}

-- where the word that is typed begins, what it is, and all words of that kind
pub record Offer : Type 0 where
  pub start : ℕ
  pub kind : WordKind
  pub rows : List Row

-- what is offered, as the code has it
abbrev pub offered : Completions → Offer
offered c = record { start = c.start; kind = c.kind; rows = rows_in c.entries }

-- what is offered for a slot
abbrev pub offer_of : Slot → Offer
offer_of slot = record { start = slot.start; kind = slot.kind; rows = entries_of slot.kind }

-- what is offered at the end of some bytes of a row
abbrev pub completions_at : FileKind → Text → Option Offer
completions_at file before = option_map offer_of (slot_of file before)
