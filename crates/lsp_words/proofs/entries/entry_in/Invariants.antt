use Rattle.std.proofs.Common.{◌≡◌, drop}
use Rattle.lsp_words.specs.Entries.{entry_at, rows_in}
use Rattle.lsp_words.proofs.entries.entry_in.Given as goal

-- the tables that are left to look at have the entry that all have
abbrev pub invariant-loop-part : goal.invariant-loop-part
invariant-loop-part l = entry_at (rows_in (drop l.part-index l.parts)) l.size l.text ≡ entry_at (rows_in l.parts) l.size l.text
