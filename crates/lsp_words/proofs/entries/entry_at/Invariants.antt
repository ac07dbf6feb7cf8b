use Rattle.std.proofs.Common.{◌≡◌, map, drop}
use Rattle.lsp_words.specs.Entries.{entry_at, row_of}
use Rattle.lsp_words.proofs.entries.entry_at.Given as goal

-- the entries that are left to look at have the one that all have
abbrev pub invariant-loop-entry : goal.invariant-loop-entry
invariant-loop-entry l = entry_at (map row_of (drop l.entry-index l.table)) l.size l.text ≡ entry_at (map row_of l.table) l.size l.text
