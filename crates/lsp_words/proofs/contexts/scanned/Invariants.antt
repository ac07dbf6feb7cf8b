use Rattle.std.proofs.Common.{◌≡◌, ◌≤◌, take}
use Rattle.lsp_words.specs.Contexts.{context_of}
use Rattle.lsp_words.specs.Contexts.{seen}
use Rattle.lsp_words.proofs.contexts.scanned.Given as goal

-- the bytes so far are read
abbrev pub invariant-loop-at : goal.invariant-loop-at
invariant-loop-at l = (seen (take l.at l.row) l.scan ≡ context_of (take l.at l.row)) × (l.scan.start ≤ l.at)
