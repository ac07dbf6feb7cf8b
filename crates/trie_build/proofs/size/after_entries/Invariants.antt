use Rattle.std.proofs.Common.{◌≡◌, ◌+◌, take}
use Rattle.std.specs.List.{sum_by}
use Rattle.trie_build.specs.Shown.{own_len}
use Rattle.trie_build.proofs.size.after_entries.Given as goal

abbrev pub invariant-loop-entry : goal.invariant-loop-entry
invariant-loop-entry l = l.left + sum_by own_len (take l.entry-index l.entries) ≡ l.room
