use Rattle.std.proofs.Common.{◌≡◌, ◌+◌, take}
use Rattle.std.specs.List.{sum_by}
use Rattle.trie_build.specs.Shown.{all_len}
use Rattle.trie_build.proofs.size.texts_fit_apart.Given as goal

abbrev pub invariant-loop-entry : goal.invariant-loop-entry
invariant-loop-entry l = l.left + sum_by all_len (take l.entry-index l.entries) ≡ l.room
