use Rattle.std.proofs.Common.{◌≡◌, map, take}
use Rattle.trie_build.specs.Content.{shown}
use Rattle.trie_build.proofs.size.names_of.Given as goal

abbrev pub invariant-loop-entry : goal.invariant-loop-entry
invariant-loop-entry l = shown l.names.items ≡ map (λ e. e.file) (take l.entry-index l.entries)
