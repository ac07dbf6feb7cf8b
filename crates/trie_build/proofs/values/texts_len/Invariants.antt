use Rattle.std.proofs.Common.{◌≡◌}
use Rattle.trie_build.specs.Writing.{named, place_before}
use Rattle.trie_build.proofs.values.texts_len.Given as goal

abbrev pub invariant-loop-j : goal.invariant-loop-j
invariant-loop-j l = l.len ≡ place_before (named l.entries l.order) l.j
