use Rattle.std.proofs.Common.{◌≡◌, ◌++◌, flat_map, take}
use Rattle.trie_build.specs.Image.{own_text}
use Rattle.trie_build.specs.Writing.{named}
use Rattle.trie_build.proofs.values.push_texts.Given as goal

abbrev pub invariant-loop-j : goal.invariant-loop-j
invariant-loop-j l = l.out.items ≡ l.initial.out.items ++ flat_map own_text (take l.j (named l.entries l.order))
