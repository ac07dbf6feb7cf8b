use Rattle.std.proofs.Common.{◌≡◌, ◌++◌, drop, filter, map}
use Rattle.link_files.specs.Lists.{counts, signed, texts_of}
use Rattle.link_files.proofs.lists.add_texts.Given as goal

abbrev pub invariant-loop-word : goal.invariant-loop-word
invariant-loop-word l =
    l.held.items ++ map (signed l.negated) (filter (counts l.kind) (drop l.word-index l.word-items)) ≡ l.fn.held.items ++ texts_of l.kind l.value
