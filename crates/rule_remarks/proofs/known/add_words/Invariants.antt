use Rattle.std.proofs.Common.{◌≡◌, drop, map}
use Rattle.rule_remarks.specs.Known.{with_words}
use Rattle.rule_remarks.proofs.known.add_words.Given as goal

abbrev pub invariant-loop-word : goal.invariant-loop-word
invariant-loop-word l =
    with_words l.key l.texts (map (λ word. word.items) (drop l.word-index l.words)) ≡ with_words l.key l.initial.texts (map (λ word. word.items) l.words)
