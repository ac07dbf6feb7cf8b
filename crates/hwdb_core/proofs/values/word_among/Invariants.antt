use Rattle.std.proofs.Common.{◌≡◌, drop, map}
use Rattle.hwdb_core.specs.Values.{word_among}
use Rattle.hwdb_core.proofs.values.word_among.Given as goal

abbrev pub invariant-loop-choice : goal.invariant-loop-choice
invariant-loop-choice l =
    word_among (map (λ choice. (choice.0.now, map (λ word. word.now) choice.1.now)) (drop l.choice-index l.choices)) l.name l.value
    ≡ word_among (map (λ choice. (choice.0.now, map (λ word. word.now) choice.1.now)) l.choices) l.name l.value
