use Rattle.std.proofs.Common.{◌≡◌, [], drop, map}
use Rattle.text_tables.specs.Texts.{with_texts}
use Rattle.rule_remarks.specs.Known.{reached}
use Rattle.rule_remarks.proofs.known.reach_of.Given as goal

abbrev pub invariant-loop-word : goal.invariant-loop-word
invariant-loop-word l =
    with_texts l.reach (map (reached l.form) (map (λ word. word.items) (drop l.word-index l.words)))
    ≡ with_texts [] (map (reached l.form) (map (λ word. word.items) l.words))
