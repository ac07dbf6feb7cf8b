use Rattle.std.proofs.Common.{◌≡◌, [], drop, filter, map}
use Rattle.text_tables.specs.Texts.{is_among, with_texts}
use Rattle.rule_remarks.proofs.known.shared_with.Given as goal

abbrev pub invariant-loop-text : goal.invariant-loop-text
invariant-loop-text l =
    with_texts l.both (filter (is_among l.fn.reach) (map (λ text. text.items) (drop l.text-index l.text-items)))
    ≡ with_texts [] (filter (is_among l.fn.reach) (map (λ text. text.items) l.text-items))
