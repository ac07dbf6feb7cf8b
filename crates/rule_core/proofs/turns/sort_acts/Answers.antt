use Rattle.std.proofs.Common.{rules}
use Rattle.std.proofs.lemmas.List.Sorted.{IsNonDecreasingBy-from_sort_by_key, answers_always}
use Rattle.rule_core.specs.Turns.{turn_of_act}
use Rattle.rule_core.proofs.Sorting.{sorted_by_turn}
use Rattle.rule_core.proofs.Bounds.{act_below}
use Rattle.rule_core.proofs.turns.sort_acts.Goals as goal

pub returns : goal.returns
returns c =
    let s = c.in_ok-sort_by_key.ensures in
    sorted_by_turn turn_of_act 8 act_below c.args.acts.now.items c.sort_by_key.new.self.items
    (IsNonDecreasingBy-from_sort_by_key turn_of_act c.sort_by_key.new.self.items s.sorted (λ a r q k. search rules))
    (c.sort_by_key.ensures.stable turn_of_act (answers_always _ _ _ (λ f a r g h. search rules)))
