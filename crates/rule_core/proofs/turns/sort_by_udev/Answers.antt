use Rattle.std.proofs.Common.{rules}
use Rattle.std.proofs.lemmas.List.Sorted.{IsNonDecreasingBy-from_sort_by_key, answers_always}
use Rattle.text_bytes.specs.declared.profile.Profile.TheVariants.{Udev}
use Rattle.rule_core.specs.Turns.{assignment_turns, turn_of_assignment}
use Rattle.rule_core.proofs.Sorting.{sorted_by_turn}
use Rattle.rule_core.proofs.Bounds.{assignment_below}
use Rattle.rule_core.proofs.turns.sort_by_udev.Goals as goal

pub returns : goal.returns
returns c =
    let s = c.in_ok-sort_by_key.ensures in
    sorted_by_turn (turn_of_assignment Udev) (assignment_turns Udev) (assignment_below Udev) c.args.assignments.now.items c.sort_by_key.new.self.items
    (IsNonDecreasingBy-from_sort_by_key (turn_of_assignment Udev) c.sort_by_key.new.self.items s.sorted (λ a r q k. search rules))
    (c.sort_by_key.ensures.stable (turn_of_assignment Udev) (answers_always _ _ _ (λ f a r g h. search rules)))
