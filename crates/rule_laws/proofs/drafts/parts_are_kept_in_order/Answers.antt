use Rattle.std.specs.List.{filter_map}
use Rattle.rule_core.specs.Drafts.{act_in, assignment_in}
use Rattle.rule_core.specs.Turns.{assignment_turns, turn_of_act, turn_of_assignment}
use Rattle.rule_core.proofs.Sorting.{are_in_order}
use Rattle.rule_core.proofs.Bounds.{act_below, assignment_below}
use Rattle.rule_laws.proofs.drafts.parts_are_kept_in_order.Goals as goal

pub returns : goal.returns
returns c = λ by parts. record {
  acts = are_in_order turn_of_act 8 act_below (filter_map act_in parts);
  sets = are_in_order (turn_of_assignment by) (assignment_turns by) (assignment_below by) (filter_map assignment_in parts);
}
