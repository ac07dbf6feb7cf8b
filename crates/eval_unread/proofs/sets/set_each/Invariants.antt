use Rattle.std.proofs.Common.{◌≡◌, ◌++◌, drop}
use Rattle.std.specs.List.{fold}
use Rattle.eval_assignments.specs.Steps.{set_step}
use Rattle.eval_unread.specs.Unread.{unread_from}
use Rattle.eval_unread.proofs.sets.set_each.Given as goal

abbrev pub invariant-loop-assignment : goal.invariant-loop-assignment
invariant-loop-assignment l = record {
  folds : fold (set_step l.rule) l.scene (drop l.assignment-index l.assignment-items) ≡ fold (set_step l.fn.rule) l.fn.scene l.fn.rule.sets;
  noted : l.notes ++ unread_from l.rule (drop l.assignment-index l.assignment-items) l.scene ≡ l.fn.notes ++ unread_from l.fn.rule l.fn.rule.sets l.fn.scene;
  event : l.scene.state.event ≡ l.fn.scene.state.event;
}
