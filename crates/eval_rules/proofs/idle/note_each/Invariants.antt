use Rattle.std.proofs.Common.{◌≡◌, drop}
use Rattle.std.specs.List.{fold}
use Rattle.eval_rules.specs.Idle.{note_step}
use Rattle.eval_rules.proofs.idle.note_each.Given as goal

abbrev pub invariant-loop-assignment : goal.invariant-loop-assignment
invariant-loop-assignment l = record {
  folds : fold (note_step l.rule) l.scene (drop l.assignment-index l.assignment-items) ≡ fold (note_step l.fn.rule) l.fn.scene l.fn.rule.sets;
  event : l.scene.state.event ≡ l.fn.scene.state.event;
}
