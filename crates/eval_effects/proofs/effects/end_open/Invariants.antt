use Rattle.std.proofs.Common.{◌≡◌, ◌++◌, drop}
use Rattle.std.specs.List.{fold}
use Rattle.eval_assignments.specs.Steps.{set_step}
use Rattle.eval_effects.specs.Effects.{effects}
use Rattle.eval_effects.proofs.effects.end_open.Given as goal

abbrev pub invariant-loop-assignment : goal.invariant-loop-assignment
invariant-loop-assignment l = record {
  folds : fold (set_step l.rule) l.scene (drop l.assignment-index l.assignment-items) ≡ fold (set_step l.fn.rule) l.fn.scene l.fn.rule.sets;
  reported : l.reported.items ++ effects l.since l.rule l.scene (drop l.assignment-index l.assignment-items) ≡ effects l.fn.since l.fn.rule l.fn.scene l.fn.rule.sets;
  event : l.scene.state.event ≡ l.fn.scene.state.event;
}
