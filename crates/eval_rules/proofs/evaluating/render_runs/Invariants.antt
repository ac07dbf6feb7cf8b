use Rattle.std.proofs.Common.{◌≡◌, ◌++◌, drop}
use Rattle.eval_rules.specs.Outcomes.{commands, late_notes}
use Rattle.eval_rules.proofs.Rendering.{bare}
use Rattle.eval_rules.proofs.evaluating.render_runs.Given as goal

abbrev pub invariant-loop-kept : goal.invariant-loop-kept
invariant-loop-kept l = record {
  commands : l.commands ++ commands l.scene.state (drop l.kept-index l.runs) ≡ commands l.fn.scene.state l.fn.runs;
  notes : l.scene.notes ++ late_notes l.scene.state (drop l.kept-index l.runs) ≡ l.fn.scene.notes ++ late_notes l.fn.scene.state l.fn.runs;
  rest : bare l.scene ≡ bare l.fn.scene;
}
