use Rattle.std.proofs.Common.{◌≡◌, drop}
use Rattle.eval_rules.specs.Watched.{comparing, told}
use Rattle.eval_rules.specs.Steps.{result_step, walk}
use Rattle.eval_rules.proofs.steps.match_results.Given as goal

abbrev pub invariant-loop-part : goal.invariant-loop-part
invariant-loop-part g l = record {
  walks : walk (told g.W.Watch.telling (λ part went. comparing l.rule part) result_step) (drop l.part-index l.parts) (l.scene, l.watch) ≡ walk (told g.W.Watch.telling (λ part went. comparing l.fn.rule part) result_step) l.fn.parts (l.fn.scene, l.fn.watch);
  event : l.scene.state.event ≡ l.fn.scene.state.event;
}
