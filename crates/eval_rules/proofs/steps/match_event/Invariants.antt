use Rattle.std.proofs.Common.{◌≡◌, drop}
use Rattle.eval_rules.specs.Watched.{meeting, told}
use Rattle.eval_rules.specs.Steps.{plain_step, walk}
use Rattle.eval_rules.proofs.steps.match_event.Given as goal

abbrev pub invariant-loop-part : goal.invariant-loop-part
invariant-loop-part g l = record {
  walks : walk (told g.W.Watch.telling (λ part went. meeting l.rule part) (plain_step l.rule)) (drop l.part-index l.parts) (l.scene, l.watch) ≡ walk (told g.W.Watch.telling (λ part went. meeting l.fn.rule part) (plain_step l.fn.rule)) l.fn.parts (l.fn.scene, l.fn.watch);
  event : l.scene.state.event ≡ l.fn.scene.state.event;
}
