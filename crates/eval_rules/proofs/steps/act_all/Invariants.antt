use Rattle.std.proofs.Common.{◌≡◌, drop}
use Rattle.eval_acts.specs.Acts.{act_step}
use Rattle.eval_rules.specs.Watched.{acted, told}
use Rattle.eval_rules.specs.Steps.{walk}
use Rattle.eval_rules.proofs.steps.act_all.Given as goal

abbrev pub invariant-loop-part : goal.invariant-loop-part
invariant-loop-part g l = record {
  walks : walk (told g.W.Watch.telling (acted l.rule) (act_step (g.K.Knowledge.known l.knowledge) l.rule)) (drop l.part-index l.parts) (l.scene, l.watch) ≡ walk (told g.W.Watch.telling (acted l.fn.rule) (act_step (g.K.Knowledge.known l.fn.knowledge) l.fn.rule)) l.fn.parts (l.fn.scene, l.fn.watch);
  event : l.scene.state.event ≡ l.fn.scene.state.event;
}
