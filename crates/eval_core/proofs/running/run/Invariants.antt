use Rattle.std.proofs.Common.{◌≡◌, ◌-◌, None, drop, length}
use Rattle.eval_rules.specs.Jumps.{run}
use Rattle.eval_core.specs.Actions.{action_place}
use Rattle.eval_core.specs.Checks.{seen}
use Rattle.eval_core.specs.Marks.{marks}
use Rattle.eval_core.proofs.running.run.Given as goal

abbrev pub invariant-loop-place : goal.invariant-loop-place
invariant-loop-place g l = record {
  whole : run (g.K.Knowledge.known l.knowledge) None (drop l.place l.layout.rules.now) l.scene ≡ run (g.K.Knowledge.known l.fn.knowledge) None l.fn.layout.rules.now l.fn.scene;
  event : l.scene.state.event ≡ l.fn.scene.state.event;
  seen : l.seen.items ≡ seen l.layout.names.now l.fn.scene.state.event;
  found : l.found ≡ marks l.fn.scene.state.event;
  action : l.action ≡ action_place l.fn.scene.state.event.action;
  profile : l.profile ≡ l.fn.scene.state.event.profile;
}

abbrev pub decreases-loop-place : goal.decreases-loop-place
decreases-loop-place g l = length l.layout.rules.now - l.place
