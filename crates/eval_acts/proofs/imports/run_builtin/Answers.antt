use Rattle.std.proofs.Common.{◌≡◌, false, ap, subst, ◌∙◌}
use Rattle.std.specs.Prelude.{Bool, IfOk}
use Rattle.eval_state.specs.declared.scene.Scene.{Scene}
use Rattle.eval_acts.proofs.Runs.{hwdb_runs, other_runs}
use Rattle.eval_acts.proofs.imports.run_builtin.Goals as goal

pub returns-in-Some-clause-scene : goal.returns-in-Some-clause-scene
returns-in-Some-clause-scene g c =
    ap (λ scene. (scene, false)) c.in_ok-note.ensures.scene
    ∙ other_runs (g.K.Knowledge.known c.args.knowledge.now) c.args.rule.now c.profile-profile.result c.args.command.now c.in-Some.name.now c.args.scene.now
    (c.profile-profile.ensures ∙ ap (λ event. event.profile) c.event.ensures) c.in-Some.ensures

pub returns-in-Some-request_of-clause-scene : goal.returns-in-Some-request_of-clause-scene
returns-in-Some-request_of-clause-scene g c =
    subst (λ (after : Scene × Bool). IfOk c.run_hwdb.result (λ done. (c.run_hwdb.new.scene, done) ≡ after))
    (hwdb_runs (g.K.Knowledge.known c.args.knowledge.now) c.args.rule.now c.profile-profile.result c.args.command.now c.in-Some-request_of.request c.args.scene.now
    (c.profile-profile.ensures ∙ ap (λ event. event.profile) c.event.ensures) c.in-Some-request_of.ensures)
    c.run_hwdb.ensures.scene
