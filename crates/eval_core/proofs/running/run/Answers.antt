use Rattle.std.proofs.Common.{◌≡◌, ◌+◌, ◌∙◌, List, ap, cond, get_or, refl, sym}
use Rattle.builtin_devices.specs.Knowledge.{Known}
use Rattle.rule_types.specs.Rules.{Rule}
use Rattle.device_core.specs.Values.{EventValue}
use Rattle.eval_state.specs.declared.scene.Scene.{Scene}
use Rattle.eval_rules.specs.Steps.{Went, apply}
use Rattle.eval_core.specs.Actions.{action_place}
use Rattle.eval_core.specs.Marks.{marks}
use Rattle.eval_core.proofs.Coursing.{predicted_so}
use Rattle.eval_core.proofs.Skipping.{run_after, run_end}
use Rattle.eval_rules.proofs.Staying.{event_stays}
use Rattle.eval_core.proofs.running.run.Goals as goal

pub loop-place-init : goal.loop-place-init
loop-place-init g c = record {
  whole = refl;
  event = refl;
  seen = c.in_ok-seen.ensures;
  found = c.marks-found.ensures ∙ ap marks c.event.ensures;
  action = c.action_place-action.ensures ∙ ap action_place (c.action.ensures ∙ ap (λ (v : EventValue). v.action) c.event-3.ensures);
  profile = c.profile-profile.ensures ∙ ap (λ (v : EventValue). v.profile) c.event-2.ensures;
}

pub step-requires : goal.step-requires
step-requires g c =
    predicted_so (g.K.Knowledge.known c.args.knowledge.now) c.args.layout.names.now c.args.scene.now.state.event c.args.layout.rules.now c.args.layout.courses.now
    c.deref.result.now c.marks-found.result c.profile-profile.result c.action_place-action.result c.loop-place.place c.index-layout-place.result _ c.loop-place.scene c.predicted_by-fate.result
    c.loop-place-test.true c.loop-place.invariant.event c.requires.known (c.deref.ensures.value ∙ c.in_ok-seen.ensures)
    (c.marks-found.ensures ∙ ap marks c.event.ensures) (c.profile-profile.ensures ∙ ap (λ (v : EventValue). v.profile) c.event-2.ensures)
    (c.action_place-action.ensures ∙ ap action_place (c.action.ensures ∙ ap (λ (v : EventValue). v.action) c.event-3.ensures)) c.predicted_by-fate.ensures

pub loop-place-preserved : goal.loop-place-preserved
loop-place-preserved g c =
    let known : Known = g.K.Knowledge.known c.args.knowledge.now in
    let rules : List Rule = c.args.layout.rules.now in
    let place = c.loop-place.place in
    let s : Scene = c.loop-place.scene in
    let r : Rule = get_or rules place c.index-layout-place.result in
    let event : EventValue = c.args.scene.now.state.event in
    let went : (c.step.new.scene, c.in_ok-reached.reached) ≡ apply known r s = c.in_ok-reached.ensures in
    let same : c.step.new.scene.state.event ≡ event = ap (λ (w : Went). w.0.state.event) went ∙ event_stays known r s ∙ c.loop-place.invariant.event in
    let to : c.following-place.result ≡ place + 1 + cond c.in_ok-reached.reached (get_or c.args.layout.passes.now place 0) 0 = c.following-place.ensures.value in
    record {
      whole =
          run_after known rules place c.index-layout-place.result 0 s c.step.new.scene c.in_ok-reached.reached c.following-place.result c.loop-place-test.true
          went
          (to ∙ ap (λ ps. place + 1 + cond c.in_ok-reached.reached (get_or ps place 0) 0) c.requires.over)
          ∙ c.loop-place.invariant.whole;
      event = same;
      seen = c.in_ok-seen.ensures;
      found = c.marks-found.ensures ∙ ap marks c.event.ensures;
      action = c.action_place-action.ensures ∙ ap action_place (c.action.ensures ∙ ap (λ (v : EventValue). v.action) c.event-3.ensures);
      profile = c.profile-profile.ensures ∙ ap (λ (v : EventValue). v.profile) c.event-2.ensures;
    }

pub returns : goal.returns
returns g c =
    sym (run_end (g.K.Knowledge.known c.args.knowledge.now) c.args.layout.rules.now c.loop-place.place c.loop-place.scene c.loop-place-test.false) ∙ c.loop-place.invariant.whole
