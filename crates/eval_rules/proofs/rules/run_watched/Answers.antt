use Rattle.std.proofs.Common.{◌∙◌, None, ap, drop, option_map, sym}
use Rattle.eval_state.specs.declared.scene.Scene.{Scene}
use Rattle.eval_rules.specs.Inner.{passed_told}
use Rattle.eval_rules.specs.Watched.{run_watched}
use Rattle.std.proofs.lemmas.List.{nil_from_length}
use Rattle.eval_rules.proofs.Running.{run_on}
use Rattle.eval_rules.proofs.Watching.{ran}
use Rattle.eval_rules.proofs.rules.run_watched.Goals as goal

pub loop-rule-preserved : goal.loop-rule-preserved
loop-rule-preserved g c =
    ap (λ rs. run_watched g.W.Watch.telling (g.K.Knowledge.known c.args.knowledge.now) None rs (c.tell_passed.new.scene, c.tell_passed.new.watch)) c.split_at.ensures.back
    ∙ ap (λ (s : Scene). run_watched g.W.Watch.telling (g.K.Knowledge.known c.args.knowledge.now) None (drop c.passed_len-count.result c.in-Some.following.now) (s, c.tell_passed.new.watch)) c.tell_passed.ensures.scene
    ∙ run_on g.W.Watch.telling (g.K.Knowledge.known c.args.knowledge.now) c.in-Some.rule.now c.in-Some.following.now (c.loop-rule.scene, c.loop-rule.watch) c.apply_watched.new.scene
    c.apply_watched.new.watch c.tell_passed.new.watch c.in_ok-reached.reached (option_map (λ t. t.now) c.sought_after.result) c.passed_len-count.result
    c.in_ok-reached.ensures.watch c.sought_after.ensures c.passed_len-count.ensures.value
    (c.in_ok-tell_passed.ensures.watch ∙ ap (passed_told g.W.Watch.telling c.apply_watched.new.scene c.apply_watched.new.watch) c.split_at.ensures.front)
    ∙ ap (λ rs. run_watched g.W.Watch.telling (g.K.Knowledge.known c.args.knowledge.now) None rs (c.loop-rule.scene, c.loop-rule.watch)) (sym c.in-Some.ensures.cases.0)
    ∙ c.loop-rule.invariant

pub returns-clause-scene : goal.returns-clause-scene
unfolding run_watched
returns-clause-scene g c =
    ran g.W.Watch.telling (g.K.Knowledge.known c.args.knowledge.now) c.args.rules.now None c.args.scene.now c.loop-rule.scene c.args.watch.now c.loop-rule.watch
    (ap (λ rs. run_watched g.W.Watch.telling (g.K.Knowledge.known c.args.knowledge.now) None rs (c.loop-rule.scene, c.loop-rule.watch)) (sym (nil_from_length c.loop-rule.rest.now c.in_default.ensures.cases))
    ∙ c.loop-rule.invariant)
