use Rattle.std.proofs.Common.{ap, ◌∙◌}
use Rattle.std.proofs.lemmas.Result.{IfOk-weaker}
use Rattle.rule_types.specs.Rules.{Rule}
use Rattle.eval_rules.proofs.Watching.{act_stops, keys_end, search_stops}
use Rattle.eval_rules.proofs.steps.try_rule.Goals as goal

pub returns-then-not-branch-2-clause-watch : goal.returns-then-not-branch-2-clause-watch
returns-then-not-branch-2-clause-watch g c =
    search_stops g.W.Watch.telling (g.K.Knowledge.known c.args.knowledge.now) c.args.rule.now c.deref.result.now (c.args.scene.now, c.args.watch.now) (c.match_event.new.scene, c.match_event.new.watch) (c.search_watched.new.scene, c.search_watched.new.watch)
    c.in_ok-match_event.field-0 c.in_ok-search_watched.field-0 (c.deref.ensures.value ∙ ap (λ (r : Rule). r.plain) c.rule.view_is) c.in_ok-match_event.ensures.watch c.if-not-branch.false
    c.in_ok-search_watched.ensures.watch c.if-not-branch-2.true

pub returns-then-not-branch-3-clause-watch : goal.returns-then-not-branch-3-clause-watch
returns-then-not-branch-3-clause-watch g c =
    act_stops g.W.Watch.telling (g.K.Knowledge.known c.args.knowledge.now) c.args.rule.now c.deref.result.now c.deref-2.result.now (c.args.scene.now, c.args.watch.now) (c.match_event.new.scene, c.match_event.new.watch) (c.search_watched.new.scene, c.search_watched.new.watch) (c.act_all.new.scene, c.act_all.new.watch)
    c.in_ok-match_event.field-0 c.in_ok-search_watched.field-0 c.in_ok-act_all.field-0 (c.deref.ensures.value ∙ ap (λ (r : Rule). r.plain) c.rule.view_is) c.in_ok-match_event.ensures.watch c.if-not-branch.false
    c.in_ok-search_watched.ensures.watch c.if-not-branch-2.false (c.deref-2.ensures.value ∙ ap (λ (r : Rule). r.acts) c.rule.view_is) c.in_ok-act_all.ensures.watch c.if-not-branch-3.true

pub returns-clause-watch : goal.returns-clause-watch
returns-clause-watch g c =
    IfOk-weaker c.match_results.result _ _
    (λ on last.
    keys_end g.W.Watch.telling (g.K.Knowledge.known c.args.knowledge.now) c.args.rule.now c.deref.result.now c.deref-2.result.now c.deref-3.result.now (c.args.scene.now, c.args.watch.now) (c.match_event.new.scene, c.match_event.new.watch) (c.search_watched.new.scene, c.search_watched.new.watch) (c.act_all.new.scene, c.act_all.new.watch) (c.match_results.new.scene, c.match_results.new.watch)
    c.in_ok-match_event.field-0 c.in_ok-search_watched.field-0 c.in_ok-act_all.field-0 on (c.deref.ensures.value ∙ ap (λ (r : Rule). r.plain) c.rule.view_is) c.in_ok-match_event.ensures.watch c.if-not-branch.false
    c.in_ok-search_watched.ensures.watch c.if-not-branch-2.false (c.deref-2.ensures.value ∙ ap (λ (r : Rule). r.acts) c.rule.view_is) c.in_ok-act_all.ensures.watch c.if-not-branch-3.false (c.deref-3.ensures.value ∙ ap (λ (r : Rule). r.results) c.rule.view_is) last)
    c.match_results.ensures.watch
