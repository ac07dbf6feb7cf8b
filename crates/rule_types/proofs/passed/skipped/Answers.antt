use Rattle.std.proofs.Common.{◌≡◌, ◌∙◌, ◌∷◌, ◌++◌, [], List, map, ap, length, rules, sym, subst, vec_len}
use Rattle.std.proofs.lemmas.List.{map-append}
use Rattle.std.proofs.lemmas.Iterator.Adapters.{YieldsList-from_rev_slice}
use Rattle.std.proofs.lemmas.Iterator.Consumers.{YieldsList-end}
use Rattle.rule_types.specs.Rules.{Rule}
use Rattle.rule_types.specs.Walks.{over_met, with_label}
use Rattle.rule_types.proofs.Counting.{Ascends, up_start, up_past, up_end}
use Rattle.rule_types.proofs.passed.skipped.Goals as goal

pub loop-rule-init : goal.loop-rule-init
loop-rule-init c = up_start c.new-labels.result c.in_ok-counts.counts.items c.new-labels.ensures c.in_ok-counts.ensures.items

pub loop-rule-preserved : goal.loop-rule-preserved
loop-rule-preserved c =
    let past : List Rule = map (λ r. r.now) c.loop-rule.yielded in
    let len : vec_len c.loop-rule.counts ≡ length c.loop-rule.counts.items = search rules in
    let more : Ascends c.note.new.labels c.push.new.self.items (past ++ c.in-Some.rule.now ∷ []) =
    up_past c.loop-rule.labels c.note.new.labels c.loop-rule.counts.items c.push.new.self.items past c.in-Some.rule.now c.len-below.result c.over.result c.loop-rule.invariant
    (c.len-below.ensures ∙ len) (c.over.ensures ∙ ap (λ g. over_met c.loop-rule.labels g c.len-below.result) c.goto.ensures) c.in_ok-push.ensures.items
    (c.in_ok-note.ensures ∙ ap (λ l. with_label c.loop-rule.labels l c.len-below.result) c.label.ensures) in
    subst (λ (rs : List Rule). Ascends c.note.new.labels c.push.new.self.items rs) (sym (map-append (λ r. r.now) c.loop-rule.yielded (c.in-Some.rule ∷ []))) more

pub returns : goal.returns
returns c =
    let all = YieldsList-end (YieldsList-from_rev_slice c.args.rules.now cc) c.loop-rule.yielded _ c.loop-rule.yielded_by _ _ c.in-None.is c.next.ensures.steps in
    up_end c.loop-rule.labels c.loop-rule.counts.items c.reverse.new.self.items (map (λ r. r.now) c.loop-rule.yielded) c.args.rules.now c.loop-rule.invariant all.0 c.reverse.ensures.items
