use Rattle.std.proofs.Common.{◌∙◌, [], ◌∷◌, ◌++◌, List, map, ap, sym, subst}
use Rattle.std.proofs.lemmas.List.{map-append}
use Rattle.std.proofs.lemmas.Iterator.Adapters.{YieldsList-from_rev_slice}
use Rattle.std.proofs.lemmas.Iterator.Consumers.{YieldsList-end}
use Rattle.rule_types.specs.Jumps.{Names}
use Rattle.rule_types.specs.Passes.{misses, with_name}
use Rattle.rule_types.proofs.Passing.{Ascends, up_start, up_past, up_end}
use Rattle.rule_types.proofs.passes.lost_flags.Goals as goal

pub loop-rule-init : goal.loop-rule-init
loop-rule-init c = up_start c.new-below.result c.in_ok-flags.flags.items c.new-below.ensures c.in_ok-flags.ensures.items

pub loop-rule-preserved : goal.loop-rule-preserved
loop-rule-preserved c =
    let past : List Names = map (λ r. r.now) c.loop-rule.yielded in
    let more : Ascends c.add.new.names c.push.new.self.items (past ++ c.in-Some.rule.now ∷ []) =
    up_past c.loop-rule.below c.add.new.names c.loop-rule.flags.items c.push.new.self.items past c.in-Some.rule.now c.misses.result c.loop-rule.invariant
    (c.misses.ensures ∙ ap (misses c.loop-rule.below) c.goto.ensures) c.in_ok-push.ensures.items
    (c.in_ok-add.ensures ∙ ap (with_name c.loop-rule.below) c.label.ensures) in
    subst (λ (rs : List Names). Ascends c.add.new.names c.push.new.self.items rs) (sym (map-append (λ r. r.now) c.loop-rule.yielded (c.in-Some.rule ∷ []))) more

pub returns : goal.returns
returns c =
    let all = YieldsList-end (YieldsList-from_rev_slice c.args.rules.now cc) c.loop-rule.yielded _ c.loop-rule.yielded_by _ _ c.in-None.is c.next.ensures.steps in
    up_end c.loop-rule.below c.loop-rule.flags.items c.reverse.new.self.items (map (λ r. r.now) c.loop-rule.yielded) c.args.rules.now c.loop-rule.invariant all.0 c.reverse.ensures.items
