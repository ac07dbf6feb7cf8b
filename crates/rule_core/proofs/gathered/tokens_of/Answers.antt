use Rattle.std.proofs.Common.{◌+◌, ◌-◌, ◌^◌, length, refl, ap, ◌∙◌}
use Rattle.rule_types.specs.Rules.{Rule, name_count, rule_tokens}
use Rattle.rule_core.proofs.Capping.{capped_more, counted}
use Rattle.rule_core.proofs.gathered.tokens_of.Goals as goal

pub returns : goal.returns
returns c =
    let top = 2 ^ 64 - 1 in
    let names = c.name_count.result + c.name_count-2.result in
    let one = capped_more c.saturating_add.result c.saturating_add-2.result names c.len.result (names + c.len.result) top c.saturating_add.ensures c.saturating_add-2.ensures refl in
    let two = capped_more c.saturating_add-2.result c.saturating_add-3.result (names + c.len.result) c.len-2.result (names + c.len.result + c.len-2.result) top one c.saturating_add-3.ensures refl in
    let three = capped_more c.saturating_add-3.result c.saturating_add-4.result (names + c.len.result + c.len-2.result) c.len-3.result (names + c.len.result + c.len-2.result + c.len-3.result) top two c.saturating_add-4.ensures refl in
    let four = capped_more c.saturating_add-4.result c.saturating_add-5.result (names + c.len.result + c.len-2.result + c.len-3.result) c.len-4.result (names + c.len.result + c.len-2.result + c.len-3.result + c.len-4.result) top three c.saturating_add-5.ensures refl in
    capped_more c.saturating_add-5.result c.saturating_add-6.result (names + c.len.result + c.len-2.result + c.len-3.result + c.len-4.result) c.len-5.result (rule_tokens c.args.rule.now) top four c.saturating_add-6.ensures
    (counted c.args.rule.now c.name_count.result c.name_count-2.result c.len.result c.len-2.result c.len-3.result c.len-4.result c.len-5.result
    (c.name_count.ensures ∙ ap (λ (r : Rule). name_count r.label) c.rule.view_is) (c.name_count-2.ensures ∙ ap (λ (r : Rule). name_count r.goto) c.rule.view_is)
    (c.len.ensures ∙ c.rule.inside.plain.ok.0 ∙ ap (λ (r : Rule). length r.plain) c.rule.view_is) (c.len-2.ensures ∙ c.rule.inside.up.ok.0 ∙ ap (λ (r : Rule). length r.up) c.rule.view_is)
    (c.len-3.ensures ∙ c.rule.inside.acts.ok.0 ∙ ap (λ (r : Rule). length r.acts) c.rule.view_is) (c.len-4.ensures ∙ c.rule.inside.results.ok.0 ∙ ap (λ (r : Rule). length r.results) c.rule.view_is)
    (c.len-5.ensures ∙ c.rule.inside.sets.ok.0 ∙ ap (λ (r : Rule). length r.sets) c.rule.view_is))
