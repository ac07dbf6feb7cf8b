use Rattle.std.proofs.Common.{sym, ◌∙◌, map}
use Rattle.text_bytes.specs.Names.{slash}
use Rattle.eval_assignments.specs.Links.{is_step}
use Rattle.eval_assignments.proofs.Cutting.{parts_more, parts_last}
use Rattle.eval_assignments.proofs.links.components.Goals as goal

pub loop-component-preserved : goal.loop-component-preserved
loop-component-preserved c =
    rw c.in_ok-push_step.ensures
    (parts_more is_step slash (map (λ t. t.now) c.loop-component.steps.items) c.loop-component.rest.now c.in-Some.component.now c.in-Some.following.now (sym c.in-Some.ensures.value)
    ∙ c.loop-component.invariant)

pub returns : goal.returns
returns c =
    rw c.in_ok-push_step-2.ensures
    (parts_last is_step slash (map (λ t. t.now) c.loop-component.steps.items) c.loop-component.rest.now (sym c.in_default.ensures.value)
    ∙ c.loop-component.invariant)
