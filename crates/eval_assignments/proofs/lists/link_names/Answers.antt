use Rattle.std.proofs.Common.{not, sym, ◌∙◌, map}
use Rattle.text_bytes.specs.Names.{space}
use Rattle.text_bytes.specs.Texts.{is_empty}
use Rattle.eval_assignments.proofs.Cutting.{parts_more, parts_last}
use Rattle.eval_assignments.proofs.lists.link_names.Goals as goal

pub loop-prefix-preserved : goal.loop-prefix-preserved
loop-prefix-preserved c =
    rw c.in_ok-push_name.ensures
    (parts_more (λ t. not (is_empty t)) space (map (λ t. t.now) c.loop-prefix.names.items) c.loop-prefix.rest.now c.in-Some.prefix.now c.in-Some.following.now (sym c.in-Some.ensures.value)
    ∙ c.loop-prefix.invariant)

pub returns : goal.returns
returns c =
    rw c.in_ok-push_name-2.ensures
    (parts_last (λ t. not (is_empty t)) space (map (λ t. t.now) c.loop-prefix.names.items) c.loop-prefix.rest.now (sym c.in_default.ensures.value)
    ∙ c.loop-prefix.invariant)
