use Rattle.std.proofs.Common.{sym, ◌∙◌}
use Rattle.text_core.proofs.Members.{members_have-range_past, members_have-single_past}
use Rattle.text_core.proofs.sets.members_have.Goals as goal

pub loop-first-preserved-in-Some-range_end : goal.loop-first-preserved-in-Some-range_end
loop-first-preserved-in-Some-range_end c =
    c.loop-first.invariant
    ∙ members_have-range_past c.loop-first.members.now c.in-Some.first.now c.in-Some.rest.now c.split_at.result.1.now c.in-Some-range_end.last c.args.byte
    c.in-Some.ensures.cases.0 (sym c.in-Some-range_end.ensures.value) c.split_at.ensures.back (sym c.is_between.ensures ∙ c.if-is_between.false)

pub loop-first-preserved : goal.loop-first-preserved
loop-first-preserved c =
    c.loop-first.invariant
    ∙ members_have-single_past c.loop-first.members.now c.in-Some.first.now c.in-Some.rest.now c.args.byte
    c.in-Some.ensures.cases.0 (sym c.in-None.ensures.value) c.if-first-byte.false
