use Rattle.std.proofs.Common.{Ok, ap, sym, ◌∙◌}
use Rattle.rule_tokens.proofs.Left.{left_all, left_made, left_stops, same_made}
use Rattle.rule_tokens.proofs.template.left_of.Goals as goal

pub returns-in_default-kept : goal.returns-in_default-kept
returns-in_default-kept c =
    ap Ok (
    sym c.loop-byte.invariant
    ∙ left_stops c.loop-byte.pieces.items c.in-Some.byte.now c.in-Some.after.now c.loop-byte.rest.now c.in-Some.ensures.cases.0 (sym c.in_default-kept.ensures.value))

pub loop-byte-preserved : goal.loop-byte-preserved
loop-byte-preserved c =
    rw c.in_ok-push.ensures.items (
    left_made c.loop-byte.pieces.items _ c.in_ok-copied.field-0 c.in-Some.byte.now c.in-Some.after.now c.loop-byte.rest.now c.in-Some-kept.left.now
    c.in-Some.ensures.cases.0 (sym c.in-Some-kept.ensures.value) (same_made _ c.in_ok-copied.field-0 c.in_ok-copied.ensures)
    ∙ c.loop-byte.invariant)

pub returns : goal.returns
returns c = ap Ok (sym c.loop-byte.invariant ∙ left_all c.loop-byte.pieces.items c.loop-byte.rest.now c.in_default.ensures.cases)
