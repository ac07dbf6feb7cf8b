use Rattle.std.proofs.Common.{sym, ◌∙◌}
use Rattle.rule_tokens.proofs.Left.{faulty_here, faulty_not, faulty_on}
use Rattle.rule_tokens.proofs.reading.is_faulty.Goals as goal

pub returns-in-Err : goal.returns-in-Err
returns-in-Err c =
    sym (faulty_here c.in-Some.byte.now c.in-Some.after.now c.loop-byte.rest.now c.in-Err.field-0 c.in-Some.ensures.cases.0 c.in-Err.ensures.value) ∙ c.loop-byte.invariant

pub loop-byte-preserved-in-Ok : goal.loop-byte-preserved-in-Ok
loop-byte-preserved-in-Ok c =
    faulty_on c.in-Some.byte.now c.in-Some.after.now c.loop-byte.rest.now _ c.in-Ok.left.now c.in-Some.ensures.cases.0 c.in-Ok.ensures.value ∙ c.loop-byte.invariant

pub loop-byte-preserved-in-Ok-2 : goal.loop-byte-preserved-in-Ok-2
loop-byte-preserved-in-Ok-2 c =
    faulty_on c.in-Some.byte.now c.in-Some.after.now c.loop-byte.rest.now _ c.in-Ok.left.now c.in-Some.ensures.cases.0 c.in-Ok.ensures.value ∙ c.loop-byte.invariant

pub loop-byte-preserved-in-Ok-3 : goal.loop-byte-preserved-in-Ok-3
loop-byte-preserved-in-Ok-3 c =
    faulty_on c.in-Some.byte.now c.in-Some.after.now c.loop-byte.rest.now _ c.in-Ok.left.now c.in-Some.ensures.cases.0 c.in-Ok.ensures.value ∙ c.loop-byte.invariant

pub loop-byte-preserved-in-Ok-4 : goal.loop-byte-preserved-in-Ok-4
loop-byte-preserved-in-Ok-4 c =
    faulty_on c.in-Some.byte.now c.in-Some.after.now c.loop-byte.rest.now _ c.in-Ok.left.now c.in-Some.ensures.cases.0 c.in-Ok.ensures.value ∙ c.loop-byte.invariant

pub loop-byte-preserved-in-Ok-5 : goal.loop-byte-preserved-in-Ok-5
loop-byte-preserved-in-Ok-5 c =
    faulty_on c.in-Some.byte.now c.in-Some.after.now c.loop-byte.rest.now _ c.in-Ok.left.now c.in-Some.ensures.cases.0 c.in-Ok.ensures.value ∙ c.loop-byte.invariant

pub returns : goal.returns
returns c = sym (faulty_not c.loop-byte.rest.now c.in_default.ensures.cases) ∙ c.loop-byte.invariant
