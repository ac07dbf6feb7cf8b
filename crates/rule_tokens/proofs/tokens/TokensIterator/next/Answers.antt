use Rattle.std.proofs.Common.{length, ap, arith}
use Rattle.rule_tokens.proofs.Steps.{token_left, read_whole}
use Rattle.rule_tokens.proofs.Steps.{left_done, left_fault, left_token}
use Rattle.rule_tokens.proofs.tokens.TokensIterator.next.Goals as goal

pub returns-then-self-clause-steps : goal.returns-then-self-clause-steps
returns-then-self-clause-steps c =
    let e = left_done c.self.inside.at c.self.inside.rest.now in rw (← c.self.view_is, c.if-self.true) (e, e)

pub returns-in-Err-clause-steps : goal.returns-in-Err-clause-steps
returns-in-Err-clause-steps c = rw (← c.self.view_is, c.if-self.false) (left_fault c.self.inside.at c.self.inside.rest.now c.in-Err.kind c.in-Err.ensures)

pub returns-in-Ok-clause-steps : goal.returns-in-Ok-clause-steps
returns-in-Ok-clause-steps c = rw (← c.self.view_is, c.if-self.false, c.is_empty-self-inside.ensures, c.after_gap-rest.ensures.value) (left_token c.self.inside.at c.self.inside.rest.now _ c.in-Ok.ensures)

pub overflow_sub-end : goal.overflow_sub-end
overflow_sub-end c = omega (arith, token_left c.self.inside.rest.now _ c.in-Ok.ensures)

pub overflow_sub-self : goal.overflow_sub-self
overflow_sub-self c = omega (arith, c.after_gap-rest.ensures.shorter, token_left c.self.inside.rest.now _ c.in-Ok.ensures)

pub invariant_of-self-in-Ok : goal.invariant_of-self-in-Ok
invariant_of-self-in-Ok c = omega (arith, c.after_gap-rest.ensures.shorter, token_left c.self.inside.rest.now _ c.in-Ok.ensures)

pub returns-in-Err-clause-goes : goal.returns-in-Err-clause-goes
returns-in-Err-clause-goes c = let e = ap length (returns-in-Err-clause-steps c) in record { on = λ _. (tt, tt, omega (arith, e)); keeps = tt; rests = λ _. tt }

pub returns-in-Ok-clause-goes : goal.returns-in-Ok-clause-goes
returns-in-Ok-clause-goes c = let e = ap length (returns-in-Ok-clause-steps c) in record { on = λ _. (tt, tt, omega (arith, e)); keeps = tt; rests = λ _. tt }

pub invariant_of-result : goal.invariant_of-result
invariant_of-result c = read_whole c.self.inside.rest.now _ c.in-Ok.ensures
