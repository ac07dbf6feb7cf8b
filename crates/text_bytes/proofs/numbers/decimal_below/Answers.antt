use Rattle.std.proofs.Common.{◌+◌, ◌*◌, ◌-◌, ◌≤◌, get_or, sym, subst, ◌∙◌}
use Rattle.text_bytes.proofs.Digits.{number_on, refused_great}
use Rattle.text_bytes.proofs.numbers.decimal_below.Goals as goal

pub returns-then-number-bound-clause-value : goal.returns-then-number-bound-clause-value
returns-then-number-bound-clause-value c =
    let next = 10 * c.loop-byte.number + (get_or c.args.text.now c.loop-byte.byte-index 0 - 48) in
    refused_great c.args.bound c.args.text.now (c.loop-byte.byte-index + 1) next
    (sym (number_on c.args.text.now c.loop-byte.byte-index c.loop-byte.number c.loop-byte-test.true) ∙ c.loop-byte.invariant.number)
    (subst (λ n. c.args.bound ≤ 10 * c.loop-byte.number + n) c.from.ensures c.if-number-bound.true)
