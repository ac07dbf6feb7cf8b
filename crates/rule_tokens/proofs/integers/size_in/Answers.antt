use Rattle.std.proofs.Common.{◌≡◌, ◌+◌, ◌*◌, ◌≤◌, ◌^◌, get_or, ap, arith, sym, subst, ◌∙◌}
use Rattle.std.specs.Char.{digit_value}
use Rattle.rule_tokens.proofs.Digits.{number_on, refused_great}
use Rattle.rule_tokens.proofs.integers.size_in.Goals as goal

pub returns-then-number-ge-LIMIT-clause-value : goal.returns-then-number-ge-LIMIT-clause-value
returns-then-number-ge-LIMIT-clause-value c =
    let digit = digit_value (get_or c.args.digits.now c.loop-byte.byte-index 0) in
    let read : c.from-in-loop-byte-2.result ≡ digit = c.from-in-loop-byte-2.ensures ∙ c.in-Some.ensures.value.1 ∙ ap digit_value c.from.ensures in
    refused_great c.args.base c.args.digits.now (c.loop-byte.byte-index + 1) (c.loop-byte.number * c.args.base + digit) (omega (arith, c.requires.least))
    (sym (number_on c.args.base c.args.digits.now c.loop-byte.byte-index c.loop-byte.number c.loop-byte-test.true) ∙ c.loop-byte.invariant.number)
    (subst (λ n. 2 ^ 32 ≤ c.loop-byte.number * n + digit) c.from-in-loop-byte.ensures (
    subst (λ n. 2 ^ 32 ≤ c.loop-byte.number * c.from-in-loop-byte.result + n) read c.if-number-ge-LIMIT.true))
