use Rattle.std.proofs.Common.{◌∙◌}
use Rattle.builtin_devices.proofs.Digits.{carried, refused_great}
use Rattle.builtin_devices.proofs.numbers.digits_in.Goals as goal

pub returns-then-next-from-clause-value : goal.returns-then-next-from-clause-value
returns-then-next-from-clause-value c =
    let digit = c.from-in-loop-byte-2.ensures ∙ c.digit_value-digit.ensures.value in
    let high = carried c.from-in-loop-byte-3.ensures c.from.ensures c.from-in-loop-byte.ensures digit c.if-next-from.true in
    refused_great c.args.base c.args.most c.args.text.now c.loop-byte.byte-index c.loop-byte.number c.requires.some c.loop-byte-test.true c.loop-byte.invariant.number high
