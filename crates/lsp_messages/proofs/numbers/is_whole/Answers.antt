use Rattle.std.proofs.Common.{◌-◌, ◌^◌, ap, arith, length}
use Rattle.lsp_messages.proofs.Wholes.{whole_by_parts}
use Rattle.lsp_messages.proofs.numbers.is_whole.Goals as goal

pub returns : goal.returns
returns c =
    rw (
      c.are_zeros.ensures,
      c.are_zeros-2.ensures,
      c.after.ensures,
      c.after-rest.ensures,
      c.saturating_sub.ensures,
      c.whole-whole.ensures.value,
      c.fraction.ensures.value,
    )
    (whole_by_parts c.args.number.now c.point_at-point.result (2 ^ 64 - 1) c.point_at-point.ensures
    (omega (arith, c.whole-whole.type_inv.1, c.fraction.type_inv.1, ap length c.whole-whole.ensures.value, ap length c.fraction.ensures.value)))
