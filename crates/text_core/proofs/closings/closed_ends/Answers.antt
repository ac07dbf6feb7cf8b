use Rattle.std.proofs.Common.{arith, ap, sym, ◌∙◌}
use Rattle.text_core.proofs.Closing.{are_closed}
use Rattle.text_core.proofs.Tables.{end_before, reports_all, reports_longer}
use Rattle.text_core.proofs.closings.closed_ends.Goals as goal

pub loop-left-preserved : goal.loop-left-preserved
loop-left-preserved c = record {
  reported =
      reports_longer (are_closed c.args.reading) c.loop-left.closed.items c.push-in-loop-left.new.self.items c.is_closed_at-is_closed.result c.args.text.now
      c.loop-left.left c.loop-left.invariant.reported c.loop-left.invariant.len c.loop-left-test.true
      (c.is_closed_at-is_closed.ensures
      ∙ ap (are_closed c.args.reading) (sym (end_before c.args.text.now c.split_at.result.1.now c.loop-left.left c.loop-left-test.true c.split_at.ensures.back)))
      c.in_ok-push-2.ensures.items;
  len = omega (arith, c.in_ok-push-2.ensures.len);
}

pub returns : goal.returns
returns c = reports_all (are_closed c.args.reading) c.loop-left.closed.items c.args.text.now c.loop-left.left c.loop-left.invariant.reported c.loop-left-test.false
