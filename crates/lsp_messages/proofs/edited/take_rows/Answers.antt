use Rattle.std.proofs.Common.{◌≡◌, ◌+◌, ◌-◌, ◌++◌, ap, ◌∙◌, arith}
use Rattle.lsp_messages.proofs.Moving.{one_left, one_taken}
use Rattle.lsp_messages.proofs.edited.take_rows.Goals as goal

pub loop-row-preserved : goal.loop-row-preserved
loop-row-preserved c =
    let added : c.extend_from_slice.new.self.items ≡ c.loop-row.text.items ++ c.in-Some.row =
    c.in_ok-extend_from_slice-in-Some.ensures.items ∙ ap (λ t. c.loop-row.text.items ++ t) c.as_slice.ensures in
    record {
      taken = rw added
          (one_taken (c.args.count - c.loop-row._row) (c.args.count - (c.loop-row._row + 1)) c.loop-row.after.items c.pop.new.self.items c.loop-row.text.items c.in-Some.row _
          (omega arith) c.in-Some.ensures.items c.loop-row.invariant.taken);
      left = one_left (c.args.count - c.loop-row._row) (c.args.count - (c.loop-row._row + 1)) c.loop-row.after.items c.pop.new.self.items _ c.in-Some.row
          (omega arith) c.in-Some.ensures.items c.loop-row.invariant.left;
    }
