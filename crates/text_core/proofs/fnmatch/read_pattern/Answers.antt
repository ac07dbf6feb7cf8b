use Rattle.std.proofs.Common.{sym, ◌∙◌}
use Rattle.text_core.specs.Elements.{symbol_len}
use Rattle.text_core.proofs.Closing.{are_closed}
use Rattle.text_core.proofs.Fnmatching.{items_all, items_more}
use Rattle.text_core.proofs.Tables.{reports_drop, reports_tail}
use Rattle.text_core.proofs.fnmatch.read_pattern.Goals as goal

pub first_item-requires-clause-symbols : goal.first_item-requires-clause-symbols
first_item-requires-clause-symbols c =
    rw c.as_slice-in-Some.ensures.value (
    reports_tail symbol_len c.in_ok-lens.lens.items c.loop-byte.rest.now c.in-Some.byte.now c.in-Some.after.now c.loop-byte.invariant.symbols c.in-Some.ensures.cases.0)

pub first_item-requires-clause-closings : goal.first_item-requires-clause-closings
first_item-requires-clause-closings c =
    rw c.as_slice-in-Some-2.ensures.value (
    reports_tail (are_closed c.args.reading) c.in_ok-closed.closed.items c.loop-byte.rest.now c.in-Some.byte.now c.in-Some.after.now c.loop-byte.invariant.closings c.in-Some.ensures.cases.0)

pub loop-byte-preserved : goal.loop-byte-preserved
loop-byte-preserved c = record {
  read = rw c.in_ok-push.ensures.items (
      items_more c.args.reading c.loop-byte.items.items c.in_ok-head.head c.in-Some.byte.now c.in-Some.after.now c.loop-byte.rest.now c.split_at.result.1.now
      c.in-Some.ensures.cases.0 c.in_ok-head.ensures.value c.split_at.ensures.back
      ∙ c.loop-byte.invariant.read);
  symbols =
      reports_drop symbol_len c.in_ok-lens.lens.items c.in-Some.after.now c.split_at.result.1.now c.in_ok-head.head.following
      (reports_tail symbol_len c.in_ok-lens.lens.items c.loop-byte.rest.now c.in-Some.byte.now c.in-Some.after.now c.loop-byte.invariant.symbols c.in-Some.ensures.cases.0)
      c.split_at.ensures.back;
  closings =
      reports_drop (are_closed c.args.reading) c.in_ok-closed.closed.items c.in-Some.after.now c.split_at.result.1.now c.in_ok-head.head.following
      (reports_tail (are_closed c.args.reading) c.in_ok-closed.closed.items c.loop-byte.rest.now c.in-Some.byte.now c.in-Some.after.now c.loop-byte.invariant.closings c.in-Some.ensures.cases.0)
      c.split_at.ensures.back;
}

pub returns : goal.returns
returns c = c.of_items.ensures ∙ sym (items_all c.args.reading c.loop-byte.items.items c.loop-byte.rest.now c.in_default.ensures.cases) ∙ c.loop-byte.invariant.read
