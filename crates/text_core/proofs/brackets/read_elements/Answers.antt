use Rattle.text_core.specs.Elements.{symbol_len}
use Rattle.text_core.proofs.Closing.{are_closed}
use Rattle.text_core.proofs.Tables.{reports_tail}
use Rattle.text_core.proofs.brackets.read_elements.Goals as goal

pub is_closed_after-requires : goal.is_closed_after-requires
is_closed_after-requires c = record {
  symbols = reports_tail symbol_len c.args.lens.now c.args.text.now c.in-Some.byte.now c.in-Some.after.now c.requires.symbols c.in-Some.ensures.cases.0;
  closings =
      reports_tail (are_closed c.args.reading) c.args.closed.now c.args.text.now c.in-Some.byte.now c.in-Some.after.now c.requires.closings c.in-Some.ensures.cases.0;
}
