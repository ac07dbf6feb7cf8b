use Rattle.text_core.specs.Elements.{symbol_len}
use Rattle.text_core.proofs.Tables.{reports_tail}
use Rattle.text_core.proofs.elements.symbol_or_bracket.Goals as goal

pub symbol-requires : goal.symbol-requires
symbol-requires c =
    reports_tail symbol_len c.args.lens.now c.args.after.now c.in-Some.mark.now c.in-Some.text.now c.requires c.in-Some.ensures.cases.0
