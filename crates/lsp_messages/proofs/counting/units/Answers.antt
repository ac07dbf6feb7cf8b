use Rattle.std.proofs.Common.{◌∙◌}
use Rattle.lsp_messages.proofs.Counted.{units_more}
use Rattle.lsp_messages.proofs.counting.units.Goals as goal

pub loop-byte-preserved : goal.loop-byte-preserved
loop-byte-preserved c =
    c.saturating_add-units.ensures
    ∙ units_more c.args.encoding c.args.text.now c.loop-byte.byte-index c.loop-byte.units c.width.result c.loop-byte-test.true c.loop-byte.invariant c.width.ensures.value
