use Rattle.text_core.specs.Elements.{symbol_len}
use Rattle.text_core.proofs.Tables.{reports_drop}
use Rattle.text_core.proofs.elements.ranged.Goals as goal

pub point-requires : goal.point-requires
point-requires c = reports_drop symbol_len c.args.lens.now c.args.rest.now c.split_at.result.1.now 2 c.requires.symbols c.split_at.ensures.back
