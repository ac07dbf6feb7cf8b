use Rattle.std.proofs.Common.{List, ap, sym, ◌∙◌}
use Rattle.text_core.specs.Fits.{fits}
use Rattle.text_core.specs.declared.item.Item.{Item}
use Rattle.eval_rendering.proofs.Beginnings.{other_byte_fails}
use Rattle.eval_rendering.proofs.holding.pattern_fits.Goals as goal

pub returns-in-Some : goal.returns-in-Some
returns-in-Some c =
    sym
    (ap (λ (items : List Item). fits items c.args.text.now) (sym c.items.ensures)
    ∙ other_byte_fails c.items.result.now c.args.text.now c.in-Some.item.now (sym c.in-Some.ensures.value) (sym c.if-is_other_byte.ensures))
