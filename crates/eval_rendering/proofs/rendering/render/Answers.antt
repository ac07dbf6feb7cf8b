use Rattle.std.proofs.Common.{◌∙◌, cond, flat_map, ap, sym}
use Rattle.eval_rendering.specs.Bounds.{bounded}
use Rattle.eval_rendering.specs.Rendering.{as_rendered, render, text_in}
use Rattle.eval_rendering.specs.declared.rendered.Rendered.TheVariants as rendered
use Rattle.eval_rendering.proofs.Joining.{too_long_at}
use Rattle.eval_rendering.proofs.rendering.render.Goals as goal

pub returns-then-not-fits : goal.returns-then-not-fits
unfolding render
returns-then-not-fits c =
    let mode = c.args.mode in
    let text = text_in mode c.args.state.now in
    let pieces = c.pieces-piece-items.result.now in
    sym (ap (λ long. cond long rendered.TooLong (as_rendered mode (bounded (flat_map text c.args.template.now.pieces)))) (sym c.has_long.ensures ∙ c.if-has_long.false)
    ∙ ap (as_rendered mode)
    (ap (λ ps. bounded (flat_map text ps)) (sym c.pieces-piece-items.ensures)
    ∙ too_long_at text pieces c.loop-piece.piece-index c.piece-item.result c.loop-piece.text c.push_piece.new.text c.loop-piece-test.true c.piece-item.is c.loop-piece.invariant c.in_ok-push_piece.ensures
    (sym c.fits.ensures ∙ c.if-not-fits.true)))
