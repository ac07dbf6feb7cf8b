use Rattle.std.proofs.Common.{◌≡◌, take, flat_map}
use Rattle.eval_rendering.specs.Bounds.{bounded}
use Rattle.eval_rendering.specs.Rendering.{text_in}
use Rattle.eval_rendering.proofs.rendering.render.Given as goal

abbrev pub invariant-loop-piece : goal.invariant-loop-piece
invariant-loop-piece l = l.text ≡ bounded (flat_map (text_in l.fn.mode l.fn.state) (take l.piece-index l.piece-items))
