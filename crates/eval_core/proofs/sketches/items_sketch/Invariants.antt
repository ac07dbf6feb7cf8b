use Rattle.std.proofs.Common.{◌≡◌, drop, fold}
use Rattle.eval_core.specs.Sketches.{byte_of, items_sketch, mixed}
use Rattle.eval_core.proofs.sketches.items_sketch.Given as goal

abbrev pub invariant-loop-item : goal.invariant-loop-item
invariant-loop-item l = fold (λ sketch x. mixed sketch (byte_of x)) l.sketch (drop l.item-index l.items) ≡ items_sketch l.fn.items
