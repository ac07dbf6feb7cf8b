use Rattle.std.proofs.Common.{◌≡◌, drop, fold}
use Rattle.eval_core.specs.Sketches.{mixed, sketch}
use Rattle.eval_core.proofs.sketches.sketch.Given as goal

abbrev pub invariant-loop-byte : goal.invariant-loop-byte
invariant-loop-byte l = fold mixed l.sketch (drop l.byte-index l.text) ≡ sketch l.fn.text
