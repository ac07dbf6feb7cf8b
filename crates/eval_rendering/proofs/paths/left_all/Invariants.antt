use Rattle.std.proofs.Common.{◌≡◌, Some, drop, fold, option_map}
use Rattle.eval_rendering.specs.Paths.{left_after}
use Rattle.eval_rendering.proofs.paths.left_all.Given as goal

abbrev pub invariant-loop-byte : goal.invariant-loop-byte
invariant-loop-byte l = fold left_after (option_map (λ t. t.now) l.left) (drop l.byte-index l.folders) ≡ fold left_after (Some l.fn.name) l.fn.folders
