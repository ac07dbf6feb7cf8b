use Rattle.std.proofs.Common.{◌≡◌, ◌++◌, map, drop}
use Rattle.eval_commands.specs.Hwdb.{operands}
use Rattle.eval_commands.proofs.hwdb.operands.Given as goal

abbrev pub invariant-loop-word : goal.invariant-loop-word
invariant-loop-word l = map (λ m. m.now) l.found.items ++ operands (drop l.word-index l.words) ≡ operands l.fn.words
