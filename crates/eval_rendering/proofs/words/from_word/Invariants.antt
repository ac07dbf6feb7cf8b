use Rattle.std.proofs.Common.{◌≡◌}
use Rattle.eval_rendering.specs.Words.{from_word}
use Rattle.eval_rendering.proofs.words.from_word.Given as goal

abbrev pub invariant-loop-passed : goal.invariant-loop-passed
invariant-loop-passed l = l.rest ≡ from_word l.passed l.fn.text
