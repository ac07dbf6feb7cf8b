use Rattle.std.proofs.Common.{◌≡◌, ℕ, ◌*◌, ◌<◌, get_or, length}
use Rattle.text_core.specs.Brackets.{between_takes}
use Rattle.text_core.specs.Sets.{bits_of}
use Rattle.text_core.proofs.sets.set_of.Given as goal

abbrev pub invariant-loop-i : goal.invariant-loop-i
invariant-loop-i l = record {
  len : length l.bits ≡ 32;
  done : (k : ℕ) → k < l.i → get_or l.bits k 0 ≡ bits_of (between_takes l.reading l.negated l.between) (8 * k) 8;
}
