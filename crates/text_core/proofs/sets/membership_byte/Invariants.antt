use Rattle.std.proofs.Common.{◌≡◌, ◌+◌, ◌-◌}
use Rattle.text_core.specs.Brackets.{between_takes}
use Rattle.text_core.specs.Sets.{bits_of}
use Rattle.text_core.proofs.sets.membership_byte.Given as goal

abbrev pub invariant-loop-j : goal.invariant-loop-j
invariant-loop-j l = l.bits ≡ bits_of (between_takes l.reading l.negated l.between) (l.first + (8 - l.j)) l.j
