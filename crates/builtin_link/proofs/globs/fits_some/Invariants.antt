use Rattle.std.proofs.Common.{◌≡◌, drop}
use Rattle.builtin_link.specs.Globs.{fits_some}
use Rattle.builtin_link.proofs.globs.fits_some.Given as goal

abbrev pub invariant-loop-word : goal.invariant-loop-word
invariant-loop-word l =
    fits_some l.negated (drop l.word-index l.words) l.text ≡ fits_some l.negated l.words l.text
