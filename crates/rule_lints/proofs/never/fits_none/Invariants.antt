use Rattle.std.proofs.Common.{◌≡◌, drop, map}
use Rattle.rule_lints.specs.Never.{fits_none}
use Rattle.rule_lints.proofs.never.fits_none.Given as goal

abbrev pub invariant-loop-text : goal.invariant-loop-text
invariant-loop-text l = fits_none (map (λ text. text.now) (drop l.text-index l.texts)) l.pattern ≡ fits_none (map (λ text. text.now) l.texts) l.pattern
