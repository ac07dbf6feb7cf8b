-- A no-break space is found behind any bytes.
use Rattle.std.proofs.Common.{◌≡◌, ◌∙◌, ◌&&◌, ◌||◌, ◌==◌, ℕ, Bool, true, false, List, [], ◌∷◌, ◌++◌, ap, refl}
use Rattle.devdry_links.specs.Unseen.{has_no_break_after}

or_true : (b : Bool) → (b || true) ≡ true
or_true true = refl
or_true false = refl

pub found_behind : (byte : ℕ) (before after : List ℕ) → has_no_break_after byte (before ++ 194 ∷ 160 ∷ after) ≡ true
found_behind byte [] after = or_true (byte == 194 && false)
found_behind byte (b ∷ before) after = ap (λ found. (byte == 194 && b == 160) || found) (found_behind b before after) ∙ or_true (byte == 194 && b == 160)
