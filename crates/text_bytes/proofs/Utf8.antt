-- A test for UTF-8 by the reading of a text.
use Rattle.std.proofs.Common.{◌≡◌, ℕ, Bool, true, false, List, Result, Ok, Err, MatchResult, is_ok, refl, sym}
use Rattle.std.specs.Str.{IsUtf8, is_utf8}
use Rattle.std.proofs.lemmas.Str.{IsUtf8-from_is_utf8, is_utf8-from_IsUtf8}

not_true : (b : Bool) → ((b ≡ true) → ⊥) → b ≡ false
not_true true h = absurd (h refl)
not_true false h = refl

-- what is not UTF-8 fails the test
pub not_utf8 : (text : List ℕ) → ¬ (IsUtf8 text) → is_utf8 text ≡ false
not_utf8 text h = not_true (is_utf8 text) (λ is. h (IsUtf8-from_is_utf8 text is))

-- what reading a text has shown about it
pub read_is : {X E : Type 0} (P : X → Type 0) (Q : E → Type 0) (r : Result X E) (text : List ℕ)
    → MatchResult r (λ x. P x × IsUtf8 text) (λ e. ¬ (IsUtf8 text) × Q e) → is_ok r ≡ is_utf8 text
read_is P Q (Ok x) text h = sym (is_utf8-from_IsUtf8 text h.1)
read_is P Q (Err e) text h = sym (not_utf8 text h.0)
