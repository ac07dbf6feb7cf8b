-- Texts that are there already, and texts that were removed.
use Rattle.std.proofs.Common.{◌≡◌, Bool, true, false, cond, not, ◌||◌, ◌&&◌, List, [], ◌∷◌, ◌++◌, refl, sym, ◌∙◌, ap}
use Rattle.std.specs.List.{All}
use Rattle.std.proofs.lemmas.List.Elements.{All-head, All-tail}
use Rattle.text_bytes.specs.Text.{Text}
use Rattle.text_tables.specs.Texts.{same_text, is_among, with_text, with_texts, without_text}
use Rattle.text_tables.proofs.Found.{among_removed}
use Rattle.eval_assignments.specs.Lists.{without_texts}

there : (t : Text) (texts : List Text) → is_among texts t ≡ true → with_text texts t ≡ texts
there t texts h = ap (λ b. cond b texts (texts ++ t ∷ [])) h

-- texts that are all there are not added again
pub all_there : (more texts : List Text) → All (λ t. is_among texts t ≡ true) more → with_texts texts more ≡ texts
all_there [] texts h = refl
all_there (t ∷ more) texts h = ap (λ ts. with_texts ts more) (there t texts (All-head (λ u. is_among texts u ≡ true) t more h))
    ∙ all_there more texts (All-tail (λ u. is_among texts u ≡ true) t more h)

-- what is not there is still not there once more is removed
still_gone : (gone texts : List Text) (t : Text) → is_among texts t ≡ false → is_among (without_texts texts gone) t ≡ false
still_gone [] texts t h = h
still_gone (g ∷ gone) texts t h = still_gone gone (without_text texts g) t (among_removed texts g t ∙ by (not (same_text t g)))
  where
    by : (b : Bool) → (b && is_among texts t) ≡ false
    by true = h
    by false = refl

-- texts that were removed are not there
pub all_gone : (gone texts : List Text) (t : Text) → is_among gone t ≡ true → is_among (without_texts texts gone) t ≡ false
all_gone [] texts t h = cc
all_gone (g ∷ gone) texts t h = by (same_text t g) refl (all_gone gone (without_text texts g) t)
  where
    by : (b : Bool) → same_text t g ≡ b → (is_among gone t ≡ true → is_among (without_texts (without_text texts g) gone) t ≡ false) → is_among (without_texts (without_text texts g) gone) t ≡ false
    by true e more = still_gone gone (without_text texts g) t (among_removed texts g t ∙ ap (λ b. not b && is_among texts t) e)
    by false e more = more (sym (ap (λ b. b || is_among gone t) e) ∙ h)
