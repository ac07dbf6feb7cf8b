-- Texts that are built part by part under a bound.
use Rattle.std.proofs.Common.{◌≡◌, Bool, true, false, List, [], ◌∷◌, ℕ, zero, suc, ◌<◌, ◌++◌, map, flat_map, take, drop, get_or, ap, sym, ◌∙◌, length, cond, nat_lt, Option, Some, None, is_some, refl, arith, append_assoc, length-append}
use Rattle.std.proofs.lemmas.Bool.Decides.{nat_tests}
use Rattle.std.proofs.lemmas.List.{append-nil}
use Rattle.text_bytes.specs.Names.{space}
use Rattle.text_bytes.specs.Text.{Text}
use Rattle.eval_rendering.specs.Words.{spaced}
use Rattle.eval_rendering.specs.Bounds.{most_bytes, bounded, joined}

-- a text that is too long stays that
bounded_longer : (a b : List ℕ) → nat_lt most_bytes (length a) ≡ true → nat_lt most_bytes (length (a ++ b)) ≡ true
bounded_longer a b h = grind (arith, nat_tests, length-append a b)

longer_after : (t a : List ℕ) → nat_lt most_bytes (length a) ≡ true → nat_lt most_bytes (length (t ++ a)) ≡ true
longer_after t a h = grind (arith, nat_tests, length-append t a)

-- whatever comes before it
too_long_after : (t a : List ℕ) → nat_lt most_bytes (length a) ≡ true → bounded (t ++ a) ≡ None
too_long_after t a h = rw (longer_after t a h) refl

-- what is joined to a bounded text is joined to the text
pub joined_bounded : (a b : List ℕ) → joined (bounded a) b ≡ bounded (a ++ b)
joined_bounded a b = by (nat_lt most_bytes (length a)) refl
  where
    by : (v : Bool) → nat_lt most_bytes (length a) ≡ v → joined (cond v None (Some a)) b ≡ bounded (a ++ b)
    by true h = rw (bounded_longer a b h) refl
    by false h = refl

-- what is joined one after another is joined at once
pub joined_twice : (s : Option Text) (a b : Text) → joined (joined s a) b ≡ joined s (a ++ b)
joined_twice None a b = refl
joined_twice (Some t) a b = joined_bounded (t ++ a) b ∙ ap bounded (append_assoc t a b)

-- after a text that fits nothing is joined at no cost
pub joined_nothing : (s : Option Text) (a : Text) → joined (joined s a) [] ≡ joined s a
joined_nothing s a = joined_twice s a [] ∙ ap (joined s) (append-nil a)

-- a text is too long as soon as a front of it is
pub too_long_before : (a b : Text) → bounded a ≡ None → bounded (a ++ b) ≡ None
too_long_before a b h = sym (joined_bounded a b) ∙ ap (λ s. joined s b) h

-- what is at a place, between what comes before and after it
parted : {P : Type 0} (f : P → Text) (ps : List P) (k : ℕ) (p : P) → k < length ps → p ≡ get_or ps k p
    → flat_map f ps ≡ (flat_map f (take k ps) ++ f p) ++ flat_map f (drop (suc k) ps)
parted f [] k p within is = absurd (omega arith)
parted f (q ∷ ps) zero p within is = ap (λ x. f x ++ flat_map f ps) (sym is)
parted f (q ∷ ps) (suc k) p within is =
    let following = flat_map f (drop (suc k) ps) in
    let before = flat_map f (take k ps) in
    ap (λ t. f q ++ t) (parted f ps k p (omega arith) is)
    ∙ sym (ap (λ t. t ++ following) (append_assoc (f q) before (f p)) ∙ append_assoc (f q) (before ++ f p) following)

none_there : (s : Option Text) → is_some s ≡ false → s ≡ None
none_there None h = refl
none_there (Some t) h = cc

-- a text is too long if it is too long at one of its pieces
pub too_long_at : {P : Type 0} (f : P → Text) (ps : List P) (k : ℕ) (p : P) (s t : Option Text) → k < length ps → p ≡ get_or ps k p
    → s ≡ bounded (flat_map f (take k ps)) → t ≡ joined s (f p) → is_some t ≡ false → bounded (flat_map f ps) ≡ None
too_long_at f ps k p s t within is before now long =
    let here = flat_map f (take k ps) ++ f p in
    ap bounded (parted f ps k p within is)
    ∙ too_long_before here (flat_map f (drop (suc k) ps))
    (sym (now ∙ ap (λ u. joined u (f p)) before ∙ joined_bounded (flat_map f (take k ps)) (f p)) ∙ none_there t long)

-- texts that are the same, unless both are too long, are so after any text
pub joined_same : (s : Option Text) (a b : Text) → bounded a ≡ bounded b → joined s a ≡ joined s b
joined_same None a b h = refl
joined_same (Some t) a b h = by (nat_lt most_bytes (length a)) refl (nat_lt most_bytes (length b)) refl h
  where
    by : (v : Bool) → nat_lt most_bytes (length a) ≡ v → (w : Bool) → nat_lt most_bytes (length b) ≡ w → cond v None (Some a) ≡ cond w None (Some b) → bounded (t ++ a) ≡ bounded (t ++ b)
    by true long true longer h = too_long_after t a long ∙ sym (too_long_after t b longer)
    by true long false short h = cc
    by false short true long h = cc
    by false short false fits h = let same : a ≡ b = cc in ap (λ u. bounded (t ++ u)) same

-- texts after a space each, seen as what they hold
pub others_seen : {V : Type 0} (items : V → List ℕ) (vs : List V) → flat_map (λ v. space ∷ items v) vs ≡ flat_map (λ u. space ∷ u) (map items vs)
others_seen items [] = refl
others_seen items (v ∷ vs) = ap (λ t. (space ∷ items v) ++ t) (others_seen items vs)

-- the first of several texts, and then the others with a space before each
pub spaced_seen : {V : Type 0} (items : V → List ℕ) (texts : List V) (first : V) (others : List V) → texts ≡ first ∷ others
    → items first ++ flat_map (λ v. space ∷ items v) others ≡ spaced (map items texts)
spaced_seen items texts first others e = ap (λ t. items first ++ t) (others_seen items others) ∙ ap (λ ts. spaced (map items ts)) (sym e)
