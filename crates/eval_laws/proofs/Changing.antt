-- Tags and links after `=`, `+=` and `-=`.
use Rattle.std.proofs.Common.{◌≡◌, Bool, true, false, cond, not, ◌||◌, ◌&&◌, List, [], ◌∷◌, ◌++◌, filter, refl, ap, sym, ◌∙◌, append_assoc}
use Rattle.std.proofs.lemmas.List.{append-nil}
use Rattle.std.specs.Cmp.Lexicographic.{bytes_decides}
use Rattle.text_bytes.specs.Text.{Text}
use Rattle.text_tables.specs.Texts.{same_text, is_among, with_text, with_texts, without_text}
use Rattle.text_tables.proofs.Found.{among_added}
use Rattle.eval_assignments.specs.Lists.{without_texts}

is_same : (a b : Text) → same_text a b ≡ true → a ≡ b
is_same a b h = (bytes_decides a b).0 h

reversed : (a b : Text) → same_text a b ≡ same_text b a
reversed a b = by (same_text a b) (same_text b a) refl refl
  where
    same : (c d : Text) → c ≡ d → same_text c d ≡ true
    same c d h = (bytes_decides c d).1 h

    by : (p q : Bool) → same_text a b ≡ p → same_text b a ≡ q → p ≡ q
    by true q e f = sym (same b a (sym (is_same a b e))) ∙ f
    by false true e f = sym e ∙ same a b (sym (is_same b a f))
    by false false e f = refl

-- ---- filters

module _ {A : Type 0} where
  same_filter : (p q : A → Bool) → ((x : A) → p x ≡ q x) → (xs : List A) → filter p xs ≡ filter q xs
  same_filter p q h [] = refl
  same_filter p q h (x ∷ xs) = ap (λ b. cond b (x ∷ filter p xs) (filter p xs)) (h x) ∙ ap (λ ys. cond (q x) (x ∷ ys) ys) (same_filter p q h xs)

  one_filter : (p q r : A → Bool) → ((x : A) → r x ≡ (q x && p x)) → (xs : List A) → filter p (filter q xs) ≡ filter r xs
  one_filter p q r h [] = refl
  one_filter p q r h (x ∷ xs) = by (q x) (h x) (one_filter p q r h xs)
    where
      by : (b : Bool) → r x ≡ (b && p x) → filter p (filter q xs) ≡ filter r xs → filter p (cond b (x ∷ filter q xs) (filter q xs)) ≡ cond (r x) (x ∷ filter r xs) (filter r xs)
      by true e more = ap (λ ys. cond (p x) (x ∷ ys) ys) more ∙ ap (λ b. cond b (x ∷ filter r xs) (filter r xs)) (sym e)
      by false e more = more ∙ ap (λ b. cond b (x ∷ filter r xs) (filter r xs)) (sym e)

  whole_filter : (p : A → Bool) → ((x : A) → p x ≡ true) → (xs : List A) → filter p xs ≡ xs
  whole_filter p h [] = refl
  whole_filter p h (x ∷ xs) = ap (λ b. cond b (x ∷ filter p xs) (filter p xs)) (h x) ∙ ap (λ ys. x ∷ ys) (whole_filter p h xs)

or_false : (a : Bool) → (a || false) ≡ a
or_false true = refl
or_false false = refl

or_again : (a b c : Bool) → ((a || b) || c) ≡ (a || (b || c))
or_again true b c = refl
or_again false b c = refl

-- ---- `+=`

-- what was added is there, and so is what was there before
pub among_all : (more texts : List Text) (t : Text) → is_among (with_texts texts more) t ≡ (is_among texts t || is_among more t)
among_all [] texts t = sym (or_false (is_among texts t))
among_all (m ∷ more) texts t =
    among_all more (with_text texts m) t ∙ ap (λ b. b || is_among more t) (among_added texts m t) ∙ or_again (is_among texts t) (same_text t m) (is_among more t)

abbrev is_new : List Text → Text → Bool
is_new texts t = not (is_among texts t)

-- a text that is there is not new, so that to leave it out first changes nothing
known : (texts : List Text) (m x : Text) → is_among texts m ≡ true → is_new texts x ≡ (is_new (m ∷ []) x && is_new texts x)
known texts m x there = by (same_text x m) refl
  where
    by : (b : Bool) → same_text x m ≡ b → is_new texts x ≡ (not (b || false) && is_new texts x)
    by true e = ap not (ap (is_among texts) (is_same x m e) ∙ there)
    by false e = refl

-- and one that was put after is not new any more
after_last : (texts : List Text) (m x : Text) → is_among texts m ≡ false → is_new (texts ++ m ∷ []) x ≡ (is_new (m ∷ []) x && is_new texts x)
after_last texts m x missing =
    ap not (sym (ap (λ b. is_among (cond b texts (texts ++ m ∷ [])) x) missing) ∙ among_added texts m x) ∙ by (is_among texts x) (same_text x m)
  where
    by : (a b : Bool) → not (a || b) ≡ (not (b || false) && not a)
    by true true = refl
    by true false = refl
    by false true = refl
    by false false = refl

-- the new ones follow what is there, in the order in which they come, each once
pub following : (more texts : List Text) → with_texts texts more ≡ texts ++ filter (is_new texts) (with_texts [] more)
following [] texts = sym (append-nil texts)
following (m ∷ more) texts =
    following more (with_text texts m) ∙ by (is_among texts m) refl ∙ ap (λ ts. texts ++ filter (is_new texts) ts) (sym (following more (m ∷ [])))
  where
    by : (b : Bool) → is_among texts m ≡ b
        → cond b texts (texts ++ m ∷ []) ++ filter (is_new (cond b texts (texts ++ m ∷ []))) (with_texts [] more)
        ≡ texts ++ cond (not b) (m ∷ filter (is_new texts) (filter (is_new (m ∷ [])) (with_texts [] more))) (filter (is_new texts) (filter (is_new (m ∷ [])) (with_texts [] more)))
    by true e =
        ap (λ ts. texts ++ ts) (sym (one_filter (is_new texts) (is_new (m ∷ [])) (is_new texts) (λ x. known texts m x e) (with_texts [] more)))
    by false e =
        append_assoc texts (m ∷ []) (filter (is_new (texts ++ m ∷ [])) (with_texts [] more))
        ∙ ap (λ ts. texts ++ m ∷ ts) (sym (one_filter (is_new texts) (is_new (m ∷ [])) (is_new (texts ++ m ∷ [])) (λ x. after_last texts m x e) (with_texts [] more)))

-- ---- `=`

-- the first comes first, and no other is the same
pub first_alone : (t : Text) (others : List Text) → with_texts [] (t ∷ others) ≡ t ∷ without_text (with_texts [] others) t
first_alone t others =
    following others (t ∷ [])
    ∙ ap (λ ts. t ∷ ts) (same_filter (is_new (t ∷ [])) (λ u. not (same_text t u)) (λ u. ap not (or_false (same_text u t) ∙ reversed u t)) (with_texts [] others))

-- ---- `-=`

apart : (a b : Bool) → not (a || b) ≡ (not a && not b)
apart true b = refl
apart false b = refl

-- the given ones go, and no other
pub others_stay : (gone texts : List Text) → without_texts texts gone ≡ filter (λ t. not (is_among gone t)) texts
others_stay [] texts = sym (whole_filter (λ t. true) (λ t. refl) texts)
others_stay (g ∷ gone) texts =
    others_stay gone (without_text texts g)
    ∙ one_filter (λ t. not (is_among gone t)) (λ t. not (same_text g t)) (λ t. not (is_among (g ∷ gone) t))
    (λ t. ap (λ b. not (b || is_among gone t)) (reversed t g) ∙ apart (same_text g t) (is_among gone t)) texts
