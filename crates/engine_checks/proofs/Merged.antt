-- Lists of which one is put among the other.
use Rattle.std.proofs.Common.{◌≡◌, Bool, true, false, cond, List, [], ◌∷◌, ◌++◌, All, filter, nat_lt, take-append-drop, refl, ap, sym, ◌∙◌}
use Rattle.std.specs.List.{prefix_len, take_while}
use Rattle.std.proofs.lemmas.List.Elements.{All-append, All-cons, All-drop, All-head, All-tail, All-take, filter-append}
use Rattle.text_bytes.specs.Texts.{skip_while}
use Rattle.engine_formats.specs.Diagnostics.{DiagnosticValue}
use Rattle.engine_checks.specs.Reported.{merged}

pub filter_all : {X : Type 0} (p : X → Bool) (xs : List X) → All (λ x. p x ≡ true) xs → filter p xs ≡ xs
filter_all p [] h = refl
filter_all p (x ∷ xs) h =
    ap (λ b. cond b (x ∷ filter p xs) (filter p xs)) (All-head (λ y. p y ≡ true) x xs h) ∙ ap (λ ys. x ∷ ys) (filter_all p xs (All-tail (λ y. p y ≡ true) x xs h))

pub filter_none : {X : Type 0} (p : X → Bool) (xs : List X) → All (λ x. p x ≡ false) xs → filter p xs ≡ []
filter_none p [] h = refl
filter_none p (x ∷ xs) h =
    ap (λ b. cond b (x ∷ filter p xs) (filter p xs)) (All-head (λ y. p y ≡ false) x xs h) ∙ filter_none p xs (All-tail (λ y. p y ≡ false) x xs h)

pub filter_alike : {X : Type 0} (p q : X → Bool) (xs : List X) → All (λ x. p x ≡ q x) xs → filter p xs ≡ filter q xs
filter_alike p q [] h = refl
filter_alike p q (x ∷ xs) h =
    ap (λ b. cond b (x ∷ filter p xs) (filter p xs)) (All-head (λ y. p y ≡ q y) x xs h)
    ∙ ap (λ ys. cond (q x) (x ∷ ys) ys) (filter_alike p q xs (All-tail (λ y. p y ≡ q y) x xs h))

-- two tests in either order
pub filter_swap : {X : Type 0} (p q : X → Bool) (xs : List X) → filter p (filter q xs) ≡ filter q (filter p xs)
filter_swap p q [] = refl
filter_swap p q (x ∷ xs) = by (p x) (q x) refl refl (filter_swap p q xs)
  where
    by : (a b : Bool) → p x ≡ a → q x ≡ b → filter p (filter q xs) ≡ filter q (filter p xs) → filter p (cond b (x ∷ filter q xs) (filter q xs)) ≡ filter q (cond a (x ∷ filter p xs) (filter p xs))
    by true true e f more =
        ap (λ v. cond v (x ∷ filter p (filter q xs)) (filter p (filter q xs))) e
        ∙ ap (λ ys. x ∷ ys) more
        ∙ sym (ap (λ v. cond v (x ∷ filter q (filter p xs)) (filter q (filter p xs))) f)
    by true false e f more = more ∙ sym (ap (λ v. cond v (x ∷ filter q (filter p xs)) (filter q (filter p xs))) f)
    by false true e f more = ap (λ v. cond v (x ∷ filter p (filter q xs)) (filter p (filter q xs))) e ∙ more
    by false false e f more = more

module _ (p : DiagnosticValue → Bool) where
  -- a test that no other passes finds what it finds without these
  pub first_left : (ds others : List DiagnosticValue) → All (λ d. p d ≡ false) others → filter p (merged ds others) ≡ filter p ds
  first_left [] others k = filter_none p others k
  first_left (d ∷ ds) others k =
      let n = prefix_len (λ o. nat_lt o.begins d.begins) others in
      filter-append p (take_while (λ o. nat_lt o.begins d.begins) others) (d ∷ merged ds (skip_while (λ o. nat_lt o.begins d.begins) others))
      ∙ ap (λ ms. ms ++ filter p (d ∷ merged ds (skip_while (λ o. nat_lt o.begins d.begins) others))) (filter_none p (take_while (λ o. nat_lt o.begins d.begins) others) (All-take (λ x. p x ≡ false) n others k))
      ∙ ap (λ ms. cond (p d) (d ∷ ms) ms) (first_left ds (skip_while (λ o. nat_lt o.begins d.begins) others) (All-drop (λ x. p x ≡ false) n others k))

  -- a test that none of the first passes finds what it finds among the others
  pub others_left : (ds others : List DiagnosticValue) → All (λ d. p d ≡ false) ds → filter p (merged ds others) ≡ filter p others
  others_left [] others h = refl
  others_left (d ∷ ds) others h =
      let n = prefix_len (λ o. nat_lt o.begins d.begins) others in
      filter-append p (take_while (λ o. nat_lt o.begins d.begins) others) (d ∷ merged ds (skip_while (λ o. nat_lt o.begins d.begins) others))
      ∙ ap (λ b. filter p (take_while (λ o. nat_lt o.begins d.begins) others) ++ cond b (d ∷ filter p (merged ds (skip_while (λ o. nat_lt o.begins d.begins) others))) (filter p (merged ds (skip_while (λ o. nat_lt o.begins d.begins) others)))) (All-head (λ x. p x ≡ false) d ds h)
      ∙ ap (λ ms. filter p (take_while (λ o. nat_lt o.begins d.begins) others) ++ ms) (others_left ds (skip_while (λ o. nat_lt o.begins d.begins) others) (All-tail (λ x. p x ≡ false) d ds h))
      ∙ sym (filter-append p (take_while (λ o. nat_lt o.begins d.begins) others) (skip_while (λ o. nat_lt o.begins d.begins) others))
      ∙ ap (filter p) (take-append-drop n others)

-- what holds of both lists
pub both_hold : (P : DiagnosticValue → Type 0) (ds others : List DiagnosticValue) → All P ds → All P others → All P (merged ds others)
both_hold P [] others h k = k
both_hold P (d ∷ ds) others h k =
    let n = prefix_len (λ o. nat_lt o.begins d.begins) others in
    All-append P (take_while (λ o. nat_lt o.begins d.begins) others) (d ∷ merged ds (skip_while (λ o. nat_lt o.begins d.begins) others))
    (All-take P n others k)
    (All-cons P d (merged ds (skip_while (λ o. nat_lt o.begins d.begins) others)) (All-head P d ds h)
    (both_hold P ds (skip_while (λ o. nat_lt o.begins d.begins) others) (All-tail P d ds h) (All-drop P n others k)))
