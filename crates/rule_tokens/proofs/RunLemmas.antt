-- Runs of a class of bytes, and what ends them.
use Rattle.std.proofs.Common.{◌≡◌, ℕ, zero, suc, ◌+◌, Bool, true, false, List, [], ◌∷◌, ◌++◌, length, take, drop, Result, Ok, Err, cond, refl, ap, ◌==◌, arith, add-one}
use Rattle.std.specs.Prelude.{⊤, slice_index}
use Rattle.std.specs.List.{prefix_len, list_all}
use Rattle.std.proofs.lemmas.Bool.{eqb-true, eq-eqb, and_parts, and_from, both_ways}
use Rattle.std.proofs.lemmas.List.{take_at}
use Rattle.rule_tokens.specs.declared.kinds.TokenFaultKind.{TokenFaultKind}
use Rattle.rule_tokens.specs.declared.kinds.TokenFaultKind.TheVariants.{Syntax, Prefix}
use Rattle.rule_tokens.specs.Grammar.{AllAre, BeginsOther}
use Rattle.rule_tokens.specs.Reading.{◌>>=◌, closed_at}

-- what holds for what was read, or for the text if a prefix is wrong
abbrev pub Sound : {A : Type 0} → (A → Type 0) → Type 0 → Result A TokenFaultKind → Type 0
Sound P Q (Ok x) = P x
Sound P Q (Err Syntax) = ⊤
Sound P Q (Err Prefix) = Q

pub bind_sound : {A B : Type 0} (P : A → Type 0) (Q : Type 0) (P2 : B → Type 0) (Q2 : Type 0) (r : Result A TokenFaultKind) (f : A → Result B TokenFaultKind) → Sound P Q r → (Q → Q2) → ((x : A) → P x → Sound P2 Q2 (f x)) → Sound P2 Q2 (r >>= f)
bind_sound P Q P2 Q2 (Ok x) f p q g = g x p
bind_sound P Q P2 Q2 (Err Syntax) f p q g = tt
bind_sound P Q P2 Q2 (Err Prefix) f p q g = q p

pub cond_sound : {X : Type 0} (P : X → Type 0) (Q : Type 0) (b : Bool) (r s : Result X TokenFaultKind) → (b ≡ true → Sound P Q r) → (b ≡ false → Sound P Q s) → Sound P Q (cond b r s)
cond_sound P Q true r s p q = p refl
cond_sound P Q false r s p q = q refl

pub run_again : (class : ℕ → Bool) (run rest : List ℕ) → AllAre class run → BeginsOther class rest → prefix_len class (run ++ rest) ≡ length run
run_again class [] [] a o = refl
run_again class [] (b ∷ rest) a o = rw o refl
run_again class (b ∷ run) rest a o =
    let p = and_parts (class b) (list_all class run) a in
    rw p.0 (rw (run_again class run rest p.1 o) (omega arith))

one-add : (n : ℕ) → 1 + n ≡ suc n
one-add n = omega arith

pub run_all : (class : ℕ → Bool) (text : List ℕ) → AllAre class (take (prefix_len class text) text)
run_all class [] = refl
run_all class (b ∷ rest) = by_test class b rest (run_all class rest) (class b) refl
  where
    by_test : (class : ℕ → Bool) (b : ℕ) (rest : List ℕ) → AllAre class (take (prefix_len class rest) rest) → (t : Bool) → class b ≡ t → list_all class (take (cond t (1 + prefix_len class rest) 0) (b ∷ rest)) ≡ true
    by_test class b rest h true e = rw (one-add (prefix_len class rest)) (and_from (class b) _ e h)
    by_test class b rest h false e = refl

-- a run of one class before what begins with no byte of another
pub apart : (p q : ℕ → Bool) (run rest : List ℕ) → ((b : ℕ) → p b ≡ true → q b ≡ false) → AllAre p run → BeginsOther q rest → BeginsOther q (run ++ rest)
apart p q [] rest d a o = o
apart p q (b ∷ run) rest d a o = d b (and_parts (p b) (list_all p run) a).0

at_seam : (b : ℕ) (run rest : List ℕ) → slice_index (run ++ b ∷ rest) (length run) ≡ b
at_seam b [] rest = refl
at_seam b (c ∷ run) rest = at_seam b run rest

after_seam : (b : ℕ) (run rest : List ℕ) → drop (suc (length run)) (run ++ b ∷ rest) ≡ rest
after_seam b [] rest = refl
after_seam b (c ∷ run) rest = after_seam b run rest

pub closed_again : (b n : ℕ) (run rest : List ℕ) → n ≡ length run → closed_at b n (run ++ b ∷ rest) ≡ Ok (run, rest)
unfolding closed_at
closed_again b n run rest e =
    rw e (rw (at_seam b run rest) (rw (eq-eqb b b refl) (rw (take_at run (b ∷ rest) _ refl) (rw (add-one (length run)) (rw (after_seam b run rest) refl)))))

pub closed_sound : (b n : ℕ) (text : List ℕ) → (0 == b) ≡ false → Sound (λ (x : List ℕ × List ℕ). (text ≡ x.0 ++ b ∷ x.1) × (x.0 ≡ take n text)) ⊥ (closed_at b n text)
unfolding closed_at
closed_sound b n text z =
    cond_sound (λ (x : List ℕ × List ℕ). (text ≡ x.0 ++ b ∷ x.1) × (x.0 ≡ take n text)) ⊥ (slice_index text n == b) _ _
    (λ e. (rw (add-one n) (found b n text z e), refl)) (λ _. tt)
  where
    found : (b n : ℕ) (text : List ℕ) → (0 == b) ≡ false → (slice_index text n == b) ≡ true → text ≡ take n text ++ b ∷ drop (suc n) text
    found b n [] z e = absurd (both_ways (0 == b) z e)
    found b zero (c ∷ rest) z e = ap (λ a. a ∷ rest) (eqb-true c b e)
    found b (suc n) (c ∷ rest) z e = ap (λ a. c ∷ a) (found b n rest z e)

pub run_stops : (class : ℕ → Bool) (text : List ℕ) → BeginsOther class (drop (prefix_len class text) text)
run_stops class [] = tt
run_stops class (b ∷ rest) = by_test class b rest (run_stops class rest) (class b) refl
  where
    by_test : (class : ℕ → Bool) (b : ℕ) (rest : List ℕ) → BeginsOther class (drop (prefix_len class rest) rest) → (t : Bool) → class b ≡ t → BeginsOther class (drop (cond t (1 + prefix_len class rest) 0) (b ∷ rest))
    by_test class b rest h true e = rw (one-add (prefix_len class rest)) h
    by_test class b rest h false e = e
