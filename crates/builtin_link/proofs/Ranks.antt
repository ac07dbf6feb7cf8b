-- The ranks of a version, part by part.
use Rattle.std.proofs.Common.{◌≡◌, ℕ, zero, suc, ◌+◌, ◌-◌, ◌<◌, ◌==◌, Bool, true, false, cond, List, [], ◌∷◌, ◌++◌, length, refl, ap, sym, ◌∙◌, arith, eqb-true}
use Rattle.std.proofs.lemmas.List.{append_assoc}
use Rattle.text_bytes.specs.Text.{Text}
use Rattle.text_bytes.specs.Texts.{is_empty}
use Rattle.builtin_link.specs.Versions.{after_front, later_parts, part_ranks, rank, ranks_of, tilde, version_ranks, without}
use Rattle.builtin_link.specs.declared.versions.ByteKind.TheVariants.{Separator}

empty_is : (t : Text) → (length t == 0) ≡ is_empty t
empty_is [] = refl
empty_is (b ∷ t) = by (length (b ∷ t) == 0) refl
  where
    by : (c : Bool) → (length (b ∷ t) == 0) ≡ c → c ≡ false
    by true e =
        let none : length (b ∷ t) ≡ 0 = eqb-true (length (b ∷ t)) 0 e in
        let size : length (b ∷ t) ≡ suc (length t) = refl in
        absurd (omega (arith, none, size))
    by false e = refl

-- no part is looked at yet
pub first_ranks : (version text : Text) (ranks : List ℕ) → ranks ≡ [] → text ≡ after_front Separator version → ranks ++ ranks_of (length version + 1) text ≡ version_ranks version
unfolding version_ranks
first_ranks version text ranks r t = rw (r, t) refl

-- the last part
pub ended : (ranks new last all : List ℕ) (left : ℕ) (text rest : Text) → 0 < left → rest ≡ without tilde text → (length rest == 0) ≡ true → new ≡ ranks ++ rank tilde text ∷ [] → last ≡ new ++ 0 ∷ []
    → ranks ++ ranks_of left text ≡ all → last ≡ all
ended ranks new last all zero text rest h r e n l k = absurd (omega (arith, h))
ended ranks new last all (suc left) text rest h r e n l k =
    l ∙ ap (λ (x : List ℕ). x ++ (0 ∷ [])) n ∙ append_assoc ranks (rank tilde text ∷ []) (0 ∷ [])
    ∙ ap (λ (b : Bool). ranks ++ (rank tilde text ∷ cond b (0 ∷ []) (1 ∷ (part_ranks (without tilde text) ++ ranks_of left (later_parts (without tilde text))))))
    (sym e ∙ empty_is rest ∙ ap is_empty r)
    ∙ k

-- one part more
pub one_more : (ranks new next last all : List ℕ) (left : ℕ) (text rest following : Text) → 0 < left → rest ≡ without tilde text → (length rest == 0) ≡ false
    → new ≡ ranks ++ rank tilde text ∷ [] → next ≡ new ++ 1 ∷ [] → last ≡ next ++ part_ranks rest → following ≡ later_parts rest → ranks ++ ranks_of left text ≡ all
    → last ++ ranks_of (left - 1) following ≡ all
one_more ranks new next last all zero text rest following h r e n m l f k = absurd (omega (arith, h))
one_more ranks new next last all (suc left) text rest following h r e n m l f k =
    let back : suc left - 1 ≡ left = omega arith in
    ap (λ (i : ℕ). last ++ ranks_of i following) back
    ∙ ap (λ (x : List ℕ). x ++ ranks_of left following) (l ∙ ap (λ (x : List ℕ). x ++ part_ranks rest) (m ∙ ap (λ (x : List ℕ). x ++ (1 ∷ [])) n))
    ∙ append_assoc ((ranks ++ (rank tilde text ∷ [])) ++ (1 ∷ [])) (part_ranks rest) (ranks_of left following)
    ∙ append_assoc (ranks ++ (rank tilde text ∷ [])) (1 ∷ []) (part_ranks rest ++ ranks_of left following)
    ∙ append_assoc ranks (rank tilde text ∷ []) (1 ∷ (part_ranks rest ++ ranks_of left following))
    ∙ ap (λ (t : Text). ranks ++ (rank tilde text ∷ 1 ∷ (part_ranks rest ++ ranks_of left t))) f
    ∙ ap (λ (t : Text). ranks ++ (rank tilde text ∷ 1 ∷ (part_ranks t ++ ranks_of left (later_parts t)))) r
    ∙ ap (λ (b : Bool). ranks ++ (rank tilde text ∷ cond b (0 ∷ []) (1 ∷ (part_ranks (without tilde text) ++ ranks_of left (later_parts (without tilde text))))))
    (sym e ∙ empty_is rest ∙ ap is_empty r)
    ∙ k
