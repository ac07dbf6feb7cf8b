-- The parts of a text that pass a test, cut off at a byte one by one.
use Rattle.std.proofs.Common.{◌≡◌, ℕ, ◌+◌, ◌==◌, Bool, true, false, cond, List, ◌∷◌, [], ◌++◌, take, drop, Option, Some, None, option_map, unwrap_or, filter, refl, sym, ◌∙◌, ap, append_assoc}
use Rattle.std.specs.List.{slice_split, position}
use Rattle.text_bytes.specs.Texts.{split_once}
use Rattle.text_core.proofs.Cutting.{split_none, split_some}

module _ (test : List ℕ → Bool) where
  -- texts that pass, of two lists
  first_of : (t : List ℕ) (ts : List (List ℕ)) → filter test (t ∷ []) ++ filter test ts ≡ filter test (t ∷ ts)
  first_of t ts = by (test t)
    where
      by : (b : Bool) → cond b (t ∷ []) [] ++ filter test ts ≡ cond b (t ∷ filter test ts) (filter test ts)
      by true = refl
      by false = refl

  -- those that were kept, and then the others
  pub held_more : (held : List (List ℕ)) (t : List ℕ) (ts : List (List ℕ)) → (held ++ filter test (t ∷ [])) ++ filter test ts ≡ held ++ filter test (t ∷ ts)
  held_more held t ts = append_assoc held (filter test (t ∷ [])) (filter test ts) ∙ ap (λ us. held ++ us) (first_of t ts)

  module _ (byte : ℕ) where
    -- what comes before the next such byte, and then the parts after it
    more_at : (held : List (List ℕ)) (rest prefix following : List ℕ) (place : ℕ) → position (λ b. b == byte) rest ≡ Some place → prefix ≡ take place rest → following ≡ drop (place + 1) rest
        → (held ++ filter test (prefix ∷ [])) ++ filter test (slice_split (λ b. b == byte) following) ≡ held ++ filter test (slice_split (λ b. b == byte) rest)
    more_at held rest prefix following place at f b =
        held_more held prefix (slice_split (λ b. b == byte) following)
        ∙ ap (λ ts. held ++ filter test ts)
        (ap (λ t. t ∷ slice_split (λ b. b == byte) following) f ∙ ap (λ t. take place rest ∷ slice_split (λ b. b == byte) t) b ∙ sym (split_some (λ b. b == byte) rest place at))

    -- a text that is split at its next such byte gives one part, and the parts of what is left
    pub parts_more : (held : List (List ℕ)) (rest prefix following : List ℕ) → split_once byte rest ≡ Some (prefix, following)
        → (held ++ filter test (prefix ∷ [])) ++ filter test (slice_split (λ b. b == byte) following) ≡ held ++ filter test (slice_split (λ b. b == byte) rest)
    unfolding split_once
    parts_more held rest prefix following h = by (position (λ b. b == byte) rest) refl h
      where
        by : (p : Option ℕ) → position (λ b. b == byte) rest ≡ p → option_map {U = List ℕ × List ℕ} (λ n. (take n rest, drop (n + 1) rest)) p ≡ Some (prefix, following)
            → (held ++ filter test (prefix ∷ [])) ++ filter test (slice_split (λ b. b == byte) following) ≡ held ++ filter test (slice_split (λ b. b == byte) rest)
        by None e q = cc
        by (Some n) e q =
            let f : prefix ≡ take n rest = sym (ap (λ (o : Option (List ℕ × List ℕ)). (unwrap_or o ([], [])).0) q) in
            let b : following ≡ drop (n + 1) rest = sym (ap (λ (o : Option (List ℕ × List ℕ)). (unwrap_or o ([], [])).1) q) in
            more_at held rest prefix following n e f b

    -- without such a byte the whole text is the last part
    pub parts_last : (held : List (List ℕ)) (rest : List ℕ) → split_once byte rest ≡ None → held ++ filter test (rest ∷ []) ≡ held ++ filter test (slice_split (λ b. b == byte) rest)
    unfolding split_once
    parts_last held rest h = by (position (λ b. b == byte) rest) refl h
      where
        by : (p : Option ℕ) → position (λ b. b == byte) rest ≡ p → option_map {U = List ℕ × List ℕ} (λ n. (take n rest, drop (n + 1) rest)) p ≡ None
            → held ++ filter test (rest ∷ []) ≡ held ++ filter test (slice_split (λ b. b == byte) rest)
        by None e q = ap (λ ts. held ++ filter test ts) (sym (split_none (λ b. b == byte) rest e))
        by (Some n) e q = cc
