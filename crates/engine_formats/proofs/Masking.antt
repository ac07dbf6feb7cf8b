-- A text that is masked byte by byte.
use Rattle.std.proofs.Common.{◌≡◌, ℕ, zero, suc, ◌+◌, ◌<◌, ◌≤◌, ◌⊎◌, inl, inr, Bool, true, false, ◌&&◌, ◌||◌, cond, eqb, leb, List, [], ◌∷◌, ◌++◌, drop, get_or, length, set, take, refl, ap, ap₂, sym, ◌∙◌, arith, append_assoc, add-one, drop-cons}
use Rattle.std.specs.List.{prefix_len}
use Rattle.std.proofs.Math.Bool.{and-false}
use Rattle.std.proofs.lemmas.Bool.{eqb-true, le-leb, leb-true, lt-ltb}
use Rattle.std.proofs.lemmas.List.{drop-set-lt, take_more_set}
use Rattle.engine_formats.specs.Human.{continues}
use Rattle.engine_formats.specs.Masked.{ends_mark, is_within, masked_after, masked_byte}

split_at : (xs : List ℕ) (i d : ℕ) → i < length xs → drop i xs ≡ get_or xs i d ∷ drop (i + 1) xs
split_at xs i d h = rw (add-one, drop-cons xs i d) refl

-- one byte more is masked in its place
pub masked_more : (text next whole : List ℕ) (before last at d : ℕ) → take at text ++ masked_after before last (drop at text) ≡ whole → at < length text
    → next ≡ set text at (masked_byte before last (get_or text at d)) → take (at + 1) next ++ masked_after last (get_or text at d) (drop (at + 1) next) ≡ whole
masked_more text next whole before last at d so_far h n =
    let b : ℕ = get_or text at d in
    let sign : ℕ = masked_byte before last b in
    let rest : List ℕ = masked_after last b (drop (at + 1) text) in
    ap₂ (λ (done left : List ℕ). done ++ masked_after last b left) (ap (take (at + 1)) n ∙ take_more_set text at sign h) (ap (drop (at + 1)) n ∙ drop-set-lt (at + 1) text at sign (omega arith))
    ∙ append_assoc (take at text) (sign ∷ []) rest
    ∙ ap (λ (t : List ℕ). take at text ++ masked_after before last t) (sym (split_at text at d h)) ∙ so_far

and_first : (a b : Bool) → (a && b) ≡ true → a ≡ true
and_first true b h = refl
and_first false b h = h

and_second : (a b : Bool) → (a && b) ≡ true → b ≡ true
and_second true b h = h
and_second false b h = absurd (cc)

-- what is masked by the bytes before it
abbrev after_c2 : ℕ → ℕ → Bool
after_c2 last b = eqb last 194 && is_within 128 159 b

abbrev after_d8 : ℕ → ℕ → Bool
after_d8 last b = eqb last 216 && eqb b 156

abbrev after_80 : ℕ → ℕ → ℕ → Bool
after_80 before last b = (eqb before 226 && eqb last 128) && ends_mark b

abbrev after_81 : ℕ → ℕ → ℕ → Bool
after_81 before last b = (eqb before 226 && eqb last 129) && is_within 166 169 b

stays : (before last b : ℕ) → after_c2 last b ≡ false → after_d8 last b ≡ false → after_80 before last b ≡ false → after_81 before last b ≡ false → masked_byte before last b ≡ b
stays before last b c2 d8 x80 x81 =
    ap (λ (w : Bool). cond w 191 (cond (after_d8 last b) 134 (cond (after_80 before last b) 189 (cond (after_81 before last b) 135 b)))) c2
    ∙ ap (λ (w : Bool). cond w 134 (cond (after_80 before last b) 189 (cond (after_81 before last b) 135 b))) d8
    ∙ ap (λ (w : Bool). cond w 189 (cond (after_81 before last b) 135 b)) x80
    ∙ ap (λ (w : Bool). cond w 135 b) x81

-- no byte is masked because of this one
pub record NoStart (b : ℕ) : Type 0 where
  pub c2 : eqb b 194 ≡ false
  pub d8 : eqb b 216 ≡ false
  pub e2 : eqb b 226 ≡ false
  pub x80 : eqb b 128 ≡ false
  pub x81 : eqb b 129 ≡ false

-- a byte and what it is masked as
abbrev pub Kept : ℕ → ℕ → Type 0
Kept b shown = (shown ≡ b) ⊎ NoStart shown

no_c2 : (last shown b : ℕ) → Kept last shown → after_c2 last b ≡ false → after_c2 shown b ≡ false
no_c2 last shown b (inl e) h = ap (λ (n : ℕ). after_c2 n b) e ∙ h
no_c2 last shown b (inr apart) h = ap (λ (w : Bool). w && is_within 128 159 b) apart.c2

no_d8 : (last shown b : ℕ) → Kept last shown → after_d8 last b ≡ false → after_d8 shown b ≡ false
no_d8 last shown b (inl e) h = ap (λ (n : ℕ). after_d8 n b) e ∙ h
no_d8 last shown b (inr apart) h = ap (λ (w : Bool). w && eqb b 156) apart.d8

-- neither is one that two bytes before it decide
no_third : (code : ℕ) (ends : Bool) (before last shown_before shown : ℕ) → Kept before shown_before → ((shown ≡ last) ⊎ (eqb shown code ≡ false))
    → ((eqb before 226 && eqb last code) && ends) ≡ false → ((eqb shown_before 226 && eqb shown code) && ends) ≡ false
no_third code ends before last shown_before shown (inl e) (inl f) h = ap₂ (λ (m n : ℕ). (eqb m 226 && eqb n code) && ends) e f ∙ h
no_third code ends before last shown_before shown (inl e) (inr apart) h =
    ap (λ (w : Bool). (eqb shown_before 226 && w) && ends) apart ∙ ap (λ (w : Bool). w && ends) (and-false (eqb shown_before 226))
no_third code ends before last shown_before shown (inr apart) k h = ap (λ (w : Bool). (w && eqb shown code) && ends) apart.e2

kept_80 : (last shown : ℕ) → Kept last shown → (shown ≡ last) ⊎ (eqb shown 128 ≡ false)
kept_80 last shown (inl e) = inl e
kept_80 last shown (inr apart) = inr apart.x80

kept_81 : (last shown : ℕ) → Kept last shown → (shown ≡ last) ⊎ (eqb shown 129 ≡ false)
kept_81 last shown (inl e) = inl e
kept_81 last shown (inr apart) = inr apart.x81

-- the byte before is not the first one of a control character
not_c2 : (code last shown : ℕ) → eqb code 194 ≡ false → eqb last code ≡ true → Kept last shown → eqb shown 194 ≡ false
not_c2 code last shown other h (inl e) = ap (λ (n : ℕ). eqb n 194) (e ∙ eqb-true last code h) ∙ other
not_c2 code last shown other h (inr apart) = apart.c2

-- a masked byte stays as it is
record Settled (before last shown_before shown b : ℕ) : Type 0 where
  again : masked_byte shown_before shown (masked_byte before last b) ≡ masked_byte before last b
  kept : Kept b (masked_byte before last b)

settled : (before last shown_before shown b : ℕ) → Kept before shown_before → Kept last shown → Settled before last shown_before shown b
settled before last shown_before shown b k l = record {
  again = by (after_c2 last b) (after_d8 last b) (after_80 before last b) (after_81 before last b) refl refl refl refl;
  kept = kept_by (after_c2 last b) (after_d8 last b) (after_80 before last b) (after_81 before last b);
} where
  by : (c2 d8 x80 x81 : Bool) → after_c2 last b ≡ c2 → after_d8 last b ≡ d8 → after_80 before last b ≡ x80 → after_81 before last b ≡ x81
      → masked_byte shown_before shown (cond c2 191 (cond d8 134 (cond x80 189 (cond x81 135 b)))) ≡ cond c2 191 (cond d8 134 (cond x80 189 (cond x81 135 b)))
  by true d8 x80 x81 e f g h =
      stays shown_before shown 191 (and-false (eqb shown 194)) (and-false (eqb shown 216)) (and-false (eqb shown_before 226 && eqb shown 128)) (and-false (eqb shown_before 226 && eqb shown 129))
  by false true x80 x81 e f g h =
      stays shown_before shown 134 (ap (λ (w : Bool). w && true) (not_c2 216 last shown refl (and_first (eqb last 216) (eqb b 156) f) l)) (and-false (eqb shown 216))
      (and-false (eqb shown_before 226 && eqb shown 128)) (and-false (eqb shown_before 226 && eqb shown 129))
  by false false true x81 e f g h =
      stays shown_before shown 189 (and-false (eqb shown 194)) (and-false (eqb shown 216)) (and-false (eqb shown_before 226 && eqb shown 128)) (and-false (eqb shown_before 226 && eqb shown 129))
  by false false false true e f g h =
      let pair : (eqb before 226 && eqb last 129) ≡ true = and_first (eqb before 226 && eqb last 129) (is_within 166 169 b) h in
      stays shown_before shown 135 (ap (λ (w : Bool). w && true) (not_c2 129 last shown refl (and_second (eqb before 226) (eqb last 129) pair) l)) (and-false (eqb shown 216))
      (and-false (eqb shown_before 226 && eqb shown 128)) (and-false (eqb shown_before 226 && eqb shown 129))
  by false false false false e f g h =
      stays shown_before shown b (no_c2 last shown b l e) (no_d8 last shown b l f) (no_third 128 (ends_mark b) before last shown_before shown k (kept_80 last shown l) g)
      (no_third 129 (is_within 166 169 b) before last shown_before shown k (kept_81 last shown l) h)

  kept_by : (c2 d8 x80 x81 : Bool) → Kept b (cond c2 191 (cond d8 134 (cond x80 189 (cond x81 135 b))))
  kept_by true d8 x80 x81 = inr (record { c2 = refl; d8 = refl; e2 = refl; x80 = refl; x81 = refl })
  kept_by false true x80 x81 = inr (record { c2 = refl; d8 = refl; e2 = refl; x80 = refl; x81 = refl })
  kept_by false false true x81 = inr (record { c2 = refl; d8 = refl; e2 = refl; x80 = refl; x81 = refl })
  kept_by false false false true = inr (record { c2 = refl; d8 = refl; e2 = refl; x80 = refl; x81 = refl })
  kept_by false false false false = inl refl

-- what is masked has nothing left to mask
pub masked_again : (before last shown_before shown : ℕ) (text : List ℕ) → Kept before shown_before → Kept last shown
    → masked_after shown_before shown (masked_after before last text) ≡ masked_after before last text
masked_again before last shown_before shown [] k l = refl
masked_again before last shown_before shown (b ∷ text) k l =
    let own = settled before last shown_before shown b k l in
    ap₂ (λ (first : ℕ) (rest : List ℕ). first ∷ rest) own.again (masked_again last b shown (masked_byte before last b) text l own.kept)

pub masked_twice : (text : List ℕ) → masked_after 0 0 (masked_after 0 0 text) ≡ masked_after 0 0 text
masked_twice text = masked_again 0 0 0 0 text (inl refl) (inl refl)

-- a text is as long where it is masked
pub masked_length : (before last : ℕ) (text : List ℕ) → length (masked_after before last text) ≡ length text
masked_length before last [] = refl
masked_length before last (b ∷ text) = ap suc (masked_length last b text)

within_continues : (first last b : ℕ) → 128 ≤ first → last < 192 → is_within first last b ≡ true → continues b ≡ true
within_continues first last b low high h =
    let from : first ≤ b = leb-true first b (and_first (leb first b) (leb b last) h) in
    let to : b ≤ last = leb-true b last (and_second (leb first b) (leb b last) h) in
    ap₂ (λ (v w : Bool). v && w) (le-leb 128 b (omega arith)) (lt-ltb b 192 (omega arith))

mark_continues : (b : ℕ) (early : Bool) → is_within 142 143 b ≡ early → (early || is_within 168 174 b) ≡ true → continues b ≡ true
mark_continues b true e h = within_continues 142 143 b (omega arith) (omega arith) e
mark_continues b false e h = within_continues 168 174 b (omega arith) (omega arith) h

-- a masked byte continues a character if it did before
pub continues_still : (before last b : ℕ) → continues (masked_byte before last b) ≡ continues b
continues_still before last b = by (after_c2 last b) (after_d8 last b) (after_80 before last b) (after_81 before last b) refl refl refl refl where
  by : (c2 d8 x80 x81 : Bool) → after_c2 last b ≡ c2 → after_d8 last b ≡ d8 → after_80 before last b ≡ x80 → after_81 before last b ≡ x81
      → continues (cond c2 191 (cond d8 134 (cond x80 189 (cond x81 135 b)))) ≡ continues b
  by true d8 x80 x81 e f g h = sym (within_continues 128 159 b (omega arith) (omega arith) (and_second (eqb last 194) (is_within 128 159 b) e))
  by false true x80 x81 e f g h = sym (ap continues (eqb-true b 156 (and_second (eqb last 216) (eqb b 156) f)))
  by false false true x81 e f g h = sym (mark_continues b (is_within 142 143 b) refl (and_second (eqb before 226 && eqb last 128) (ends_mark b) g))
  by false false false true e f g h = sym (within_continues 166 169 b (omega arith) (omega arith) (and_second (eqb before 226 && eqb last 129) (is_within 166 169 b) h))
  by false false false false e f g h = refl

-- as many bytes at the start continue a character
pub same_prefix : (n before last : ℕ) (text : List ℕ) → prefix_len continues (take n (masked_after before last text)) ≡ prefix_len continues (take n text)
same_prefix zero before last text = refl
same_prefix (suc n) before last [] = refl
same_prefix (suc n) before last (b ∷ text) = ap₂ (λ (w : Bool) (m : ℕ). cond w (1 + m) 0) (continues_still before last b) (same_prefix n last b text)

-- the first bytes of a masked text are those of the text, masked
pub masked_take : (n before last : ℕ) (text : List ℕ) → masked_after before last (take n text) ≡ take n (masked_after before last text)
masked_take zero before last text = refl
masked_take (suc n) before last [] = refl
masked_take (suc n) before last (b ∷ text) = ap (λ (t : List ℕ). masked_byte before last b ∷ t) (masked_take n last b text)

-- the rest of a masked text is that of the text, masked by some bytes before it
pub masked_drop : (n before last : ℕ) (text : List ℕ)
    → (earlier : ℕ) × (latest : ℕ) × (drop n (masked_after before last text) ≡ masked_after earlier latest (drop n text))
masked_drop zero before last text = (before, last, refl)
masked_drop (suc n) before last [] = (before, last, refl)
masked_drop (suc n) before last (b ∷ text) = masked_drop n last b text

-- two bytes on it does not matter what came before
pub masked_third : (before last earlier latest : ℕ) (text : List ℕ) → drop 2 (masked_after before last text) ≡ drop 2 (masked_after earlier latest text)
masked_third before last earlier latest [] = refl
masked_third before last earlier latest (b ∷ []) = refl
masked_third before last earlier latest (b ∷ c ∷ text) = refl
