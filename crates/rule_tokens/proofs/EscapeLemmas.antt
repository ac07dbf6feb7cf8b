-- What an escape means, as the grammar and as the code read it.
use Rattle.std.proofs.Common.{◌≡◌, ℕ, zero, suc, ◌+◌, ◌-◌, ◌*◌, ◌^◌, ◌<◌, ◌≤◌, Bool, true, false, ◌&&◌, List, [], ◌∷◌, length, take, drop, Option, Some, None, option_map, cond, refl, ap, ◌∙◌, ◌==◌, arith, eqb-true, subst, mul-suc, inl, inr}
use Rattle.std.specs.Prelude.{nat_lt, slice_index}
use Rattle.std.specs.List.{list_all}
use Rattle.std.specs.Char.{digit_value}
use Rattle.std.specs.Str.Parse.{digits_value, digits_value_after, AllDigits}
use Rattle.std.proofs.lemmas.Bool.{and_parts, or_cases, and_right, lt-ltb, le-ltb, ltb-true, ltb-false, eq-eqb, ne_eqb, eqb-false}
use Rattle.std.proofs.lemmas.List.{length-take, length-take-le}
use Rattle.std.proofs.Math.Seq.{take-length}
use Rattle.std.proofs.lemmas.Int.Digits.{digits_value-lt}
use Rattle.text_bytes.specs.Names.{backslash}
use Rattle.rule_tokens.specs.Values.{Piece, letter, octal, hex, short, long, spelling, meaning, letter_means, is_number, is_scalar}
use Rattle.rule_tokens.specs.Reading.{escape_first, if_piece, piece_at, meaning_at, scan, positive, number_at, byte_from, byte_at, character_from, character_at, letter_from, escape_at}
use Rattle.rule_tokens.specs.Letters.{letter_x, letter_u, capital_u}

times : (v base : ℕ) → 1 ≤ base → v ≤ v * base
times v zero h = absurd (omega arith)
times v (suc base) h = omega (arith, mul-suc v base)

-- digits only make a number greater
value_grows : (base : ℕ) (v : ℕ) (ds : List ℕ) → 1 ≤ base → v ≤ digits_value_after base v ds
value_grows base v [] h = omega arith
value_grows base v (d ∷ ds) h =
    let more = value_grows base (v * base + digit_value d) ds h in
    let m : v ≤ v * base = times v base h in omega arith

abbrev is_digit_of : ℕ → ℕ → Bool
is_digit_of base d = nat_lt (digit_value d) base

scan_is : (base v : ℕ) (ds : List ℕ) → 1 ≤ base → v < 1114112 → scan base v ds ≡ cond (list_all (is_digit_of base) ds && nat_lt (digits_value_after base v ds) 1114112) (Some (digits_value_after base v ds)) None
unfolding scan
scan_is base v [] h l = rw (lt-ltb v 1114112 l) refl
scan_is base v (d ∷ ds) h l = by_digit (λ m. scan_is base (v * base + digit_value d) ds h m) (is_digit_of base d) refl
  where
    by_size : (t : Bool) → nat_lt (v * base + digit_value d) 1114112 ≡ t → (v * base + digit_value d < 1114112 → scan base (v * base + digit_value d) ds ≡ cond (list_all (is_digit_of base) ds && nat_lt (digits_value_after base (v * base + digit_value d) ds) 1114112) (Some (digits_value_after base (v * base + digit_value d) ds)) None)
        → (v * base + digit_value d ≤ digits_value_after base (v * base + digit_value d) ds)
        → cond t (scan base (v * base + digit_value d) ds) None ≡ cond (list_all (is_digit_of base) ds && nat_lt (digits_value_after base (v * base + digit_value d) ds) 1114112) (Some (digits_value_after base (v * base + digit_value d) ds)) None
    by_size true e more g = more (ltb-true _ 1114112 e)
    by_size false e more g = rw (and_right (list_all (is_digit_of base) ds) _ (le-ltb (digits_value_after base (v * base + digit_value d) ds) 1114112 (omega (arith, ltb-false _ 1114112 e)))) refl

    by_digit : (v * base + digit_value d < 1114112 → scan base (v * base + digit_value d) ds ≡ cond (list_all (is_digit_of base) ds && nat_lt (digits_value_after base (v * base + digit_value d) ds) 1114112) (Some (digits_value_after base (v * base + digit_value d) ds)) None)
        → (t : Bool) → is_digit_of base d ≡ t → cond t (cond (nat_lt (v * base + digit_value d) 1114112) (scan base (v * base + digit_value d) ds) None) None
        ≡ cond ((t && list_all (is_digit_of base) ds) && nat_lt (digits_value_after base (v * base + digit_value d) ds) 1114112) (Some (digits_value_after base (v * base + digit_value d) ds)) None
    by_digit more true e = by_size (nat_lt (v * base + digit_value d) 1114112) refl more (value_grows base (v * base + digit_value d) ds h)
    by_digit more false e = refl

-- the number that the code reads
number_is : (base count : ℕ) (text : List ℕ) → 1 ≤ base → 0 < count → number_at base count text ≡ cond (is_number base count (take count text) && nat_lt (digits_value base (take count text)) 1114112) (Some (digits_value base (take count text))) None
unfolding is_number
number_is base count text h c = by_length (nat_lt (length text) count) refl
  where
    value : ℕ
    value = digits_value base (take count text)

    by_value : (a b z : Bool) → nat_lt 0 value ≡ z → positive (cond (a && b) (Some value) None) ≡ cond ((a && z) && b) (Some value) None
    by_value false b z e = refl
    by_value true false true e = refl
    by_value true false false e = refl
    by_value true true true e = rw (ne_eqb value 0 (λ k. absurd (omega (arith, ltb-true 0 value e)))) refl
    by_value true true false e = rw (eq-eqb value 0 (omega (arith, ltb-false 0 value e))) refl

    by_length : (t : Bool) → nat_lt (length text) count ≡ t → cond t None (positive (scan base 0 (take count text)))
        ≡ cond ((length (take count text) == count && (list_all (is_digit_of base) (take count text) && nat_lt 0 value)) && nat_lt value 1114112) (Some value) None
    by_length true e = rw (ne_eqb (length (take count text)) count (λ k. absurd (omega (arith, ltb-true _ count e, length-take count text)))) refl
    by_length false e =
        rw (eq-eqb (length (take count text)) count (length-take-le count text (ltb-false _ count e)))
        (ap positive (scan_is base 0 (take count text) h (omega arith)) ∙ by_value (list_all (is_digit_of base) (take count text)) (nat_lt value 1114112) (nat_lt 0 value) refl)

-- what a piece means after the text's first byte, and what follows it
abbrev meant_in : List ℕ → Piece → Option (List ℕ × List ℕ)
meant_in text p = option_map {U = List ℕ × List ℕ} (λ p. (meaning p, drop (length (spelling p)) text)) (if_piece true p)

split : (f : Piece → Option (List ℕ × List ℕ)) (t : Bool) (x y : Piece) (u v : Option (List ℕ × List ℕ)) → (t ≡ true → f x ≡ u) → (t ≡ false → f y ≡ v) → f (cond t x y) ≡ cond t u v
split f true x y u v a b = a refl
split f false x y u v a b = b refl

digits_of_list : (base : ℕ) (ds : List ℕ) → list_all (is_digit_of base) ds ≡ true → AllDigits base ds
digits_of_list base [] e = tt
digits_of_list base (d ∷ ds) e = let p = and_parts (is_digit_of base d) (list_all (is_digit_of base) ds) e in (ltb-true _ base p.0, digits_of_list base ds p.1)

-- a number of so many digits
number_fits : (base count : ℕ) (ds : List ℕ) → is_number base count ds ≡ true → (length ds ≡ count) × (digits_value base ds < base ^ count)
unfolding is_number
number_fits base count ds e =
    let p = and_parts (length ds == count) _ e in
    let l : length ds ≡ count = eqb-true (length ds) count p.0 in
    let q = and_parts (list_all (is_digit_of base) ds) _ p.1 in
    let P : ℕ → Type 0 = λ n. digits_value base ds < base ^ n in
    (l, subst P l (digits_value-lt base ds (digits_of_list base ds q.0)))

hex_means : (c : ℕ) (rest : List ℕ) → meant_in (backslash ∷ c ∷ rest) (hex (take 2 rest)) ≡ byte_at 16 2 rest
hex_means c rest = rw (number_is 16 2 rest (omega arith) (omega arith)) (by_test (is_number 16 2 (take 2 rest)) refl)
  where
    by_test : (t : Bool) → is_number 16 2 (take 2 rest) ≡ t → option_map {U = List ℕ × List ℕ} (λ p. (meaning p, drop (length (spelling p)) (backslash ∷ c ∷ rest))) (cond t (Some (hex (take 2 rest))) None) ≡ byte_from (drop 2 rest) (cond (t && nat_lt (digits_value 16 (take 2 rest)) 1114112) (Some (digits_value 16 (take 2 rest))) None)
    by_test false e = refl
    by_test true e =
        let f = number_fits 16 2 (take 2 rest) e in
        rw (lt-ltb (digits_value 16 (take 2 rest)) 1114112 (omega (arith, f.1))) (rw (lt-ltb (digits_value 16 (take 2 rest)) 256 (omega (arith, f.1))) (rw f.0 refl))

octal_means : (text : List ℕ) → meant_in (backslash ∷ text) (octal (take 3 text)) ≡ byte_at 8 3 text
octal_means text = rw (number_is 8 3 text (omega arith) (omega arith)) (by_test (is_number 8 3 (take 3 text)) refl)
  where
    value : ℕ
    value = digits_value 8 (take 3 text)

    by_test : (t : Bool) → is_number 8 3 (take 3 text) ≡ t → option_map {U = List ℕ × List ℕ} (λ p. (meaning p, drop (length (spelling p)) (backslash ∷ text))) (cond (t && nat_lt value 256) (Some (octal (take 3 text))) None) ≡ byte_from (drop 3 text) (cond (t && nat_lt value 1114112) (Some value) None)
    by_test false e = refl
    by_test true e =
        let f = number_fits 8 3 (take 3 text) e in
        rw (lt-ltb value 1114112 (omega (arith, f.1))) (by_size (nat_lt value 256) f.0)
      where
        by_size : (b : Bool) → length (take 3 text) ≡ 3 → option_map {U = List ℕ × List ℕ} (λ p. (meaning p, drop (length (spelling p)) (backslash ∷ text))) (cond b (Some (octal (take 3 text))) None) ≡ cond b (Some (value ∷ [], drop 3 text)) None
        by_size false l = refl
        by_size true l = rw l refl

scalar_small : (v : ℕ) → is_scalar v ≡ true → nat_lt v 1114112 ≡ true
scalar_small v e = elim (or_cases (nat_lt v 55296) _ e) as (λ _. nat_lt v 1114112 ≡ true) [ inl h ↦ lt-ltb v 1114112 (omega (arith, ltb-true v 55296 h)) | inr h ↦ (and_parts (nat_lt 57343 v) (nat_lt v 1114112) h).1 ]

short_means : (c : ℕ) (rest : List ℕ) → meant_in (backslash ∷ c ∷ rest) (short (take 4 rest)) ≡ character_at 4 rest
short_means c rest = rw (number_is 16 4 rest (omega arith) (omega arith)) (by_test (is_number 16 4 (take 4 rest)) refl)
  where
    value : ℕ
    value = digits_value 16 (take 4 rest)

    by_scalar : (b : Bool) → is_scalar value ≡ b → length (take 4 rest) ≡ 4 → option_map {U = List ℕ × List ℕ} (λ p. (meaning p, drop (length (spelling p)) (backslash ∷ c ∷ rest))) (cond b (Some (short (take 4 rest))) None) ≡ character_from (drop 4 rest) (cond (nat_lt value 1114112) (Some value) None)
    by_scalar true e l = rw (scalar_small value e) (rw e (rw l refl))
    by_scalar false e l = by_size (nat_lt value 1114112)
      where
        by_size : (t : Bool) → None ≡ character_from (drop 4 rest) (cond t (Some value) None)
        by_size false = refl
        by_size true = rw e refl

    by_test : (t : Bool) → is_number 16 4 (take 4 rest) ≡ t → option_map {U = List ℕ × List ℕ} (λ p. (meaning p, drop (length (spelling p)) (backslash ∷ c ∷ rest))) (cond (t && is_scalar value) (Some (short (take 4 rest))) None) ≡ character_from (drop 4 rest) (cond (t && nat_lt value 1114112) (Some value) None)
    by_test false e = refl
    by_test true e = by_scalar (is_scalar value) refl (number_fits 16 4 (take 4 rest) e).0

long_means : (c : ℕ) (rest : List ℕ) → meant_in (backslash ∷ c ∷ rest) (long (take 8 rest)) ≡ character_at 8 rest
long_means c rest = rw (number_is 16 8 rest (omega arith) (omega arith)) (by_test (is_number 16 8 (take 8 rest)) refl)
  where
    value : ℕ
    value = digits_value 16 (take 8 rest)

    by_scalar : (b : Bool) → is_scalar value ≡ b → length (take 8 rest) ≡ 8 → option_map {U = List ℕ × List ℕ} (λ p. (meaning p, drop (length (spelling p)) (backslash ∷ c ∷ rest))) (cond b (Some (long (take 8 rest))) None) ≡ character_from (drop 8 rest) (cond (nat_lt value 1114112) (Some value) None)
    by_scalar true e l = rw (scalar_small value e) (rw e (rw l refl))
    by_scalar false e l = by_size (nat_lt value 1114112)
      where
        by_size : (t : Bool) → None ≡ character_from (drop 8 rest) (cond t (Some value) None)
        by_size false = refl
        by_size true = rw e refl

    by_test : (t : Bool) → is_number 16 8 (take 8 rest) ≡ t → option_map {U = List ℕ × List ℕ} (λ p. (meaning p, drop (length (spelling p)) (backslash ∷ c ∷ rest))) (cond (t && is_scalar value) (Some (long (take 8 rest))) None) ≡ character_from (drop 8 rest) (cond (t && nat_lt value 1114112) (Some value) None)
    by_test false e = refl
    by_test true e = by_scalar (is_scalar value) refl (number_fits 16 8 (take 8 rest) e).0

letter_from_means : (c : ℕ) (rest : List ℕ) → meant_in (backslash ∷ c ∷ rest) (letter c) ≡ letter_from (letter_means c) rest
letter_from_means c rest = by_value (letter_means c == 0) refl
  where
    by_value : (t : Bool) → (letter_means c == 0) ≡ t → option_map {U = List ℕ × List ℕ} (λ p. (meaning p, drop (length (spelling p)) (backslash ∷ c ∷ rest))) (cond (nat_lt 0 (letter_means c)) (Some (letter c)) None) ≡ cond t None (Some (letter_means c ∷ [], rest))
    by_value true e = rw (le-ltb 0 (letter_means c) (omega (arith, eqb-true (letter_means c) 0 e))) refl
    by_value false e = rw (lt-ltb 0 (letter_means c) (positive_not (letter_means c) (eqb-false (letter_means c) 0 e))) refl
      where
        positive_not : (n : ℕ) → (n ≡ 0 → ⊥) → 0 < n
        positive_not zero h = absurd (h refl)
        positive_not (suc n) h = omega arith

escape_means : (rest : List ℕ) → meant_in (backslash ∷ rest) (escape_first rest) ≡ escape_at rest
unfolding escape_first escape_at
escape_means [] = refl
escape_means (c ∷ rest) =
    let f = meant_in (backslash ∷ c ∷ rest) in
    split f (c == letter_x) _ _ _ _ (λ _. hex_means c rest) (λ _.
    split f (c == letter_u) _ _ _ _ (λ _. short_means c rest) (λ _.
    split f (c == capital_u) _ _ _ _ (λ _. long_means c rest) (λ _.
    split f (is_digit_of 8 c) _ _ _ _ (λ _. octal_means (c ∷ rest)) (λ _. letter_from_means c rest))))

rest_is : (text : List ℕ) → take (length text - 1) (drop 1 text) ≡ drop 1 text
rest_is [] = refl
rest_is (b ∷ rest) = let e : length (b ∷ rest) - 1 ≡ length rest = omega arith in rw e (take-length rest)

-- a text that begins with a backslash
pub backslash_means : (text : List ℕ) → 1 ≤ length text → slice_index text 0 ≡ backslash → meaning_at true text ≡ escape_at (take (length text - 1) (drop 1 text))
unfolding piece_at
backslash_means [] l e = absurd (omega arith)
backslash_means (b ∷ rest) l e = let k : b ≡ backslash = e in rw (rest_is (b ∷ rest)) (rw k (escape_means rest))
