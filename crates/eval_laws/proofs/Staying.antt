-- What stays in a text stays in the text made safe.
use Rattle.std.proofs.Common.{◌≡◌, ◌⊎◌, inl, inr, ℕ, zero, suc, ◌+◌, ◌-◌, ◌<◌, ◌≤◌, ◌==◌, ◌||◌, ◌&&◌, Bool, true, false, nat_lt, nat_le, List, length, drop, slice_index, if◌then◌else◌, refl, sym, ◌∙◌, subst, ap, arith}
use Rattle.std.proofs.lemmas.Bool.{ltb-true, lt-ltb, le-leb, eqb-true, cases_lt}
use Rattle.std.proofs.lemmas.List.{get_or-drop, get_or_past, length-drop}
use Rattle.std.proofs.lemmas.Grind.{same_number_lists}
use Rattle.text_bytes.specs.Names.{backslash, space, underscore, is_whitespace}
use Rattle.text_bytes.specs.Safe.{stays_anywhere, is_hex_escape, is_in_sequence, is_reached, safe, safe_byte, sequence_len, stays}
use Rattle.text_bytes.proofs.LinkPlaces.{length-safe, safe-at}
use Rattle.eval_laws.proofs.Sequences.{sequence_len-four, sequence_len-same, sequence_len-within}

-- a byte is a space, or one that stays at its place
abbrev pub IsLeft : List ℕ → List ℕ → ℕ → Type 0
IsLeft marks text place = (slice_index text place ≡ space) ⊎ (stays marks text place ≡ true)

-- each byte of a text is
abbrev pub AreLeft : List ℕ → List ℕ → Type 0
AreLeft marks text = (place : ℕ) → place < length text → IsLeft marks text place

pub both : (a b : Bool) → a ≡ true → b ≡ true → (a && b) ≡ true
both true true e f = refl
both true false e f = f
both false b e f = e

pub each_of : (a b : Bool) → (a && b) ≡ true → (a ≡ true) × (b ≡ true)
each_of true true e = (refl, refl)
each_of true false e = absurd (cc)
each_of false b e = absurd (cc)

-- one of three conditions holds
pub one_of : (a b c : Bool) → (a || (b || c)) ≡ true → (a ≡ true) ⊎ ((b ≡ true) ⊎ (c ≡ true))
one_of true b c e = inl refl
one_of false true c e = inr (inl refl)
one_of false false true e = inr (inr refl)
one_of false false false e = absurd (cc)

pub first_holds : (a b c : Bool) → a ≡ true → (a || (b || c)) ≡ true
first_holds true b c e = refl
first_holds false b c e = absurd (cc)

pub second_holds : (a b c : Bool) → b ≡ true → (a || (b || c)) ≡ true
second_holds true b c e = refl
second_holds false true c e = refl
second_holds false false c e = absurd (cc)

third_holds : (a b c : Bool) → c ≡ true → (a || (b || c)) ≡ true
third_holds true b c e = refl
third_holds false true c e = refl
third_holds false false true e = refl
third_holds false false false e = absurd (cc)

-- a place that a sequence reaches from some places before is part of a sequence
reached_is_in : (t : List ℕ) (k back : ℕ) → back < 4 → is_reached t k back ≡ true → is_in_sequence t k ≡ true
reached_is_in t k back l e = go (is_reached t k 0) (is_reached t k 1) (is_reached t k 2) (is_reached t k 3) (which back l e)
  where
    go : (a b c d : Bool) → ((a ≡ true) ⊎ (b ≡ true)) ⊎ ((c ≡ true) ⊎ (d ≡ true)) → (a || (b || (c || (d || false)))) ≡ true
    go true b c d h = refl
    go false true c d h = refl
    go false false true d h = refl
    go false false false true h = refl
    go false false false false (inl (inl e)) = absurd (cc)
    go false false false false (inl (inr e)) = absurd (cc)
    go false false false false (inr (inl e)) = absurd (cc)
    go false false false false (inr (inr e)) = absurd (cc)

    which : (n : ℕ) → n < 4 → is_reached t k n ≡ true → ((is_reached t k 0 ≡ true) ⊎ (is_reached t k 1 ≡ true)) ⊎ ((is_reached t k 2 ≡ true) ⊎ (is_reached t k 3 ≡ true))
    which zero l e = inl (inl e)
    which (suc zero) l e = inl (inr e)
    which (suc (suc zero)) l e = inr (inl e)
    which (suc (suc (suc zero))) l e = inr (inr e)
    which (suc (suc (suc (suc n)))) l e = absurd (omega (arith, l))

-- and a place that is part of one is reached from some place
pub in_is_reached : (t : List ℕ) (k : ℕ) → is_in_sequence t k ≡ true → ((is_reached t k 0 ≡ true) ⊎ (is_reached t k 1 ≡ true)) ⊎ ((is_reached t k 2 ≡ true) ⊎ (is_reached t k 3 ≡ true))
in_is_reached t k e = go (is_reached t k 0) (is_reached t k 1) (is_reached t k 2) (is_reached t k 3) e
  where
    go : (a b c d : Bool) → (a || (b || (c || (d || false)))) ≡ true → ((a ≡ true) ⊎ (b ≡ true)) ⊎ ((c ≡ true) ⊎ (d ≡ true))
    go true b c d e = inl (inl refl)
    go false true c d e = inl (inr refl)
    go false false true d e = inr (inl refl)
    go false false false true e = inr (inr refl)
    go false false false false e = absurd (cc)

-- each place of a sequence is reached from its start
reached : (t : List ℕ) (s j : ℕ) → j < sequence_len (drop s t) → is_reached t (s + j) j ≡ true
unfolding is_reached
reached t s j l =
    let back : s + j - j ≡ s = omega arith in
    both (nat_le j (s + j)) (nat_lt j (sequence_len (drop (s + j - j) t))) (le-leb j (s + j) (omega arith))
    (subst (λ x. nat_lt j (sequence_len (drop x t)) ≡ true) (sym back) (lt-ltb j (sequence_len (drop s t)) l))

pub in_sequence-stays : (marks t : List ℕ) (s j : ℕ) → j < sequence_len (drop s t) → stays marks t (s + j) ≡ true
unfolding stays
in_sequence-stays marks t s j l =
    let four = sequence_len-four (drop s t) in
    third_holds (stays_anywhere marks (slice_index t (s + j))) (is_hex_escape t (s + j)) (is_in_sequence t (s + j))
    (reached_is_in t (s + j) j (omega (arith, l, four)) (reached t s j l))

pub plain-stays : (marks t : List ℕ) (k : ℕ) → stays_anywhere marks (slice_index t k) ≡ true → stays marks t k ≡ true
unfolding stays
plain-stays marks t k e = first_holds (stays_anywhere marks (slice_index t k)) (is_hex_escape t k) (is_in_sequence t k) e

-- a byte that stays, or a space, is left as it is
byte_same : (b : ℕ) (s : Bool) → (b ≡ space) ⊎ (s ≡ true) → (if s then b else if is_whitespace b then space else underscore) ≡ b
byte_same b true h = refl
byte_same b false (inl e) = subst (λ x. (if is_whitespace x then space else underscore) ≡ x) (sym e) refl
byte_same b false (inr e) = absurd (cc)

pub left-at : (marks t : List ℕ) (k : ℕ) → k < length t → IsLeft marks t k → slice_index (safe marks t) k ≡ slice_index t k
unfolding safe_byte
left-at marks t k within h = safe-at marks t k within ∙ byte_same (slice_index t k) (stays marks t k) h

pub safe-same : (marks text : List ℕ) → AreLeft marks text → safe marks text ≡ text
safe-same marks text h = same_number_lists (safe marks text) text (length-safe marks text)
    (λ k within. let inside : k < length text = subst (λ n. k < n) (length-safe marks text) within in left-at marks text k inside (h k inside))

stays-at : (marks t : List ℕ) (k : ℕ) → k < length t → stays marks t k ≡ true → slice_index (safe marks t) k ≡ slice_index t k
stays-at marks t k within e = left-at marks t k within (inr e)

-- a sequence is there still
sequence-stays : (marks t : List ℕ) (s : ℕ) → 0 < sequence_len (drop s t) → sequence_len (drop s (safe marks t)) ≡ sequence_len (drop s t)
sequence-stays marks t s some =
    sequence_len-same (drop s t) (drop s (safe marks t))
    (length-drop s (safe marks t) ∙ ap (λ n. n - s) (length-safe marks t) ∙ sym (length-drop s t))
    (λ j l. let inside : j < length t - s = omega (arith, l, sequence_len-within (drop s t), length-drop s t) in
    get_or-drop s (safe marks t) j 0 ∙ stays-at marks t (s + j) (omega (arith, inside)) (in_sequence-stays marks t s j l) ∙ sym (get_or-drop s t j 0))
    some

reached-again : (marks t : List ℕ) (k back : ℕ) → is_reached t k back ≡ true → is_reached (safe marks t) k back ≡ true
unfolding is_reached
reached-again marks t k back e =
    let parts = each_of (nat_le back k) (nat_lt back (sequence_len (drop (k - back) t))) e in
    let over : back < sequence_len (drop (k - back) t) = ltb-true back (sequence_len (drop (k - back) t)) parts.1 in
    both (nat_le back k) (nat_lt back (sequence_len (drop (k - back) (safe marks t)))) parts.0
    (subst (λ n. nat_lt back n ≡ true) (sym (sequence-stays marks t (k - back) (omega (arith, over)))) parts.1)

in_sequence-again : (marks t : List ℕ) (k : ℕ) → is_in_sequence t k ≡ true → is_in_sequence (safe marks t) k ≡ true
in_sequence-again marks t k e = go (in_is_reached t k e)
  where
    go : ((is_reached t k 0 ≡ true) ⊎ (is_reached t k 1 ≡ true)) ⊎ ((is_reached t k 2 ≡ true) ⊎ (is_reached t k 3 ≡ true)) → is_in_sequence (safe marks t) k ≡ true
    go (inl (inl r)) = reached_is_in (safe marks t) k 0 (omega arith) (reached-again marks t k 0 r)
    go (inl (inr r)) = reached_is_in (safe marks t) k 1 (omega arith) (reached-again marks t k 1 r)
    go (inr (inl r)) = reached_is_in (safe marks t) k 2 (omega arith) (reached-again marks t k 2 r)
    go (inr (inr r)) = reached_is_in (safe marks t) k 3 (omega arith) (reached-again marks t k 3 r)

-- a backslash with an `x` after it is there still
hex_escape-again : (marks t : List ℕ) (k : ℕ) → k < length t → stays marks t k ≡ true → is_hex_escape t k ≡ true → is_hex_escape (safe marks t) k ≡ true
unfolding is_hex_escape
hex_escape-again marks t k within kept e =
    let parts = each_of (slice_index t k == backslash) (slice_index t (k + 1) == 120) e in
    let is_x : slice_index t (k + 1) ≡ 120 = eqb-true (slice_index t (k + 1)) 120 parts.1 in
    let plain : stays_anywhere marks (slice_index t (k + 1)) ≡ true = subst (λ b. stays_anywhere marks b ≡ true) (sym is_x) refl in
    both (slice_index (safe marks t) k == backslash) (slice_index (safe marks t) (k + 1) == 120)
    (subst (λ b. (b == backslash) ≡ true) (sym (stays-at marks t k within kept)) parts.0)
    (next (cases_lt (k + 1) (length t)) is_x plain)
  where
    next : (k + 1 < length t) ⊎ (length t ≤ k + 1) → slice_index t (k + 1) ≡ 120 → stays_anywhere marks (slice_index t (k + 1)) ≡ true → (slice_index (safe marks t) (k + 1) == 120) ≡ true
    next (inl inside) is_x plain =
        subst (λ b. (b == 120) ≡ true) (sym (stays-at marks t (k + 1) inside (plain-stays marks t (k + 1) plain) ∙ is_x)) refl
    next (inr past) is_x plain = let nothing = get_or_past t (k + 1) 0 past in absurd (omega (arith, is_x, nothing))

stays-again : (marks t : List ℕ) (k : ℕ) → k < length t → stays marks t k ≡ true → stays marks (safe marks t) k ≡ true
unfolding stays
stays-again marks t k within e = go (one_of (stays_anywhere marks (slice_index t k)) (is_hex_escape t k) (is_in_sequence t k) e)
  where
    go : (stays_anywhere marks (slice_index t k) ≡ true) ⊎ ((is_hex_escape t k ≡ true) ⊎ (is_in_sequence t k ≡ true)) → stays marks (safe marks t) k ≡ true
    go (inl p) = first_holds (stays_anywhere marks (slice_index (safe marks t) k)) (is_hex_escape (safe marks t) k) (is_in_sequence (safe marks t) k)
        (subst (λ b. stays_anywhere marks b ≡ true) (sym (stays-at marks t k within e)) p)
    go (inr (inl h)) = second_holds (stays_anywhere marks (slice_index (safe marks t) k)) (is_hex_escape (safe marks t) k) (is_in_sequence (safe marks t) k)
        (hex_escape-again marks t k within e h)
    go (inr (inr q)) = third_holds (stays_anywhere marks (slice_index (safe marks t) k)) (is_hex_escape (safe marks t) k) (is_in_sequence (safe marks t) k)
        (in_sequence-again marks t k q)

-- a text made safe has spaces and bytes that stay, if `_` stays
pub safe-are_left : (marks t : List ℕ) → stays_anywhere marks underscore ≡ true → AreLeft marks (safe marks t)
unfolding safe_byte
safe-are_left marks t plain k inside =
    let within : k < length t = subst (λ n. k < n) (length-safe marks t) inside in
    go within (stays marks t k) refl (safe-at marks t k within)
  where
    made : (w : Bool) → slice_index (safe marks t) k ≡ (if w then space else underscore) → (slice_index (safe marks t) k ≡ space) ⊎ (stays marks (safe marks t) k ≡ true)
    made true e = inl e
    made false e = inr (plain-stays marks (safe marks t) k (subst (λ b. stays_anywhere marks b ≡ true) (sym e) plain))

    go : k < length t → (s : Bool) → stays marks t k ≡ s → slice_index (safe marks t) k ≡ (if s then slice_index t k else if is_whitespace (slice_index t k) then space else underscore)
        → (slice_index (safe marks t) k ≡ space) ⊎ (stays marks (safe marks t) k ≡ true)
    go within true is e = inr (stays-again marks t k within is)
    go within false is e = made (is_whitespace (slice_index t k)) e
