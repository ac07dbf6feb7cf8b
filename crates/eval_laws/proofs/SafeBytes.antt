-- The bytes that stay in a safe text are those that the law names.
use Rattle.std.proofs.Common.{◌≡◌, ◌⊎◌, inl, inr, ⊎_elim, ℕ, zero, suc, ◌+◌, ◌-◌, ◌<◌, ◌≤◌, ◌==◌, ◌||◌, ◌&&◌, Bool, true, false, nat_lt, nat_le, is_some, List, length, drop, slice_index, Option, Some, None, if◌then◌else◌, refl, sym, ◌∙◌, subst, ap, true≢false, arith}
use Rattle.std.specs.Char.{is_ascii_alphanumeric}
use Rattle.std.specs.List.{list_any}
use Rattle.std.proofs.lemmas.Bool.{ltb-true, lt-ltb, leb-true, eqb-true, cases_lt}
use Rattle.std.proofs.lemmas.Bool.Decides.{nat_tests}
use Rattle.std.proofs.lemmas.List.{get_or-drop}
use Rattle.text_bytes.specs.Names.{backslash, space, underscore, is_whitespace}
use Rattle.bstr.specs.Utf8.{Decoded, bad, continues, decoded, second}
use Rattle.bstr.proofs.lemmas.PieceLemmas.{Shape, decoded_by-shape}
use Rattle.text_bytes.specs.Safe.{is_hex_escape, is_in_sequence, stays_anywhere, is_reached, safe, safe_byte, sequence_len, stays}
use Rattle.text_bytes.proofs.LinkPlaces.{safe-at}
use Rattle.eval_laws.specs.SafeTexts.{IsInCharacter, IsMadeSafe, IsSafe, IsSafeByte, letter_or_digit, mark, blank, escape, character}
use Rattle.eval_laws.proofs.Sequences.{several, sequence_len-four}
use Rattle.eval_laws.proofs.Staying.{IsLeft, both, each_of, in_is_reached, in_sequence-stays, left-at, one_of, plain-stays, safe-are_left, safe-same, second_holds}

-- ---- the bytes of a character

-- the bytes of a character of several bytes are over 127; the byte of one that is alone is not
record AreHigh (size b c d e : ℕ) : Type 0 where
  alone : size ≤ 1 → b ≤ 127
  first : 1 < size → 127 < b
  next : 1 < size → 127 < c
  third : 2 < size → 127 < d
  fourth : 3 < size → 127 < e

not_bad : (r : Decoded) (n : ℕ) → r ≡ bad n → is_some r.char ≡ true → ⊥
not_bad r n e some = true≢false (sym some ∙ ap (λ x. is_some x.char) e)

second_high : (b c : ℕ) → second b c ≡ true → 127 < c
second_high b c h = grind (arith, nat_tests)

continues_high : (c : ℕ) → continues c ≡ true → 127 < c
continues_high c h = grind (arith, nat_tests)

highs : (n b c d e : ℕ) (r : Decoded) → Shape r n b c d e → is_some r.char ≡ true → AreHigh r.size b c d e
highs n b c d e r shape some =
    ⊎_elim (λ p. absurd (not_bad r 0 p.1 some))
    (⊎_elim (λ p. let one : r.size ≡ 1 = ap (λ x. x.size) p.2 in record { alone = (λ s. omega arith); first = (λ s. absurd (omega (arith, s, one))); next = (λ s. absurd (omega (arith, s, one))); third = (λ s. absurd (omega (arith, s, one))); fourth = (λ s. absurd (omega (arith, s, one))) })
    (⊎_elim (λ p. absurd (not_bad r 1 p.3 some))
    (⊎_elim (λ p. absurd (not_bad r 1 p.2 some))
    (⊎_elim (λ p. absurd (not_bad r 1 p.4 some))
    (⊎_elim (λ p. absurd (not_bad r 1 p.4 some))
    (⊎_elim (λ p. let two : r.size ≡ 2 = ap (λ x. x.size) p.4 in record { alone = (λ s. absurd (omega (arith, s, two))); first = (λ s. omega arith); next = (λ s. second_high b c p.3); third = (λ s. absurd (omega (arith, s, two))); fourth = (λ s. absurd (omega (arith, s, two))) })
    (⊎_elim (λ p. absurd (not_bad r 2 p.5 some))
    (⊎_elim (λ p. absurd (not_bad r 2 p.5 some))
    (⊎_elim (λ p. let three : r.size ≡ 3 = ap (λ x. x.size) p.5 in record { alone = (λ s. absurd (omega (arith, s, three))); first = (λ s. omega arith); next = (λ s. second_high b c p.3); third = (λ s. continues_high d p.4); fourth = (λ s. absurd (omega (arith, s, three))) })
    (⊎_elim (λ p. absurd (not_bad r 3 p.6 some))
    (⊎_elim (λ p. absurd (not_bad r 3 p.6 some))
    (λ p. let four : r.size ≡ 4 = ap (λ x. x.size) p.6 in record { alone = (λ s. absurd (omega (arith, s, four))); first = (λ s. omega arith); next = (λ s. second_high b c p.3); third = (λ s. continues_high d p.4); fourth = (λ s. continues_high e p.5) }))))))))))))
    shape

high_at : (bs : List ℕ) (k : ℕ) → is_some (decoded bs).char ≡ true → 1 < (decoded bs).size → k < 4 → k < (decoded bs).size → 127 < slice_index bs k
high_at bs k some several four within = by k four within
  where
    all : AreHigh (decoded bs).size (slice_index bs 0) (slice_index bs 1) (slice_index bs 2) (slice_index bs 3)
    all = highs (length bs) (slice_index bs 0) (slice_index bs 1) (slice_index bs 2) (slice_index bs 3) (decoded bs)
        (decoded_by-shape (length bs) (slice_index bs 0) (slice_index bs 1) (slice_index bs 2) (slice_index bs 3)) some

    by : (k : ℕ) → k < 4 → k < (decoded bs).size → 127 < slice_index bs k
    by zero four within = all.first several
    by (suc zero) four within = all.next several
    by (suc (suc zero)) four within = all.third within
    by (suc (suc (suc zero))) four within = all.fourth within
    by (suc (suc (suc (suc n)))) four within = absurd (omega (arith, four))

alone_low : (bs : List ℕ) → is_some (decoded bs).char ≡ true → (decoded bs).size ≤ 1 → slice_index bs 0 ≤ 127
alone_low bs some short =
    (highs (length bs) (slice_index bs 0) (slice_index bs 1) (slice_index bs 2) (slice_index bs 3) (decoded bs)
    (decoded_by-shape (length bs) (slice_index bs 0) (slice_index bs 1) (slice_index bs 2) (slice_index bs 3)) some).alone short

-- ---- the sequence that reaches over a place

-- a sequence that has bytes is a character of several bytes
record IsSeveral (bs : List ℕ) : Type 0 where
  some : is_some (decoded bs).char ≡ true
  several : 1 < (decoded bs).size
  len : sequence_len bs ≡ (decoded bs).size

is_several : (bs : List ℕ) → 0 < sequence_len bs → IsSeveral bs
unfolding sequence_len
is_several bs there = by (is_some (decoded bs).char) (nat_lt 1 (decoded bs).size) refl refl there
  where
    by : (c s : Bool) → is_some (decoded bs).char ≡ c → nat_lt 1 (decoded bs).size ≡ s → 0 < (if c && s then (decoded bs).size else 0) → IsSeveral bs
    by true true ec es h = record { some = ec; several = ltb-true 1 (decoded bs).size es; len = ap (λ t. if t then (decoded bs).size else 0) (both (is_some (decoded bs).char) (nat_lt 1 (decoded bs).size) ec es) }
    by true false ec es h = absurd (omega (arith, h))
    by false s ec es h = absurd (omega (arith, h))

sequence_len-several : (bs : List ℕ) → is_some (decoded bs).char ≡ true → 1 < (decoded bs).size → sequence_len bs ≡ (decoded bs).size
unfolding sequence_len
sequence_len-several bs some several = ap (λ t. if t then (decoded bs).size else 0) (both (is_some (decoded bs).char) (nat_lt 1 (decoded bs).size) some (lt-ltb 1 (decoded bs).size several))

the_char : (o : Option ℕ) → is_some o ≡ true → (c : ℕ) × (o ≡ Some c)
the_char (Some c) e = (c, refl)
the_char None e = absurd (true≢false (sym e))

reached_is_character : (t : List ℕ) (k back : ℕ) → is_reached t k back ≡ true → IsInCharacter t k
unfolding is_reached
reached_is_character t k back e =
    let parts = each_of (nat_le back k) (nat_lt back (sequence_len (drop (k - back) t))) e in
    let before : back ≤ k = leb-true back k parts.0 in
    let over : back < sequence_len (drop (k - back) t) = ltb-true back (sequence_len (drop (k - back) t)) parts.1 in
    let four : sequence_len (drop (k - back) t) ≤ 4 = sequence_len-four (drop (k - back) t) in
    let is : IsSeveral (drop (k - back) t) = is_several (drop (k - back) t) (omega (arith, over)) in
    let same : sequence_len (drop (k - back) t) ≡ (decoded (drop (k - back) t)).size = is.len in
    let char = the_char (decoded (drop (k - back) t)).char is.some in
    let place : k - back + back ≡ k = omega (arith, before) in
    record {
      high = subst (λ b. 127 < b) (get_or-drop (k - back) t back 0 ∙ ap (slice_index t) place) (high_at (drop (k - back) t) back is.some is.several (omega (arith, over, four)) (omega (arith, over, same)));
      start = k - back;
      char = char.0;
      begins = omega arith;
      decodes = char.1;
      reaches = omega (arith, over, same, place);
    }

in_sequence_is_character : (t : List ℕ) (k : ℕ) → is_in_sequence t k ≡ true → IsInCharacter t k
in_sequence_is_character t k e = go (in_is_reached t k e)
  where
    go : ((is_reached t k 0 ≡ true) ⊎ (is_reached t k 1 ≡ true)) ⊎ ((is_reached t k 2 ≡ true) ⊎ (is_reached t k 3 ≡ true)) → IsInCharacter t k
    go (inl (inl r)) = reached_is_character t k 0 r
    go (inl (inr r)) = reached_is_character t k 1 r
    go (inr (inl r)) = reached_is_character t k 2 r
    go (inr (inr r)) = reached_is_character t k 3 r

character_stays : (marks t : List ℕ) (k : ℕ) → IsInCharacter t k → stays marks t k ≡ true
character_stays marks t k h =
    let bs = drop h.start t in
    let some : is_some (decoded bs).char ≡ true = ap is_some h.decodes in
    let place : h.start + (k - h.start) ≡ k = omega (arith, h.begins) in
    let several : 1 < (decoded bs).size = long some (cases_lt 1 (decoded bs).size) in
    let same : sequence_len bs ≡ (decoded bs).size = sequence_len-several bs some several in
    subst (λ n. stays marks t n ≡ true) place (in_sequence-stays marks t h.start (k - h.start) (omega (arith, h.begins, h.reaches, same)))
  where
    long : is_some (decoded (drop h.start t)).char ≡ true → (1 < (decoded (drop h.start t)).size) ⊎ ((decoded (drop h.start t)).size ≤ 1) → 1 < (decoded (drop h.start t)).size
    long some (inl several) = several
    long some (inr short) =
        let low : slice_index (drop h.start t) 0 ≤ 127 = alone_low (drop h.start t) some short in
        let first : slice_index (drop h.start t) 0 ≡ slice_index t (h.start + 0) = get_or-drop h.start t 0 0 in
        let here : h.start + 0 ≡ k = omega (arith, h.begins, h.reaches, short) in
        let same : slice_index t (h.start + 0) ≡ slice_index t k = ap (slice_index t) here in
        absurd (omega (arith, low, first, same, h.high))

-- ---- bytes that are safe, and bytes that are left

either : (a b : Bool) → (a || b) ≡ true → (a ≡ true) ⊎ (b ≡ true)
either true b e = inl refl
either false true e = inr refl
either false false e = absurd (cc)

either_left : (a b : Bool) → a ≡ true → (a || b) ≡ true
either_left true b e = refl
either_left false b e = absurd (cc)

either_right : (a b : Bool) → b ≡ true → (a || b) ≡ true
either_right true b e = refl
either_right false true e = refl
either_right false false e = absurd (cc)

plain_is_safe : (marks t : List ℕ) (k : ℕ) → stays_anywhere marks (slice_index t k) ≡ true → IsSafeByte marks t k
plain_is_safe marks t k e = ⊎_elim (λ a. letter_or_digit a) (λ m. mark m) (either (is_ascii_alphanumeric (slice_index t k)) (list_any (λ m. m == slice_index t k) marks) e)

escape_is_safe : (marks t : List ℕ) (k : ℕ) → is_hex_escape t k ≡ true → IsSafeByte marks t k
unfolding is_hex_escape
escape_is_safe marks t k e =
    let parts = each_of (slice_index t k == backslash) (slice_index t (k + 1) == 120) e in
    escape (eqb-true (slice_index t k) backslash parts.0) (eqb-true (slice_index t (k + 1)) 120 parts.1)

stays_is_safe : (marks t : List ℕ) (k : ℕ) → stays marks t k ≡ true → IsSafeByte marks t k
unfolding stays
stays_is_safe marks t k e = go (one_of (stays_anywhere marks (slice_index t k)) (is_hex_escape t k) (is_in_sequence t k) e)
  where
    go : (stays_anywhere marks (slice_index t k) ≡ true) ⊎ ((is_hex_escape t k ≡ true) ⊎ (is_in_sequence t k ≡ true)) → IsSafeByte marks t k
    go (inl p) = plain_is_safe marks t k p
    go (inr (inl h)) = escape_is_safe marks t k h
    go (inr (inr q)) = character (in_sequence_is_character t k q)

left_is_safe : (marks t : List ℕ) (k : ℕ) → IsLeft marks t k → IsSafeByte marks t k
left_is_safe marks t k (inl e) = blank e
left_is_safe marks t k (inr e) = stays_is_safe marks t k e

escape_stays : (marks t : List ℕ) (k : ℕ) → slice_index t k ≡ backslash → slice_index t (k + 1) ≡ 120 → stays marks t k ≡ true
unfolding stays is_hex_escape
escape_stays marks t k e x =
    second_holds (stays_anywhere marks (slice_index t k)) (is_hex_escape t k) (is_in_sequence t k)
    (both (slice_index t k == backslash) (slice_index t (k + 1) == 120) (subst (λ b. (b == backslash) ≡ true) (sym e) refl) (subst (λ b. (b == 120) ≡ true) (sym x) refl))

safe_is_left : (marks t : List ℕ) (k : ℕ) → IsSafeByte marks t k → IsLeft marks t k
safe_is_left marks t k (letter_or_digit e) = inr (plain-stays marks t k (either_left (is_ascii_alphanumeric (slice_index t k)) (list_any (λ m. m == slice_index t k) marks) e))
safe_is_left marks t k (mark e) = inr (plain-stays marks t k (either_right (is_ascii_alphanumeric (slice_index t k)) (list_any (λ m. m == slice_index t k) marks) e))
safe_is_left marks t k (blank e) = inl e
safe_is_left marks t k (escape e x) = inr (escape_stays marks t k e x)
safe_is_left marks t k (character h) = inr (character_stays marks t k h)

-- a text made safe is safe, if `_` is a mark
pub safe-is_safe : (marks t : List ℕ) → stays_anywhere marks underscore ≡ true → IsSafe marks (safe marks t)
safe-is_safe marks t plain k within = left_is_safe marks (safe marks t) k (safe-are_left marks t plain k within)

-- a safe text is left as it is
pub is_safe-same : (marks t : List ℕ) → IsSafe marks t → safe marks t ≡ t
is_safe-same marks t h = safe-same marks t (λ k within. safe_is_left marks t k (h k within))

-- and one that is left as it is was safe
pub same-is_safe : (marks t : List ℕ) → stays_anywhere marks underscore ≡ true → safe marks t ≡ t → IsSafe marks t
same-is_safe marks t plain e = subst (IsSafe marks) e (safe-is_safe marks t plain)

-- what becomes of each byte
pub bytes_made_safe : (marks t : List ℕ) (k : ℕ) → k < length t → IsMadeSafe marks t (safe marks t) k
unfolding safe_byte
bytes_made_safe marks t k within = record {
  kept = (λ h. left-at marks t k within (safe_is_left marks t k h));
  blank = (λ unsafe w. replaced unsafe true w);
  other = (λ unsafe w. replaced unsafe false w);
}
  where
    by : (s w : Bool) → (s ≡ true → ⊥) → (if s then slice_index t k else if w then space else underscore) ≡ (if w then space else underscore)
    by true w other = absurd (other refl)
    by false w other = refl

    replaced : (IsSafeByte marks t k → ⊥) → (w : Bool) → is_whitespace (slice_index t k) ≡ w → slice_index (safe marks t) k ≡ (if w then space else underscore)
    replaced unsafe w e =
        safe-at marks t k within
        ∙ by (stays marks t k) (is_whitespace (slice_index t k)) (λ s. unsafe (stays_is_safe marks t k s))
        ∙ ap (λ v. if v then space else underscore) e
