-- An encoded text is read back.
use Rattle.std.proofs.Common.{◌≡◌, ℕ, zero, suc, ◌+◌, ◌*◌, ◌<◌, ◌/◌, ◌%◌, Bool, true, false, not, ◌&&◌, ◌||◌, eqb, List, [], ◌∷◌, ◌++◌, cond, length, drop, flat_map, slice_index, refl, ap, sym, ◌∙◌, arith, add-one}
use Rattle.std.proofs.Math.Seq.{drop-cons}
use Rattle.std.proofs.Math.ListN.{drop_of_length-le}
use Rattle.std.proofs.lemmas.Bool.{agree_below_at, eqb-true}
use Rattle.std.proofs.lemmas.List.{flat_map_more}
use Rattle.std.specs.List.{range_with_len}
use Rattle.text_bytes.specs.Names.{backslash}
use Rattle.text_bytes.specs.Characters.{is_in_character}
use Rattle.text_bytes.specs.Safe.{stays_anywhere, value_marks}
use Rattle.text_bytes.specs.Encoded.{encoded, encoded_byte, in_digits, is_own, read_back, small_digit, small_digits}

digits_agree : (n : ℕ) → n < 16 → eqb (small_digit (slice_index small_digits n)) n ≡ true
digits_agree n h = agree_below_at (λ n. eqb (small_digit (slice_index small_digits n)) n) (λ _. true) 16 n refl h

-- a digit is read as its number
digit_read : (n : ℕ) → n < 16 → small_digit (slice_index small_digits n) ≡ n
digit_read n h = eqb-true (small_digit (slice_index small_digits n)) n (digits_agree n h)

-- a byte that is not a backslash stands for itself
plain_read : (b : ℕ) (rest : List ℕ) → eqb b backslash ≡ false → read_back (b ∷ rest) ≡ b ∷ read_back rest
plain_read b [] e = refl
plain_read b (c ∷ []) e = refl
plain_read b (c ∷ d ∷ []) e = refl
plain_read b (x ∷ high ∷ low ∷ rest) e = rw e refl

no_backslash : (a b : Bool) → (not a && b) ≡ true → a ≡ false
no_backslash true b h = absurd cc
no_backslash false b h = refl

own_is_no_backslash : (text : List ℕ) (place : ℕ) → is_own text place ≡ true → eqb (slice_index text place) backslash ≡ false
unfolding is_own
own_is_no_backslash text place h = no_backslash (eqb (slice_index text place) backslash) (stays_anywhere value_marks (slice_index text place) || is_in_character text place) h

by_case : (b : ℕ) (rest : List ℕ) (own : Bool) → (own ≡ true → eqb b backslash ≡ false) → b < 256
    → read_back (cond own (b ∷ []) (in_digits b) ++ rest) ≡ b ∷ read_back rest
by_case b rest true e h = plain_read b rest (e refl)
by_case b rest false e h =
    let high : small_digit (slice_index small_digits (b / 16)) ≡ b / 16 = digit_read (b / 16) (omega arith) in
    let low : small_digit (slice_index small_digits (b % 16)) ≡ b % 16 = digit_read (b % 16) (omega arith) in
    let whole : 16 * small_digit (slice_index small_digits (b / 16)) + small_digit (slice_index small_digits (b % 16)) ≡ b = omega arith in
    ap (λ (n : ℕ). n ∷ read_back rest) whole

byte_read : (text rest : List ℕ) (place : ℕ) → slice_index text place < 256 → read_back (encoded_byte text place ++ rest) ≡ slice_index text place ∷ read_back rest
unfolding encoded_byte
byte_read text rest place h = by_case (slice_index text place) rest (is_own text place) (own_is_no_backslash text place) h

-- the bytes at places from one on are what is there
bytes_from : (text : List ℕ) (a n : ℕ) → a + n ≡ length text → ((k : ℕ) → k < length text → slice_index text k < 256)
    → read_back (flat_map (encoded_byte text) (range_with_len a n)) ≡ drop a text
bytes_from text a zero e bytes = sym (drop_of_length-le text (omega (arith, e)))
bytes_from text a (suc n) e bytes =
    let here : a < length text = omega (arith, e) in
    byte_read text (flat_map (encoded_byte text) (range_with_len (a + 1) n)) a (bytes a here)
    ∙ ap (λ (rest : List ℕ). slice_index text a ∷ rest) (bytes_from text (a + 1) n (omega (arith, e)) bytes)
    ∙ sym (rw (drop-cons text a 0 here, add-one a) refl)

-- what was encoded is read back
pub encoded_read : (text : List ℕ) → ((k : ℕ) → k < length text → slice_index text k < 256) → read_back (encoded text) ≡ text
unfolding encoded
encoded_read text bytes = bytes_from text 0 (length text) (omega arith) bytes

-- one place more
range_more : (a n k : ℕ) → a + n ≡ k → range_with_len a (suc n) ≡ range_with_len a n ++ k ∷ []
range_more a zero k e = let here : a ≡ k = omega (arith, e) in ap (λ (place : ℕ). place ∷ []) here
range_more a (suc n) k e = ap (λ (places : List ℕ). a ∷ places) (range_more (a + 1) n k (omega (arith, e)))

-- one byte more
pub encoded_more : (text : List ℕ) (n : ℕ) → flat_map (encoded_byte text) (range_with_len 0 n) ++ encoded_byte text n ≡ flat_map (encoded_byte text) (range_with_len 0 (n + 1))
encoded_more text n =
    flat_map_more (encoded_byte text) [] (range_with_len 0 n) n
    ∙ ap (flat_map (encoded_byte text)) (sym (range_more 0 n n (omega arith)))
    ∙ rw (add-one n) refl
