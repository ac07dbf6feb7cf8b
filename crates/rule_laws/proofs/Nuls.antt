-- No NUL is spelled in a value, and none is meant by one.
use Rattle.std.proofs.Common.{◌≡◌, ℕ, ◌<◌, ◌+◌, ◌/◌, ◌%◌, Bool, true, false, not, List, [], ◌∷◌, ◌++◌, cond, refl, ◌∙◌, ◌==◌, arith, eqb-true, ltb-true}
use Rattle.std.specs.Prelude.{nat_lt}
use Rattle.std.specs.List.{list_all, flat_map}
use Rattle.std.specs.Char.{digit_value}
use Rattle.std.specs.Str.Parse.{digits_value}
use Rattle.std.proofs.lemmas.Bool.{and_parts, and_from, ne_eqb}
use Rattle.std.proofs.lemmas.List.Folds.{list_all-append}
use lib.Utf8.{encode}
use Rattle.text_bytes.specs.Names.{nul, double_quote}
use Rattle.rule_tokens.specs.Values.{Piece, byte, letter, octal, hex, short, long, spelling, meaning, letter_means, is_number, is_plain_piece, is_escaped_piece, is_piece, HasNoNul, NoNul}
use Rattle.rule_tokens.proofs.Pieces.{other_byte}

abbrev other : ℕ → Bool
other b = not (b == nul)

other_from : (b : ℕ) → 0 < b → other b ≡ true
other_from b h = rw (ne_eqb b 0 (λ e. absurd (omega arith))) refl

both : (xs ys : List ℕ) → HasNoNul xs → HasNoNul ys → HasNoNul (xs ++ ys)
both xs ys h k = list_all-append other xs ys ∙ rw h k

either : (t : Bool) (xs ys : List ℕ) → (t ≡ true → HasNoNul xs) → (t ≡ false → HasNoNul ys) → HasNoNul (cond t xs ys)
either true xs ys h k = h refl
either false xs ys h k = k refl

-- the bytes of a character other than NUL
utf8_no_nul : (c : ℕ) → 0 < c → HasNoNul (encode c)
unfolding encode
utf8_no_nul c h =
    either (nat_lt c 128) _ _ (λ _. and_from (other c) _ (other_from c h) refl) (λ _.
    either (nat_lt c 2048) _ _ (λ _. and_from _ _ (other_from (192 + c / 64) (omega arith)) (last c)) (λ _.
    either (nat_lt c 65536) _ _
    (λ _. and_from _ _ (other_from (224 + c / 4096) (omega arith)) (and_from _ _ (other_from (128 + (c / 64) % 64) (omega arith)) (last c)))
    (λ _. and_from _ _ (other_from (240 + c / 262144) (omega arith)) (and_from _ _ (other_from (128 + (c / 4096) % 64) (omega arith)) (and_from _ _ (other_from (128 + (c / 64) % 64) (omega arith)) (last c))))))
  where
    last : (c : ℕ) → HasNoNul ((128 + c % 64) ∷ [])
    last c = and_from _ _ (other_from (128 + c % 64) (omega arith)) refl

digits_no_nul : (base : ℕ) (ds : List ℕ) → nat_lt (digit_value nul) base ≡ false → list_all (λ d. nat_lt (digit_value d) base) ds ≡ true → HasNoNul ds
digits_no_nul base [] z e = refl
digits_no_nul base (d ∷ ds) z e =
    let h = and_parts (nat_lt (digit_value d) base) _ e in
    and_from (other d) _ (rw (other_byte (λ c. nat_lt (digit_value c) base) d nul h.0 z) refl) (digits_no_nul base ds z h.1)

-- a number is not NUL, and its digits have none
number_no_nul : (base count : ℕ) (ds : List ℕ) → nat_lt (digit_value nul) base ≡ false → is_number base count ds ≡ true → HasNoNul ds × (0 < digits_value base ds)
unfolding is_number
number_no_nul base count ds z e =
    let h = and_parts (list_all (λ d. nat_lt (digit_value d) base) ds) _ (and_parts _ _ e).1 in
    (digits_no_nul base ds z h.0, ltb-true 0 (digits_value base ds) h.1)

one : (b : ℕ) → 0 < b → HasNoNul (b ∷ [])
one b h = and_from (other b) _ (other_from b h) refl

escaped_no_nul : (p : Piece) → is_escaped_piece p ≡ true → HasNoNul (spelling p) × HasNoNul (meaning p)
unfolding letter_means
escaped_no_nul (byte b) e =
    let h = and_from (other b) _ (and_parts (other b) _ (and_parts (not (b == double_quote)) _ e).1).0 refl in (h, h)
escaped_no_nul (letter c) e =
    let n : (c == nul) ≡ false = letter_other c e in
    (rw n refl, one (letter_means c) (ltb-true 0 (letter_means c) e))
  where
    letter_other : (c : ℕ) → nat_lt 0 (letter_means c) ≡ true → (c == nul) ≡ false
    letter_other c e = other_byte (λ d. nat_lt 0 (letter_means d)) c nul e refl
escaped_no_nul (octal digits) e = let h = number_no_nul 8 3 digits refl (and_parts (is_number 8 3 digits) _ e).0 in (h.0, one (digits_value 8 digits) h.1)
escaped_no_nul (hex digits) e = let h = number_no_nul 16 2 digits refl e in (h.0, one (digits_value 16 digits) h.1)
escaped_no_nul (short digits) e = let h = number_no_nul 16 4 digits refl (and_parts (is_number 16 4 digits) _ e).0 in (h.0, utf8_no_nul (digits_value 16 digits) h.1)
escaped_no_nul (long digits) e = let h = number_no_nul 16 8 digits refl (and_parts (is_number 16 8 digits) _ e).0 in (h.0, utf8_no_nul (digits_value 16 digits) h.1)

plain_no_nul : (p : Piece) → is_plain_piece p ≡ true → HasNoNul (spelling p) × HasNoNul (meaning p)
unfolding letter_means
plain_no_nul (byte b) e = let h = and_from (other b) _ (and_parts (not (b == double_quote)) _ e).1 refl in (h, h)
plain_no_nul (letter c) e = let k : c ≡ double_quote = eqb-true c double_quote e in rw k (refl, refl)
plain_no_nul (octal digits) e = absurd (cc)
plain_no_nul (hex digits) e = absurd (cc)
plain_no_nul (short digits) e = absurd (cc)
plain_no_nul (long digits) e = absurd (cc)

pieces_no_nul : (escaped : Bool) (ps : List Piece) → list_all (is_piece escaped) ps ≡ true → HasNoNul (flat_map spelling ps) × HasNoNul (flat_map meaning ps)
pieces_no_nul escaped [] e = (refl, refl)
pieces_no_nul escaped (p ∷ ps) e =
    let h = and_parts (is_piece escaped p) _ e in
    let here = piece_no_nul escaped p h.0 in
    let following = pieces_no_nul escaped ps h.1 in
    (both (spelling p) (flat_map spelling ps) here.0 following.0, both (meaning p) (flat_map meaning ps) here.1 following.1)
  where
    piece_no_nul : (escaped : Bool) (p : Piece) → is_piece escaped p ≡ true → HasNoNul (spelling p) × HasNoNul (meaning p)
    piece_no_nul true p e = escaped_no_nul p e
    piece_no_nul false p e = plain_no_nul p e

pub no_nul : NoNul
no_nul escaped text bytes m =
    let h = pieces_no_nul escaped m.pieces m.spells.allowed in
    (rw m.spells.spelled h.0, rw m.bytes_are h.1)
