-- One piece of a value: what is read is spelled so, and what is spelled so is read.
use Rattle.std.proofs.Common.{◌≡◌, ℕ, zero, suc, Bool, true, false, not, List, [], ◌∷◌, ◌++◌, length, take, drop, Some, None, cond, refl, ap, sym, ◌∙◌, ◌==◌, arith, eqb-true}
use Rattle.std.specs.Prelude.{nat_lt}
use Rattle.std.specs.Char.{digit_value}
use Rattle.std.proofs.lemmas.Bool.{and_parts, both_ways, not-true, ne_eqb}
use Rattle.std.proofs.lemmas.List.{take_at}
use Rattle.std.proofs.Common.{subst}
use Rattle.text_bytes.specs.Names.{backslash, double_quote, tab, newline, vertical_tab, form_feed, carriage_return, space, single_quote}
use Rattle.rule_tokens.specs.Values.{Piece, byte, letter, octal, hex, short, long, spelling, letter_means, is_number, is_escaped_piece, is_piece}
use Rattle.rule_tokens.specs.Reading.{escape_first, plain_first, either_first, first_piece, if_piece, piece_at}
use Rattle.rule_tokens.specs.Letters.{bell, backspace, letter_a, letter_b, letter_f, letter_n, letter_r, letter_s, letter_t, letter_u, letter_v, letter_x, capital_u}

-- how many digits a number has
number_length : (base count : ℕ) (digits : List ℕ) → is_number base count digits ≡ true → count ≡ length digits
unfolding is_number
number_length base count digits e = sym (eqb-true (length digits) count (and_parts _ _ e).0)

number_first : (base count d : ℕ) (digits : List ℕ) → is_number base count (d ∷ digits) ≡ true → nat_lt (digit_value d) base ≡ true
unfolding is_number
number_first base count d digits e = (and_parts _ _ (and_parts _ _ (and_parts (length (d ∷ digits) == count) _ e).1).0).0

-- a byte is not another, since a test distinguishes them
pub other_byte : (test : ℕ → Bool) (c n : ℕ) → test c ≡ true → test n ≡ false → (c == n) ≡ false
other_byte test c n e f = ne_eqb c n (λ (p : c ≡ n). both_ways (test c) (ap test p ∙ f) e)

abbrev is_octal : ℕ → Bool
is_octal c = nat_lt (digit_value c) 8

abbrev means_byte : ℕ → Bool
means_byte c = nat_lt 0 (letter_means c)

escape_first_octal : (c : ℕ) (rest : List ℕ) → is_octal c ≡ true → escape_first (c ∷ rest) ≡ octal (take 3 (c ∷ rest))
unfolding escape_first
escape_first_octal c rest e =
    rw (other_byte is_octal c letter_x e refl) (rw (other_byte is_octal c letter_u e refl) (rw (other_byte is_octal c capital_u e refl) (rw e refl)))

chain : (c n v r : ℕ) → nat_lt 0 (cond (c == n) v r) ≡ true → is_octal n ≡ false → (nat_lt 0 r ≡ true → is_octal c ≡ false) → is_octal c ≡ false
chain c n v r e o more = by_test (c == n) refl e
  where
    by_test : (t : Bool) → (c == n) ≡ t → nat_lt 0 (cond t v r) ≡ true → is_octal c ≡ false
    by_test true f e = ap is_octal (eqb-true c n f) ∙ o
    by_test false f e = more e

-- no digit stands for a byte after a backslash
letter_no_octal : (c : ℕ) → means_byte c ≡ true → is_octal c ≡ false
unfolding letter_means
letter_no_octal c e =
    chain c letter_a bell _ e refl (λ e. chain c letter_b backspace _ e refl (λ e. chain c letter_f form_feed _ e refl (λ e. chain c letter_n newline _ e refl
    (λ e. chain c letter_r carriage_return _ e refl (λ e. chain c letter_t tab _ e refl (λ e. chain c letter_v vertical_tab _ e refl (λ e. chain c backslash backslash _ e refl
    (λ e. chain c double_quote double_quote _ e refl (λ e. chain c single_quote single_quote _ e refl (λ e. chain c letter_s space _ e refl (λ e. absurd (both_ways (nat_lt 0 0) refl e))))))))))))

escape_first_letter : (c : ℕ) (rest : List ℕ) → means_byte c ≡ true → escape_first (c ∷ rest) ≡ letter c
unfolding escape_first letter_means
escape_first_letter c rest e =
    rw (other_byte means_byte c letter_x e refl) (rw (other_byte means_byte c letter_u e refl) (rw (other_byte means_byte c capital_u e refl) (rw (letter_no_octal c e) refl)))

escape_first_hex : (rest : List ℕ) → escape_first (letter_x ∷ rest) ≡ hex (take 2 rest)
unfolding escape_first
escape_first_hex rest = refl

escape_first_short : (rest : List ℕ) → escape_first (letter_u ∷ rest) ≡ short (take 4 rest)
unfolding escape_first
escape_first_short rest = refl

escape_first_long : (rest : List ℕ) → escape_first (capital_u ∷ rest) ≡ long (take 8 rest)
unfolding escape_first
escape_first_long rest = refl

-- an e value's piece is read, whatever follows it
pub escaped_again : (p : Piece) (rest : List ℕ) → is_escaped_piece p ≡ true → piece_at true (spelling p ++ rest) ≡ Some p
unfolding piece_at
escaped_again (byte b) rest e =
    let n : (b == backslash) ≡ false = not-true _ (and_parts (not (b == 0)) _ (and_parts (not (b == double_quote)) _ e).1).1 in
    rw n (rw e refl)
escaped_again (letter c) rest e = rw (escape_first_letter c rest e) (rw e refl)
escaped_again (octal []) rest e =
    let z : ◌≡◌ {A = ℕ} 3 0 = number_length 8 3 [] (and_parts (is_number 8 3 []) _ e).0 in absurd (omega arith)
escaped_again (octal (d ∷ digits)) rest e =
    let h = (and_parts (is_number 8 3 (d ∷ digits)) _ e).0 in
    let t : take 3 ((d ∷ digits) ++ rest) ≡ d ∷ digits = take_at (d ∷ digits) rest 3 (sym (number_length 8 3 (d ∷ digits) h)) in
    rw (escape_first_octal d (digits ++ rest) (number_first 8 3 d digits h)) (rw t (rw e refl))
escaped_again (hex digits) rest e =
    rw (escape_first_hex (digits ++ rest)) (rw (take_at digits rest 2 (sym (number_length 16 2 digits e))) (rw e refl))
escaped_again (short digits) rest e =
    let h = (and_parts (is_number 16 4 digits) _ e).0 in
    rw (escape_first_short (digits ++ rest)) (rw (take_at digits rest 4 (sym (number_length 16 4 digits h))) (rw e refl))
escaped_again (long digits) rest e =
    let h = (and_parts (is_number 16 8 digits) _ e).0 in
    rw (escape_first_long (digits ++ rest)) (rw (take_at digits rest 8 (sym (number_length 16 8 digits h))) (rw e refl))

take_drop_length : (n : ℕ) (xs : List ℕ) → xs ≡ take n xs ++ drop (length (take n xs)) xs
take_drop_length zero xs = refl
take_drop_length (suc n) [] = refl
take_drop_length (suc n) (x ∷ xs) = ap (λ t. x ∷ t) (take_drop_length n xs)

either : (P : Piece → Type 0) (t : Bool) (x y : Piece) → (t ≡ true → P x) → (t ≡ false → P y) → P (cond t x y)
either P true x y p q = p refl
either P false x y p q = q refl

-- the text begins with the piece, as it is spelled
abbrev Begins : List ℕ → Piece → Type 0
Begins text p = text ≡ spelling p ++ drop (length (spelling p)) text

after_backslash : (c n : ℕ) (rest digits more : List ℕ) → c ≡ n → rest ≡ digits ++ more → backslash ∷ c ∷ rest ≡ backslash ∷ n ∷ (digits ++ more)
after_backslash c n rest digits more e f = cc

escape_begins : (rest : List ℕ) → Begins (backslash ∷ rest) (escape_first rest)
unfolding escape_first
escape_begins [] = refl
escape_begins (c ∷ rest) =
    let P : Piece → Type 0 = λ p. Begins (backslash ∷ c ∷ rest) p in
    either P (c == letter_x) _ _ (λ e. after_backslash c letter_x rest (take 2 rest) _ (eqb-true c letter_x e) (take_drop_length 2 rest)) (λ _.
    either P (c == letter_u) _ _ (λ e. after_backslash c letter_u rest (take 4 rest) _ (eqb-true c letter_u e) (take_drop_length 4 rest)) (λ _.
    either P (c == capital_u) _ _ (λ e. after_backslash c capital_u rest (take 8 rest) _ (eqb-true c capital_u e) (take_drop_length 8 rest)) (λ _.
    either P (is_octal c) _ _ (λ _. ap (λ t. backslash ∷ t) (take_drop_length 3 (c ∷ rest))) (λ _. refl))))

plain_begins : (rest : List ℕ) → Begins (backslash ∷ rest) (plain_first rest)
plain_begins [] = refl
plain_begins (c ∷ rest) = either (λ p. Begins (backslash ∷ c ∷ rest) p) (c == double_quote) _ _ (λ _. refl) (λ _. refl)

prefix_begins : (escaped : Bool) (b : ℕ) (rest : List ℕ) → Begins (b ∷ rest) (first_piece escaped b rest)
prefix_begins escaped b rest =
    either (λ p. Begins (b ∷ rest) p) (b == backslash) _ _
    (λ e. let P : ℕ → Type 0 = λ n. Begins (n ∷ rest) (either_first escaped rest) in subst P (sym (eqb-true b backslash e)) (both escaped rest)) (λ _. refl)
  where
    both : (escaped : Bool) (rest : List ℕ) → Begins (backslash ∷ rest) (either_first escaped rest)
    both true rest = escape_begins rest
    both false rest = plain_begins rest

if_piece_some : (escaped : Bool) (q p : Piece) → if_piece escaped q ≡ Some p → (is_piece escaped p ≡ true) × (q ≡ p)
if_piece_some escaped q p e = by_test (is_piece escaped q) refl e
  where
    by_test : (t : Bool) → is_piece escaped q ≡ t → cond t (Some q) None ≡ Some p → (is_piece escaped p ≡ true) × (q ≡ p)
    by_test true f e = let g : q ≡ p = cc in (rw (← g) f, g)
    by_test false f e = absurd (cc)

-- a piece that was read is at the front
pub piece_sound : (escaped : Bool) (text : List ℕ) (p : Piece) → piece_at escaped text ≡ Some p → (is_piece escaped p ≡ true) × Begins text p
unfolding piece_at
piece_sound escaped [] p e = absurd (cc)
piece_sound escaped (b ∷ rest) p e =
    let h = if_piece_some escaped (first_piece escaped b rest) p e in
    let P : Piece → Type 0 = λ q. Begins (b ∷ rest) q in
    (h.0, subst P h.1 (prefix_begins escaped b rest))

-- a quote or nothing ends the pieces
pub no_piece : (escaped : Bool) (rest : List ℕ) → (piece_at escaped [] ≡ None) × (piece_at escaped (double_quote ∷ rest) ≡ None)
unfolding piece_at
no_piece true rest = (refl, refl)
no_piece false rest = (refl, refl)
