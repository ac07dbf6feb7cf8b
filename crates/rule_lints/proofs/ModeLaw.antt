-- Texts that write a mode, by their digits.
use Rattle.std.proofs.Common.{◌≡◌, ◌<◌, ◌^◌, ℕ, ◌+◌, ◌-◌, ◌*◌, true, not, ◌&&◌, List, [], ◌∷◌, length, map, nat_le, nat_lt, refl, ap, ◌∙◌, arith, ◌↔◌}
use Rattle.std.proofs.lemmas.Bool.{and_parts, and_from, ltb-true, leb-true, lt-ltb, le-leb, false≢true}
use Rattle.std.proofs.Math.Nat.{pow-suc}
use Rattle.std.specs.List.{AllByRecursion, list_all}
use Rattle.text_bytes.specs.Names.{digit_zero}
use Rattle.text_bytes.specs.Texts.{is_empty}
use Rattle.rule_types.specs.Topics.{is_mode, is_octal, octal, octal_after}
use Rattle.rule_lints.specs.Laws.{WritesMode, by_places}

-- the digit of a byte
abbrev digit_of : ℕ → ℕ
digit_of b = b - digit_zero

-- a byte that is an octal digit is written as one
octal_byte : (b : ℕ) → is_octal b ≡ true → b ≡ 48 + (b - 48)
octal_byte b h =
    let both = and_parts (nat_le 48 b) (nat_le b 55) h in
    let low = leb-true 48 b both.0 in
    omega (arith, low)

octal_digit : (b : ℕ) → is_octal b ≡ true → b - 48 < 8
octal_digit b h =
    let both = and_parts (nat_le 48 b) (nat_le b 55) h in
    let high = leb-true b 55 both.1 in
    omega (arith, high)

all_written : (text : List ℕ) → list_all is_octal text ≡ true → text ≡ map (λ d. digit_zero + d) (map digit_of text)
all_written [] h = refl
all_written (b ∷ text) h =
    let both = and_parts (is_octal b) (list_all is_octal text) h in
    ap (λ (x : ℕ). x ∷ text) (octal_byte b both.0) ∙ ap (λ (xs : List ℕ). (48 + (b - 48)) ∷ xs) (all_written text both.1)

all_octal : (text : List ℕ) → list_all is_octal text ≡ true → AllByRecursion (λ d. d < 8) (map digit_of text)
all_octal [] h = tt
all_octal (b ∷ text) h =
    let both = and_parts (is_octal b) (list_all is_octal text) h in
    (octal_digit b both.0, all_octal text both.1)

some_digit : (text : List ℕ) → not (is_empty text) ≡ true → 0 < length (map digit_of text)
some_digit [] h = absurd (false≢true h)
some_digit (b ∷ text) h = omega arith

at_place : (n d p q r : ℕ) → q ≡ p * 8 → (8 * n + d) * p + r ≡ n * q + (d * p + r)
at_place n d p q r e = rw e (omega arith)

digit_back : (d : ℕ) → (48 + d) - 48 ≡ d
digit_back d = omega arith

-- digits that follow a number count by their places
placed : (n : ℕ) (digits : List ℕ) → octal_after n (map (λ d. digit_zero + d) digits) ≡ n * 8 ^ length digits + by_places digits
placed n [] = omega arith
placed n (d ∷ digits) =
    ap (λ (v : ℕ). octal_after (8 * n + v) (map (λ d. digit_zero + d) digits)) (digit_back d)
    ∙ placed (8 * n + d) digits
    ∙ at_place n d (8 ^ length digits) (8 ^ length (d ∷ digits)) (by_places digits) (pow-suc 8 (length digits))

byte_is_octal : (d : ℕ) → d < 8 → is_octal (48 + d) ≡ true
byte_is_octal d h = and_from (nat_le 48 (48 + d)) _ (le-leb 48 (48 + d) (omega arith)) (le-leb (48 + d) 55 (omega (arith, h)))

all_digits : (digits : List ℕ) → AllByRecursion (λ d. d < 8) digits → list_all is_octal (map (λ d. digit_zero + d) digits) ≡ true
all_digits [] h = refl
all_digits (d ∷ digits) h = and_from (is_octal (48 + d)) _ (byte_is_octal d h.0) (all_digits digits h.1)

not_empty : (digits : List ℕ) → 0 < length digits → not (is_empty (map (λ d. digit_zero + d) digits)) ≡ true
not_empty [] h =
    let none : ⊥ = omega (arith, h) in
    absurd none
not_empty (d ∷ digits) h = refl

written_by : (text : List ℕ) → is_mode text ≡ true → WritesMode text
written_by text h =
    let parts = and_parts (not (is_empty text) && list_all is_octal text) (nat_lt (octal text) (8 ^ 4)) h in
    let prefix = and_parts (not (is_empty text)) (list_all is_octal text) parts.0 in
    let spelled = all_written text prefix.1 in
    let value = ap octal spelled ∙ placed 0 (map digit_of text) in
    let low = ltb-true (octal text) (8 ^ 4) parts.1 in
    record {
      digits = map digit_of text;
      some = some_digit text prefix.0;
      octal = all_octal text prefix.1;
      written = spelled;
      least = omega (arith, value, low);
    }

mode_written : (digits : List ℕ) → 0 < length digits → AllByRecursion (λ d. d < 8) digits → by_places digits < 8 ^ 4 → is_mode (map (λ d. digit_zero + d) digits) ≡ true
mode_written digits some small least =
    let value = placed 0 digits in
    and_from (not (is_empty (map (λ d. digit_zero + d) digits)) && list_all is_octal (map (λ d. digit_zero + d) digits)) _
    (and_from (not (is_empty (map (λ d. digit_zero + d) digits))) _ (not_empty digits some) (all_digits digits small))
    (lt-ltb (octal (map (λ d. digit_zero + d) digits)) (8 ^ 4) (omega (arith, value, least)))

pub modes_written : (text : List ℕ) → (is_mode text ≡ true) ↔ WritesMode text
modes_written text =
    (written_by text, λ w. ap is_mode w.written ∙ mode_written w.digits w.some w.octal w.least)
