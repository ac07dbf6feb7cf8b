-- The texts that udev reads as a mode are those that write one.
use Rattle.std.proofs.Common.{◌≡◌, ◌<◌, ◌≤◌, ◌^◌, ℕ, zero, suc, ◌+◌, ◌-◌, ◌*◌, ◌==◌, Bool, true, false, not, cond, ◌&&◌, List, [], ◌∷◌, ◌++◌, length, map, take, drop, Some, None, is_none, nat_le, nat_lt, refl, ap, subst, ◌∙◌, arith}
use Rattle.std.proofs.lemmas.Bool.{and_parts, and_from, eqb-true, ltb-true, leb-true, lt-ltb, le-leb, false≢true}
use Rattle.std.proofs.lemmas.Bool.Decides.{nat_tests}
use Rattle.std.proofs.Math.Nat.{pow-suc}
use Rattle.std.specs.List.{AllByRecursion, list_all, prefix_len}
use Rattle.text_bytes.specs.Names.{digit_zero, is_blank}
use Rattle.text_bytes.specs.Texts.{is_empty, unindented}
use Rattle.rule_tokens.specs.Grammar.{AllAre, BeginsOther}
use Rattle.rule_tokens.proofs.RunLemmas.{run_all}
use Rattle.rule_types.specs.Topics.{is_mode, is_octal, mode_of, octal, octal_after}
use Rattle.rule_laws.specs.Turns.{WritesMode}

-- zeros, and one to four octal digits
record IsNumber (text : List ℕ) : Type 0 where
  zeros : List ℕ
  digits : List ℕ
  written : text ≡ zeros ++ map (λ d. digit_zero + d) digits
  are_zero : AllAre (λ b. b == digit_zero) zeros
  octal : AllByRecursion (λ d. d < 8) digits
  some : 0 < length digits
  few : length digits ≤ 4

octal_byte : (b : ℕ) → is_octal b ≡ true → b ≡ 48 + (b - 48)
octal_byte b h =
    let both = and_parts (nat_le 48 b) (nat_le b 55) h in
    let low = leb-true 48 b both.0 in
    omega (arith, low)

octal_digit : (b : ℕ) → is_octal b ≡ true → b - 48 < 8
octal_digit b h =
    let both = and_parts (nat_le 48 b) (nat_le b 55) h in
    let high = leb-true b 55 both.1 in
    omega (arith, high)

all_written : (text : List ℕ) → list_all is_octal text ≡ true → text ≡ map (λ d. digit_zero + d) (map (λ b. b - 48) text)
all_written [] h = refl
all_written (b ∷ text) h =
    let both = and_parts (is_octal b) (list_all is_octal text) h in
    ap (λ (x : ℕ). x ∷ text) (octal_byte b both.0) ∙ ap (λ (xs : List ℕ). (48 + (b - 48)) ∷ xs) (all_written text both.1)

all_digits : (text : List ℕ) → list_all is_octal text ≡ true → AllByRecursion (λ d. d < 8) (map (λ b. b - 48) text)
all_digits [] h = tt
all_digits (b ∷ text) h =
    let both = and_parts (is_octal b) (list_all is_octal text) h in
    (octal_digit b both.0, all_digits text both.1)

-- further digits make no number less
at_least : (n : ℕ) (text : List ℕ) → n * 8 ^ length text ≤ octal_after n text
at_least n [] = omega arith
at_least n (b ∷ text) =
    let more = at_least (8 * n + (b - 48)) text in
    let place = pow-suc 8 (length text) in
    grows n (b - 48) (8 ^ length text) (8 ^ length (b ∷ text)) (octal_after (8 * n + (b - 48)) text) place more
  where
    grows : (n d p q r : ℕ) → q ≡ p * 8 → (8 * n + d) * p ≤ r → n * q ≤ r
    grows n d p q r e more = rw e (omega (arith, more))

-- a number with more than four digits, of which the first is not zero, is too great
few_digits : (n : ℕ) → 8 ^ n < 8 ^ 4 → n < 4
few_digits zero h = omega arith
few_digits (suc zero) h = omega arith
few_digits (suc (suc zero)) h = omega arith
few_digits (suc (suc (suc zero))) h = omega arith
few_digits (suc (suc (suc (suc n)))) h =
    let a = pow-suc 8 n in
    let b = pow-suc 8 (suc n) in
    let c = pow-suc 8 (suc (suc n)) in
    let d = pow-suc 8 (suc (suc (suc n))) in
    let some = positive n in
    let none : ⊥ = omega (arith, a, b, c, d, some, h) in
    absurd none
  where
    positive : (n : ℕ) → 0 < 8 ^ n
    positive zero = omega arith
    positive (suc n) = let more = positive n in let e = pow-suc 8 n in omega (arith, more, e)

short : (text : List ℕ) → length (map (λ b. b - 48) text) ≡ length text
short [] = refl
short (b ∷ text) = ap suc (short text)

-- digits of a number that a mode may be
numbered : (b : ℕ) (text : List ℕ) → is_octal b ≡ true → list_all is_octal text ≡ true → octal (b ∷ text) < 8 ^ 4 → IsNumber (b ∷ text)
numbered b [] here more low = record {
  zeros = [];
  digits = (b - 48) ∷ [];
  written = ap (λ (x : ℕ). x ∷ []) (octal_byte b here);
  are_zero = refl;
  octal = (octal_digit b here, tt);
  some = omega arith;
  few = omega arith;
}
numbered b (c ∷ text) here more low = by (λ h i l. numbered c text h i l) (b == 48) refl
  where
    by : (is_octal c ≡ true → list_all is_octal text ≡ true → octal (c ∷ text) < 8 ^ 4 → IsNumber (c ∷ text)) → (z : Bool) → (b == 48) ≡ z → IsNumber (b ∷ c ∷ text)
    by next true e =
        let both = and_parts (is_octal c) (list_all is_octal text) more in
        let same : b ≡ 48 = eqb-true b 48 e in
        let less = next both.0 both.1 (subst (λ (n : ℕ). octal (n ∷ c ∷ text) < 8 ^ 4) same low) in
        record {
          zeros = b ∷ less.zeros;
          digits = less.digits;
          written = ap (λ (xs : List ℕ). b ∷ xs) less.written;
          are_zero = and_from (b == 48) _ e less.are_zero;
          octal = less.octal;
          some = less.some;
          few = less.few;
        }
    by next false e =
        let high : 1 ≤ b - 48 = first_digit b here e in
        let value = at_least (8 * 0 + (b - 48)) (c ∷ text) in
        let count = few_digits (length (c ∷ text)) (at_most (b - 48) (8 ^ length (c ∷ text)) (octal (b ∷ c ∷ text)) high value low) in
        let size = short (b ∷ c ∷ text) in
        record {
          zeros = [];
          digits = map (λ b. b - 48) (b ∷ c ∷ text);
          written = all_written (b ∷ c ∷ text) (and_from (is_octal b) _ here more);
          are_zero = refl;
          octal = all_digits (b ∷ c ∷ text) (and_from (is_octal b) _ here more);
          some = omega (arith, size);
          few = omega (arith, size, count);
        }
      where
        first_digit : (b : ℕ) → is_octal b ≡ true → (b == 48) ≡ false → 1 ≤ b - 48
        first_digit b h k = grind (arith, nat_tests)

        at_most : (d p v : ℕ) → 1 ≤ d → (8 * 0 + d) * p ≤ v → v < 8 ^ 4 → p < 8 ^ 4
        at_most zero p v high value low =
            let none : ⊥ = omega (arith, high) in
            absurd none
        at_most (suc d) p v high value low = omega (arith, value, low)

is_number : (text : List ℕ) → is_mode text ≡ true → IsNumber text
is_number [] h = absurd (false≢true h)
is_number (b ∷ text) h =
    let parts = and_parts (list_all is_octal (b ∷ text)) (nat_lt (octal (b ∷ text)) (8 ^ 4)) h in
    let digits = and_parts (is_octal b) (list_all is_octal text) parts.0 in
    numbered b text digits.0 digits.1 (ltb-true (octal (b ∷ text)) (8 ^ 4) parts.1)

cut : (text : List ℕ) (n : ℕ) → text ≡ take n text ++ drop n text
cut text zero = refl
cut [] (suc n) = refl
cut (b ∷ text) (suc n) = ap (λ (xs : List ℕ). b ∷ xs) (cut text n)

-- what udev reads as a mode writes one
writes : (text : List ℕ) → is_mode (unindented text) ≡ true → WritesMode text
writes text h =
    let n = is_number (unindented text) h in
    record {
      blanks = take (prefix_len is_blank text) text;
      zeros = n.zeros;
      digits = n.digits;
      written = cut text (prefix_len is_blank text) ∙ ap (λ (xs : List ℕ). take (prefix_len is_blank text) text ++ xs) n.written;
      blank = run_all is_blank text;
      are_zero = n.are_zero;
      octal = n.octal;
      some = n.some;
      few = n.few;
    }

byte_is_octal : (d : ℕ) → d < 8 → is_octal (48 + d) ≡ true
byte_is_octal d h = and_from (nat_le 48 (48 + d)) _ (le-leb 48 (48 + d) (omega arith)) (le-leb (48 + d) 55 (omega (arith, h)))

are_octal : (digits : List ℕ) → AllByRecursion (λ d. d < 8) digits → list_all is_octal (map (λ d. digit_zero + d) digits) ≡ true
are_octal [] h = refl
are_octal (d ∷ digits) h = and_from (is_octal (48 + d)) _ (byte_is_octal d h.0) (are_octal digits h.1)

digit_back : (d : ℕ) → (48 + d) - 48 ≡ d
digit_back d = omega arith

-- up to four digits are of a number that a mode may be
low_number : (digits : List ℕ) → AllByRecursion (λ d. d < 8) digits → length digits ≤ 4 → octal (map (λ d. digit_zero + d) digits) < 8 ^ 4
low_number [] small few = omega arith
low_number (a ∷ []) small few = let p = digit_back a in let h = small.0 in omega (arith, p, h)
low_number (a ∷ b ∷ []) small few =
    let p = digit_back a in
    let q = digit_back b in
    let h = small.0 in
    let i = small.1.0 in
    omega (arith, p, q, h, i)
low_number (a ∷ b ∷ c ∷ []) small few =
    let p = digit_back a in
    let q = digit_back b in
    let r = digit_back c in
    let h = small.0 in
    let i = small.1.0 in
    let j = small.1.1.0 in
    omega (arith, p, q, r, h, i, j)
low_number (a ∷ b ∷ c ∷ d ∷ []) small few =
    let p = digit_back a in
    let q = digit_back b in
    let r = digit_back c in
    let s = digit_back d in
    let h = small.0 in
    let i = small.1.0 in
    let j = small.1.1.0 in
    let k = small.1.1.1.0 in
    omega (arith, p, q, r, s, h, i, j, k)
low_number (a ∷ b ∷ c ∷ d ∷ e ∷ digits) small few =
    let none : ⊥ = omega (arith, few) in
    absurd none

-- zeros in front change neither that all are digits nor the number
zeros_before : (zeros digits : List ℕ) → AllAre (λ b. b == digit_zero) zeros → list_all is_octal digits ≡ true → not (is_empty digits) ≡ true → octal digits < 8 ^ 4 → is_mode (zeros ++ digits) ≡ true
zeros_before [] digits z all some low = and_from (not (is_empty digits) && list_all is_octal digits) _ (and_from (not (is_empty digits)) _ some all) (lt-ltb (octal digits) (8 ^ 4) low)
zeros_before (b ∷ zeros) digits z all some low =
    let both = and_parts (b == 48) (list_all (λ b. b == digit_zero) zeros) z in
    let same : b ≡ 48 = eqb-true b 48 both.0 in
    let less = zeros_before zeros digits both.1 all some low in
    let parts = and_parts (not (is_empty (zeros ++ digits)) && list_all is_octal (zeros ++ digits)) (nat_lt (octal (zeros ++ digits)) (8 ^ 4)) less in
    let prefix = and_parts (not (is_empty (zeros ++ digits))) (list_all is_octal (zeros ++ digits)) parts.0 in
    rw same (and_from (list_all is_octal (zeros ++ digits)) _ prefix.1 parts.1)

-- digits begin with no blank
octal_no_blank : (b : ℕ) → is_octal b ≡ true → is_blank b ≡ false
octal_no_blank b h = grind (arith, nat_tests)

mode_begins : (text : List ℕ) → is_mode text ≡ true → BeginsOther is_blank text
mode_begins [] h = absurd (false≢true h)
mode_begins (b ∷ text) h =
    let parts = and_parts (list_all is_octal (b ∷ text)) (nat_lt (octal (b ∷ text)) (8 ^ 4)) h in
    let digits = and_parts (is_octal b) (list_all is_octal text) parts.0 in
    octal_no_blank b digits.0

-- blanks in front of a text that begins with none are passed
passed : (blanks rest : List ℕ) → AllAre is_blank blanks → BeginsOther is_blank rest → unindented (blanks ++ rest) ≡ rest
passed [] [] all other = refl
passed [] (b ∷ rest) all other = ap (λ (v : Bool). drop (cond v (1 + prefix_len is_blank rest) 0) (b ∷ rest)) other
passed (b ∷ blanks) rest all other =
    let both = and_parts (is_blank b) (list_all is_blank blanks) all in
    ap (λ (v : Bool). drop (cond v (1 + prefix_len is_blank (blanks ++ rest)) 0) (b ∷ (blanks ++ rest))) both.0
    ∙ ap (λ (n : ℕ). drop n (b ∷ (blanks ++ rest))) (one_add (prefix_len is_blank (blanks ++ rest)))
    ∙ passed blanks rest both.1 other
  where
    one_add : (n : ℕ) → 1 + n ≡ suc n
    one_add n = omega arith

some_digits : (digits : List ℕ) → 0 < length digits → not (is_empty (map (λ d. digit_zero + d) digits)) ≡ true
some_digits [] h =
    let none : ⊥ = omega (arith, h) in
    absurd none
some_digits (d ∷ digits) h = refl

-- a text that writes a mode is read as one
read : (text : List ℕ) → WritesMode text → is_mode (unindented text) ≡ true
read text w =
    let number = map (λ d. digit_zero + d) w.digits in
    let whole = zeros_before w.zeros number w.are_zero (are_octal w.digits w.octal) (some_digits w.digits w.some) (low_number w.digits w.octal w.few) in
    ap (λ (t : List ℕ). is_mode (unindented t)) w.written
    ∙ ap is_mode (passed w.blanks (w.zeros ++ number) w.blank (mode_begins (w.zeros ++ number) whole))
    ∙ whole

answer : (text : List ℕ) (b : Bool) → is_mode (unindented text) ≡ b → is_none (mode_of text) ≡ not b
unfolding mode_of
answer text true e = ap (λ (b : Bool). is_none (cond b (Some (octal (unindented text))) None)) e
answer text false e = ap (λ (b : Bool). is_none (cond b (Some (octal (unindented text))) None)) e

pub mode_is_read : (text : List ℕ) → WritesMode text → is_none (mode_of text) ≡ false
mode_is_read text w = answer text true (read text w)

pub no_mode_is_read : (text : List ℕ) → ¬ WritesMode text → is_none (mode_of text) ≡ true
no_mode_is_read text none = by (is_mode (unindented text)) refl
  where
    by : (b : Bool) → is_mode (unindented text) ≡ b → is_none (mode_of text) ≡ true
    by true e = absurd (none (writes text e))
    by false e = answer text false e
