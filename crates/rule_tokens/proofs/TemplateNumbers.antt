-- Numbers in braces, as the grammar has them.
use Rattle.std.proofs.Common.{◌≡◌, ℕ, zero, suc, ◌-◌, ◌<◌, ◌⊎◌, inl, inr, Bool, true, false, cond, not, ◌&&◌, ◌==◌, nat_lt, List, [], ◌∷◌, ◌++◌, length, take, drop, get_or, Option, Some, None, MatchOption, option_map, refl, sym, ◌∙◌, ap, subst, arith, drop-cons, eqb-true, length-append}
use Rattle.std.specs.List.{list_all, AllPass}
use Rattle.std.proofs.lemmas.Bool.{true≢false, and_parts, and_from}
use Rattle.std.proofs.lemmas.Bool.Decides.{nat_tests}
use Rattle.std.proofs.lemmas.Grind.{common_steps}
use Rattle.std.proofs.lemmas.List.{take-append-drop}
use Rattle.std.proofs.lemmas.List.Sums.{AllPass-from_list_all, list_all-from_AllPass}
use Rattle.text_bytes.specs.Names.{plus}
use Rattle.text_bytes.specs.Texts.{ends_in, is_empty}
use Rattle.text_bytes.specs.Numbers.{decimal, decimal_below, is_decimal, is_digit}
use Rattle.rule_tokens.specs.TemplateGrammar.{WritesNumber, IsNoNumber}
use Rattle.rule_tokens.specs.Number.{not_zero, number_of, word_of}
use Rattle.rule_tokens.specs.declared.piece.Piece.{Piece}
use Rattle.rule_tokens.specs.declared.piece.Piece.TheVariants as piece

-- whether a text is read as a number
abbrev is_number : List ℕ → Bool
is_number t = is_decimal t && nat_lt (decimal t) 65536

-- what is read as a number writes one
writes : (n : ℕ) (t : List ℕ) → is_number t ≡ true → decimal t ≡ suc n → WritesNumber (suc n) t
writes n t h e =
    let parts = and_parts (is_decimal t) (nat_lt (decimal t) 65536) h in
    let digits = and_parts (not (is_empty t)) (list_all is_digit t) parts.0 in
    let high : nat_lt (decimal t) 65536 ≡ true = parts.1 in
    let low : decimal t < 65536 = grind (arith, nat_tests) in
    record {
      all_digits = AllPass-from_list_all is_digit t digits.1;
      value = e;
      not_zero = omega arith;
      below = subst (λ (m : ℕ). m < 65536) e low;
    }

-- what writes a number is read as one
is_read : (n : ℕ) (t : List ℕ) → WritesNumber n t → is_number t ≡ true
is_read n [] w = let none : 0 ≡ n = w.value in let some : 0 < n = w.not_zero in absurd (omega arith)
is_read n (b ∷ t) w =
    let h : decimal (b ∷ t) < 65536 = subst (λ (m : ℕ). m < 65536) (sym w.value) w.below in
    let high : nat_lt (decimal (b ∷ t)) 65536 ≡ true = grind (arith, nat_tests) in
    and_from (is_decimal (b ∷ t)) (nat_lt (decimal (b ∷ t)) 65536) (list_all-from_AllPass is_digit (b ∷ t) w.all_digits) high

number_by : (t : List ℕ) (b : Bool) → is_number t ≡ b → (v : ℕ) → decimal t ≡ v → MatchOption (not_zero (cond b (Some v) None)) ((n : ℕ) → WritesNumber n t → ⊥) (λ n. WritesNumber n t)
number_by t true h zero e = λ n w. let some : 0 < n = w.not_zero in let is : 0 ≡ n = sym e ∙ w.value in absurd (omega arith)
number_by t true h (suc v) e = writes v t h e
number_by t false h v e = λ n w. true≢false (sym (is_read n t w) ∙ h)

-- a text is read as the number that it writes, and else as none
number_well : (t : List ℕ) → MatchOption (number_of t) ((n : ℕ) → WritesNumber n t → ⊥) (λ n. WritesNumber n t)
unfolding decimal_below
number_well t = number_by t (is_number t) refl (decimal t) refl

number_is : (n : ℕ) (t : List ℕ) → WritesNumber n t → (o : Option ℕ) → MatchOption o ((m : ℕ) → WritesNumber m t → ⊥) (λ m. WritesNumber m t) → o ≡ Some n
number_is n t w None h = absurd (h n w)
number_is n t w (Some m) h = ap Some (sym h.value ∙ w.value)

number_again : (n : ℕ) (t : List ℕ) → WritesNumber n t → number_of t ≡ Some n
number_again n t w = number_is n t w (number_of t) (number_well t)

-- what the content of the braces writes
abbrev pub WritesWord : List ℕ → Piece → Type 0
WritesWord t p =
    ((n : ℕ) × (p ≡ piece.Word n) × WritesNumber n t)
    ⊎ ((n : ℕ) × (digits : List ℕ) × (p ≡ piece.From n) × WritesNumber n digits × (t ≡ digits ++ plus ∷ []))

-- the byte of a plus sign is not a digit
last_is : (b : ℕ) (t : List ℕ) (p : ℕ → Bool) → AllPass p (b ∷ t) → p (get_or (b ∷ t) (length t) 0) ≡ true
last_is b t p all = all (length t) 0 (omega arith)

digits_end : (t : List ℕ) → AllPass is_digit t → ends_in plus t ≡ false
digits_end [] all = refl
digits_end (b ∷ t) all = by_test (get_or (b ∷ t) (length t) 0 == plus) refl
  where
    by_test : (v : Bool) → (get_or (b ∷ t) (length t) 0 == plus) ≡ v → v ≡ false
    by_test false e = refl
    by_test true e =
        let same : get_or (b ∷ t) (length t) 0 ≡ plus = eqb-true (get_or (b ∷ t) (length t) 0) plus e in
        let digit : is_digit plus ≡ true = subst (λ (c : ℕ). is_digit c ≡ true) same (last_is b t is_digit all) in
        absurd (true≢false (sym digit))

plus_ends : (t : List ℕ) → ends_in plus (t ++ plus ∷ []) ≡ true
plus_ends [] = refl
plus_ends (b ∷ t) =
    let long : length (t ++ plus ∷ []) ≡ length (b ∷ t) = grind (arith, common_steps) in
    let last : get_or ((b ∷ t) ++ plus ∷ []) (length (b ∷ t)) 0 ≡ plus = grind (arith, common_steps) in
    rw long (rw last refl)

without_plus : (t : List ℕ) → take (length (t ++ plus ∷ []) - 1) (t ++ plus ∷ []) ≡ t
without_plus t =
    let long : length (t ++ plus ∷ []) - 1 ≡ length t = omega (arith, length-append t (plus ∷ [])) in
    rw long (grind (arith, common_steps))

with_plus : (t : List ℕ) → ends_in plus t ≡ true → t ≡ take (length t - 1) t ++ plus ∷ []
with_plus [] h = absurd (true≢false (sym h))
with_plus (b ∷ t) h =
    let last : get_or (b ∷ t) (length t) 0 ≡ plus = eqb-true (get_or (b ∷ t) (length t) 0) plus h in
    let long : length (b ∷ t) - 1 ≡ length t = omega arith in
    let below : length t < length (b ∷ t) = omega arith in
    let none : drop (suc (length t)) (b ∷ t) ≡ [] = grind (arith, common_steps) in
    let tail : drop (length t) (b ∷ t) ≡ plus ∷ [] = rw (drop-cons (b ∷ t) (length t) 0) (rw (last, none) refl) in
    rw long (sym (take-append-drop (length t) (b ∷ t)) ∙ ap (λ (l : List ℕ). take (length t) (b ∷ t) ++ l) tail)

from_well : (t : List ℕ) → ends_in plus t ≡ true → (o : Option ℕ)
    → MatchOption o ((n : ℕ) → WritesNumber n (take (length t - 1) t) → ⊥) (λ n. WritesNumber n (take (length t - 1) t))
    → MatchOption (option_map (λ n. piece.From n) o) (IsNoNumber t) (λ p. WritesWord t p)
from_well t h (Some n) w = inr (n, take (length t - 1) t, refl, w, with_plus t h)
from_well t h None none = λ n digits w. (
  (λ is. true≢false (sym h ∙ ap (ends_in plus) is ∙ digits_end digits w.all_digits)),
  λ is. none n (subst (WritesNumber n) (sym (ap (λ (l : List ℕ). take (length l - 1) l) is ∙ without_plus digits)) w),
)

word_well_by : (t : List ℕ) → ends_in plus t ≡ false → (o : Option ℕ)
    → MatchOption o ((n : ℕ) → WritesNumber n t → ⊥) (λ n. WritesNumber n t)
    → MatchOption (option_map (λ n. piece.Word n) o) (IsNoNumber t) (λ p. WritesWord t p)
word_well_by t h (Some n) w = inl (n, refl, w)
word_well_by t h None none = λ n digits w. (
  (λ is. none n (subst (WritesNumber n) (sym is) w)),
  λ is. true≢false (sym (plus_ends digits) ∙ sym (ap (ends_in plus) is) ∙ h),
)

by_plus : (t : List ℕ) (b : Bool) → ends_in plus t ≡ b
    → MatchOption (cond b (option_map (λ n. piece.From n) (number_of (take (length t - 1) t))) (option_map (λ n. piece.Word n) (number_of t))) (IsNoNumber t) (λ p. WritesWord t p)
by_plus t true h = from_well t h (number_of (take (length t - 1) t)) (number_well (take (length t - 1) t))
by_plus t false h = word_well_by t h (number_of t) (number_well t)

-- the content of the braces is read as the word that it writes, and else as none
pub word_well : (t : List ℕ) → MatchOption (word_of t) (IsNoNumber t) (λ p. WritesWord t p)
unfolding word_of
word_well t = by_plus t (ends_in plus t) refl

-- and what writes a word is read as that
pub word_again : (n : ℕ) (digits : List ℕ) → WritesNumber n digits → word_of digits ≡ Some (piece.Word n)
unfolding word_of
word_again n digits w =
    ap (λ (b : Bool). cond b (option_map (λ m. piece.From m) (number_of (take (length digits - 1) digits))) (option_map (λ m. piece.Word m) (number_of digits))) (digits_end digits w.all_digits)
    ∙ ap (option_map (λ m. piece.Word m)) (number_again n digits w)

pub from_again : (n : ℕ) (digits : List ℕ) → WritesNumber n digits → word_of (digits ++ plus ∷ []) ≡ Some (piece.From n)
unfolding word_of
from_again n digits w =
    let t = digits ++ plus ∷ [] in
    ap (λ (b : Bool). cond b (option_map (λ m. piece.From m) (number_of (take (length t - 1) t))) (option_map (λ m. piece.Word m) (number_of t))) (plus_ends digits)
    ∙ ap (λ (l : List ℕ). option_map (λ m. piece.From m) (number_of l)) (without_plus digits)
    ∙ ap (option_map (λ m. piece.From m)) (number_again n digits w)

none_by : (t : List ℕ) → IsNoNumber t → (o : Option Piece) → MatchOption o (IsNoNumber t) (λ p. WritesWord t p) → o ≡ None
none_by t none None h = refl
none_by t none (Some p) (inl h) = absurd ((none h.0 t h.2).0 refl)
none_by t none (Some p) (inr h) = absurd ((none h.0 h.1 h.3).1 h.4)

pub no_word_again : (t : List ℕ) → IsNoNumber t → word_of t ≡ None
no_word_again t none = none_by t none (word_of t) (word_well t)
