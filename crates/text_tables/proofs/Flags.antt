-- A name whose flag is not set has no value.
use Rattle.std.proofs.Common.{◌≡◌, ◌≢◌, ℕ, ◌+◌, ◌-◌, ◌*◌, ◌/◌, ◌%◌, ◌^◌, ◌<◌, Bool, true, false, cond, nat_eq, List, [], ◌∷◌, length, get_or, set, Option, Some, None, refl, ap, sym, ◌∙◌, arith, true≢false, length-set}
use Rattle.std.proofs.Math.Logic.{⊎_elim}
use Rattle.std.proofs.lemmas.Bool.{cases_eq}
use Rattle.std.proofs.lemmas.List.{get_or-set_same, get_or-set_other}
use Rattle.std.proofs.lemmas.Nat.{mod_below}
use Rattle.std.proofs.lemmas.Nat.Bits.{bit_at_set_same, bit_at_set_other}
use Rattle.std.specs.Int.{bit_at, w64}
use Rattle.std.specs.Int.RustNames.{bit_or}
use Rattle.std.specs.Cmp.Lexicographic.{bytes_decides}
use Rattle.text_bytes.specs.Text.{Text}
use Rattle.text_tables.specs.Texts.{same_text}
use Rattle.text_tables.specs.Pairs.{Pair, names, value_of, with_value, without_name}
use Rattle.text_tables.specs.NameFlags.{IsFlagged, is_lacking, is_unset, none_set, number_of, with_flag, with_name, with_names}
use Rattle.text_tables.proofs.Found.{value_removed, value_set}

number_below : (name : Text) → number_of name < 128
unfolding number_of
number_below name = mod_below (length name % 128 * 43 + get_or name (length name - 1) 0 + get_or name (length name / 2) 0 * 91 + get_or name (length name / 4) 0 * 77) 128 (omega arith)

-- the flag that was set is set
set_is_set : (words : List ℕ) (number : ℕ) → length words ≡ 2 → number < 128 → is_unset (with_flag words number) number ≡ false
unfolding with_flag is_unset
set_is_set words number whole within =
    let word : number / 64 < length words = omega (arith, whole, within) in
    let bit : number % 64 < 64 = omega arith in
    ap (λ w. nat_eq (bit_at w (number % 64)) 0) (get_or-set_same words (number / 64) _ 0 word)
    ∙ ap (λ b. nat_eq b 0) (bit_at_set_same w64 (get_or words (number / 64) 0) (number % 64) bit)

-- a flag that is not set now was not set before
unset_before : (words : List ℕ) (number other : ℕ) → length words ≡ 2 → number < 128 → is_unset (with_flag words number) other ≡ true → is_unset words other ≡ true
unfolding with_flag is_unset
unset_before words number other whole within h = ⊎_elim here there (cases_eq (other / 64) (number / 64))
  where
    word : ℕ
    word = bit_or (get_or words (number / 64) 0) (1 * 2 ^ (number % 64) % 2 ^ 64)

    there : other / 64 ≢ number / 64 → nat_eq (bit_at (get_or words (other / 64) 0) (other % 64)) 0 ≡ true
    there apart = ap (λ w. nat_eq (bit_at w (other % 64)) 0) (sym (get_or-set_other words (number / 64) (other / 64) word 0 apart)) ∙ h

    here : other / 64 ≡ number / 64 → nat_eq (bit_at (get_or words (other / 64) 0) (other % 64)) 0 ≡ true
    here same = ⊎_elim bit other_bit (cases_eq (other % 64) (number % 64))
      where
        place : number / 64 < length words
        place = omega (arith, whole, within)

        now : nat_eq (bit_at word (other % 64)) 0 ≡ true
        now = ap (λ w. nat_eq (bit_at w (other % 64)) 0) (sym (ap (λ n. get_or (set words (number / 64) word) n 0) same ∙ get_or-set_same words (number / 64) word 0 place)) ∙ h

        bit : other % 64 ≡ number % 64 → nat_eq (bit_at (get_or words (other / 64) 0) (other % 64)) 0 ≡ true
        bit e =
            let one : bit_at word (number % 64) ≡ 1 = bit_at_set_same w64 (get_or words (number / 64) 0) (number % 64) (omega arith) in
            absurd (true≢false (sym now ∙ ap (λ n. nat_eq (bit_at word n) 0) e ∙ ap (λ b. nat_eq b 0) one))

        other_bit : other % 64 ≢ number % 64 → nat_eq (bit_at (get_or words (other / 64) 0) (other % 64)) 0 ≡ true
        other_bit apart =
            ap (λ n. nat_eq (bit_at (get_or words n 0) (other % 64)) 0) same
            ∙ ap (λ b. nat_eq b 0) (sym (bit_at_set_other w64 (get_or words (number / 64) 0) (number % 64) (omega arith) (other % 64) apart)) ∙ now

whole_with : (words : List ℕ) (number : ℕ) → length words ≡ 2 → length (with_flag words number) ≡ 2
unfolding with_flag
whole_with words number whole = length-set words (number / 64) _ ∙ whole

lacking_before : (words : List ℕ) (name other : Text) → length words ≡ 2 → is_lacking (with_name words name) other ≡ true → is_lacking words other ≡ true
lacking_before words name other whole h = unset_before words (number_of name) (number_of other) whole (number_below name) h

-- ---- what a table holds

-- no name is held
pub none_flagged : IsFlagged none_set []
none_flagged = record { whole = refl; flagged = λ name h. refl }

-- one more name is marked
pub more_flagged : (words : List ℕ) (pairs : List Pair) (name : Text) → IsFlagged words pairs → IsFlagged (with_name words name) pairs
more_flagged words pairs name f = record {
  whole = whole_with words (number_of name) f.whole;
  flagged = λ other h. f.flagged other (lacking_before words name other f.whole h);
}

-- and is held
pub set_flagged : (words : List ℕ) (pairs : List Pair) (name value : Text) → IsFlagged words pairs → IsFlagged (with_name words name) (with_value pairs name value)
set_flagged words pairs name value f = record {
  whole = whole_with words (number_of name) f.whole;
  flagged = λ other h. value_set pairs name value other ∙ by other h (same_text other name) refl;
}
  where
    by : (other : Text) → is_lacking (with_name words name) other ≡ true → (b : Bool) → same_text other name ≡ b → cond b (Some value) (value_of pairs other) ≡ None
    by other h true e =
        let now : is_lacking (with_name words name) other ≡ false =
        ap (is_lacking (with_name words name)) ((bytes_decides other name).0 e) ∙ set_is_set words (number_of name) f.whole (number_below name) in
        absurd (true≢false (sym h ∙ now))
    by other h false e = f.flagged other (lacking_before words name other f.whole h)

-- one that is held is taken away
pub removed_flagged : (words : List ℕ) (pairs : List Pair) (name : Text) → IsFlagged words pairs → IsFlagged words (without_name pairs name)
removed_flagged words pairs name f = record {
  whole = f.whole;
  flagged = λ other h. value_removed pairs name other ∙ by (same_text other name) (f.flagged other h);
}
  where
    by : (b : Bool) {o : Option Text} → o ≡ None → cond b None o ≡ None
    by true h = refl
    by false h = h

lacking_start : (held : List Text) (words : List ℕ) (other : Text) → length words ≡ 2 → is_lacking (with_names words held) other ≡ true → is_lacking words other ≡ true
lacking_start [] words other whole h = h
lacking_start (name ∷ held) words other whole h =
    lacking_before words name other whole (lacking_start held (with_name words name) other (whole_with words (number_of name) whole) h)

-- all names that are held are marked
all_flagged_over : (words : List ℕ) (pairs : List Pair) → length words ≡ 2 → IsFlagged (with_names words (names pairs)) pairs
all_flagged_over words [] whole = record { whole = whole; flagged = λ name h. refl }
all_flagged_over words (p ∷ ps) whole = by (all_flagged_over (with_name words p.0) ps (whole_with words (number_of p.0) whole))
  where
    value : IsFlagged (with_names (with_name words p.0) (names ps)) ps → (other : Text) → is_lacking (with_names (with_name words p.0) (names ps)) other ≡ true
        → (b : Bool) → same_text other p.0 ≡ b → cond b (Some p.1) (value_of ps other) ≡ None
    value rest other h true e =
        let now : is_lacking (with_name words p.0) other ≡ false =
        ap (is_lacking (with_name words p.0)) ((bytes_decides other p.0).0 e) ∙ set_is_set words (number_of p.0) whole (number_below p.0) in
        absurd (true≢false (sym (lacking_start (names ps) (with_name words p.0) other (whole_with words (number_of p.0) whole) h) ∙ now))
    value rest other h false e = rest.flagged other h

    by : IsFlagged (with_names (with_name words p.0) (names ps)) ps → IsFlagged (with_names words (names (p ∷ ps))) (p ∷ ps)
    by rest = record { whole = rest.whole; flagged = λ other h. value rest other h (same_text other p.0) refl }

pub all_flagged : (pairs : List Pair) → IsFlagged (with_names none_set (names pairs)) pairs
all_flagged pairs = all_flagged_over none_set pairs refl
