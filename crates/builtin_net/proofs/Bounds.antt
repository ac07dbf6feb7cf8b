-- A number that is read has its bound.
use Rattle.std.proofs.Common.{◌≡◌, ℕ, ◌≤◌, ◌==◌, ◌&&◌, not, Bool, true, false, Option, Some, None, cond, nat_le, IfSome, List, refl, subst, sym}
use Rattle.std.specs.Prelude.{option_and_then}
use Rattle.std.specs.List.{list_all}
use Rattle.text_bytes.specs.Names.{minus, is_whitespace}
use Rattle.text_bytes.specs.Texts.{begins_with, is_empty, skip_while}
use Rattle.builtin_devices.specs.Numbers.{digits_in, is_digit_in, natural, number_after, number_in, size_in, unsigned, written}
use Rattle.builtin_devices.specs.declared.numbers.Base.{Base}
use Rattle.std.proofs.lemmas.Bool.{leb-true}

under : (v most : ℕ) (b : Bool) → nat_le v most ≡ b → IfSome (cond b (Some v) None) (λ n. n ≤ most)
under v most true e = leb-true v most e
under v most false e = tt

held : (a : Bool) (v most : ℕ) → IfSome (cond (a && nat_le v most) (Some v) None) (λ n. n ≤ most)
held true v most = under v most (nat_le v most) refl
held false v most = tt

digits_below : (base most : ℕ) (text : List ℕ) → IfSome (digits_in base most text) (λ n. n ≤ most)
unfolding digits_in
digits_below base most text = held (not (is_empty text) && list_all (is_digit_in base) text) (number_after base 0 text) most

picked : (n most : ℕ) (b : Bool) → n ≤ most → IfSome (cond b None (Some n)) (λ m. m ≤ most)
picked n most true h = tt
picked n most false h = h

natural_below : (negative : Bool) (size : Option ℕ) (most : ℕ) → IfSome size (λ n. n ≤ most) → IfSome (option_and_then (natural negative) size) (λ n. n ≤ most)
natural_below negative None most h = tt
natural_below negative (Some n) most h = picked n most (negative && not (n == 0)) h

bounded : (base : Base) (most : ℕ) (text : List ℕ) → IfSome (number_in base most text) (λ n. n ≤ most)
unfolding number_in
bounded base most text =
    let bare = skip_while is_whitespace text in
    natural_below (begins_with minus bare) (size_in base most bare) most
    (digits_below (written base (unsigned bare)).base most (written base (unsigned bare)).digits)

pub number_below : (base : Base) (most : ℕ) (text : List ℕ) (n : ℕ) → Some n ≡ number_in base most text → n ≤ most
number_below base most text n e = subst (λ (r : Option ℕ). IfSome r (λ m. m ≤ most)) (sym e) (bounded base most text)
