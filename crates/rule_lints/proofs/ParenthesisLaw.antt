-- What follows the last such byte of a text.
use Rattle.std.proofs.Common.{◌≡◌, ℕ, ◌+◌, ◌-◌, ◌==◌, suc, Bool, true, false, cond, not, ◌||◌, List, [], ◌∷◌, ◌++◌, length, drop, reverse, refl, ap, sym, ◌∙◌, ◌↔◌, arith, append_assoc, length-append, inl, inr, ◌⊎◌}
use Rattle.std.proofs.lemmas.Bool.{or_left, or_right, eqb-true, eq-eqb, false≢true}
use Rattle.std.proofs.lemmas.List.{reverse-append, length-reverse}
use Rattle.std.proofs.lemmas.List.Folds.{list_any-append}
use Rattle.std.proofs.lemmas.List.Sorted.{IsPermutation-reverse, list_any-IsPermutation}
use Rattle.std.specs.List.{prefix_len, suffix_len}
use Rattle.rule_lints.specs.Laws.{HasOpenParenthesis}
use Rattle.rule_lints.specs.Patterns.{close_parenthesis, has_open_parenthesis, open_parenthesis}
use Rattle.rule_lints.specs.Texts.{has_byte, rest_after_last}
use Rattle.rule_lints.proofs.BraceLaw.{Parted, parted}

-- whether a byte is another
abbrev is_other : ℕ → ℕ → Bool
is_other byte b = not (b == byte)

neither : (a b : Bool) → (a || b) ≡ false → (a ≡ false) × (b ≡ false)
neither true b h = absurd (false≢true (sym h))
neither false b h = (refl, h)

none_len : (byte : ℕ) (text : List ℕ) → has_byte byte text ≡ false → prefix_len (is_other byte) text ≡ length text
none_len byte [] h = refl
none_len byte (b ∷ text) h =
    let both = neither (b == byte) (has_byte byte text) h in
    let more = none_len byte text both.1 in
    let here = ap (λ (c : Bool). cond (not c) (1 + prefix_len (is_other byte) text) 0) both.0 in
    let one : 1 + prefix_len (is_other byte) text ≡ length (b ∷ text) = omega (arith, more) in
    here ∙ one

stop_len : (byte : ℕ) (text rest : List ℕ) → has_byte byte text ≡ false → prefix_len (is_other byte) (text ++ byte ∷ rest) ≡ length text
stop_len byte [] rest h = ap (λ (c : Bool). cond (not c) (1 + prefix_len (is_other byte) rest) 0) (eq-eqb byte byte refl)
stop_len byte (b ∷ text) rest h =
    let both = neither (b == byte) (has_byte byte text) h in
    let more = stop_len byte text rest both.1 in
    let here = ap (λ (c : Bool). cond (not c) (1 + prefix_len (is_other byte) (text ++ byte ∷ rest)) 0) both.0 in
    let one : 1 + prefix_len (is_other byte) (text ++ byte ∷ rest) ≡ length (b ∷ text) = omega (arith, more) in
    here ∙ one

none_back : (byte : ℕ) (text : List ℕ) → has_byte byte text ≡ false → has_byte byte (reverse text) ≡ false
none_back byte text h = sym (list_any-IsPermutation (λ b. b == byte) text (reverse text) (IsPermutation-reverse text)) ∙ h

after_none : (byte : ℕ) (text : List ℕ) → has_byte byte text ≡ false → rest_after_last byte text ≡ text
after_none byte text h =
    let whole = none_len byte (reverse text) (none_back byte text h) in
    let same = length-reverse text in
    let e : length text - suffix_len (is_other byte) text ≡ 0 = omega (arith, whole, same) in
    ap (λ (k : ℕ). drop k text) e

drop_after : (byte : ℕ) (before rest : List ℕ) → drop (length before + 1) (before ++ byte ∷ rest) ≡ rest
drop_after byte [] rest = refl
drop_after byte (b ∷ before) rest =
    let e : length (b ∷ before) + 1 ≡ suc (length before + 1) = omega arith in
    ap (λ (k : ℕ). drop k (b ∷ (before ++ byte ∷ rest))) e ∙ drop_after byte before rest

reversed : (byte : ℕ) (before rest : List ℕ) → reverse (before ++ byte ∷ rest) ≡ reverse rest ++ byte ∷ reverse before
reversed byte before rest =
    reverse-append before (byte ∷ rest)
    ∙ ap (λ (z : List ℕ). z ++ reverse before) (reverse-append (byte ∷ []) rest)
    ∙ append_assoc (reverse rest) (byte ∷ []) (reverse before)

after_cut : (byte : ℕ) (before rest : List ℕ) → has_byte byte rest ≡ false → rest_after_last byte (before ++ byte ∷ rest) ≡ rest
after_cut byte before rest h =
    let text = before ++ byte ∷ rest in
    let size = ap (λ (z : List ℕ). prefix_len (is_other byte) z) (reversed byte before rest) ∙ stop_len byte (reverse rest) (reverse before) (none_back byte rest h) in
    let same = length-reverse rest in
    let all = length-append before (byte ∷ rest) in
    let e : length text - suffix_len (is_other byte) text ≡ length before + 1 = omega (arith, size, same, all) in
    ap (λ (k : ℕ). drop k text) e ∙ drop_after byte before rest

-- a text that has a byte, with what follows the last of it
record Cut (byte : ℕ) (text : List ℕ) : Type 0 where
  before : List ℕ
  rest : List ℕ
  none : has_byte byte rest ≡ false
  whole : text ≡ before ++ byte ∷ rest

cut : (byte : ℕ) (text : List ℕ) → (has_byte byte text ≡ false) ⊎ Cut byte text
cut byte [] = inl refl
cut byte (b ∷ text) = by (b == byte) refl (cut byte text)
  where
    by : (c : Bool) → (b == byte) ≡ c → (has_byte byte text ≡ false) ⊎ Cut byte text → (has_byte byte (b ∷ text) ≡ false) ⊎ Cut byte (b ∷ text)
    by c e (inr more) = inr (record { before = b ∷ more.before; rest = more.rest; none = more.none; whole = ap (λ (t : List ℕ). b ∷ t) more.whole })
    by true e (inl none) = inr (record { before = []; rest = text; none = none; whole = ap (λ (x : ℕ). x ∷ text) (eqb-true b byte e) })
    by false e (inl none) = inl (ap (λ (c : Bool). c || has_byte byte text) e ∙ none)

-- what has no byte has none at its end
none_after : (byte other : ℕ) (before after : List ℕ) → has_byte byte (before ++ other ∷ after) ≡ false → has_byte byte after ≡ false
none_after byte other before after h =
    let both = neither (has_byte byte before) (has_byte byte (other ∷ after)) (sym (list_any-append (λ b. b == byte) before (other ∷ after)) ∙ h) in
    (neither (other == byte) (has_byte byte after) both.1).1

has_it : (byte : ℕ) (before after : List ℕ) → has_byte byte (before ++ byte ∷ after) ≡ true
has_it byte [] after = or_left (byte == byte) (has_byte byte after) (eq-eqb byte byte refl)
has_it byte (b ∷ before) after = or_right (b == byte) (has_byte byte (before ++ byte ∷ after)) (has_it byte before after)

of_rest : (prefix text rest : List ℕ) → text ≡ prefix ++ rest → has_byte close_parenthesis rest ≡ false → Parted open_parenthesis rest → HasOpenParenthesis text
of_rest prefix text rest e none p =
    record {
      before = prefix ++ p.before;
      following = p.after;
      none = none_after close_parenthesis open_parenthesis p.before p.after (ap (has_byte close_parenthesis) (sym p.whole) ∙ none);
      whole = e ∙ ap (λ (t : List ℕ). prefix ++ t) p.whole ∙ sym (append_assoc prefix p.before (open_parenthesis ∷ p.after));
    }

from_sign : (text : List ℕ) → has_open_parenthesis text ≡ true → HasOpenParenthesis text
from_sign text h = by (cut close_parenthesis text)
  where
    by : (has_byte close_parenthesis text ≡ false) ⊎ Cut close_parenthesis text → HasOpenParenthesis text
    by (inl none) = of_rest [] text text refl none (parted open_parenthesis text (ap (has_byte open_parenthesis) (sym (after_none close_parenthesis text none)) ∙ h))
    by (inr c) =
        let same = ap (rest_after_last close_parenthesis) c.whole ∙ after_cut close_parenthesis c.before c.rest c.none in
        of_rest (c.before ++ close_parenthesis ∷ []) text c.rest (c.whole ∙ sym (append_assoc c.before (close_parenthesis ∷ []) c.rest)) c.none
        (parted open_parenthesis c.rest (ap (has_byte open_parenthesis) (sym same) ∙ h))

-- nothing closes what follows
open_none : (before following : List ℕ) → has_byte close_parenthesis before ≡ false → has_byte close_parenthesis following ≡ false → has_byte close_parenthesis (before ++ open_parenthesis ∷ following) ≡ false
open_none before following h g =
    list_any-append (λ b. b == close_parenthesis) before (open_parenthesis ∷ following)
    ∙ ap (λ (c : Bool). c || has_byte close_parenthesis following) h
    ∙ g

from_text : (before following : List ℕ) → has_byte close_parenthesis following ≡ false → has_open_parenthesis (before ++ open_parenthesis ∷ following) ≡ true
from_text before following h = by (cut close_parenthesis before)
  where
    by : (has_byte close_parenthesis before ≡ false) ⊎ Cut close_parenthesis before → has_open_parenthesis (before ++ open_parenthesis ∷ following) ≡ true
    by (inl none) =
        ap (has_byte open_parenthesis) (after_none close_parenthesis (before ++ open_parenthesis ∷ following) (open_none before following none h))
        ∙ has_it open_parenthesis before following
    by (inr c) =
        let whole = ap (λ (t : List ℕ). t ++ open_parenthesis ∷ following) c.whole ∙ append_assoc c.before (close_parenthesis ∷ c.rest) (open_parenthesis ∷ following) in
        let same = ap (rest_after_last close_parenthesis) whole ∙ after_cut close_parenthesis c.before (c.rest ++ open_parenthesis ∷ following) (open_none c.rest following c.none h) in
        ap (has_byte open_parenthesis) same ∙ has_it open_parenthesis c.rest following

pub parentheses : (text : List ℕ) → (has_open_parenthesis text ≡ true) ↔ HasOpenParenthesis text
parentheses text = (from_sign text, λ p. ap has_open_parenthesis p.whole ∙ from_text p.before p.following p.none)
