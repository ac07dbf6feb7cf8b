-- A code has no blanks before it and no whitespace after it.
use Rattle.std.proofs.Common.{◌≡◌, ℕ, zero, suc, ◌+◌, ◌-◌, ◌<◌, ◌≤◌, Bool, true, false, cond, [], ◌∷◌, length, take, drop, get_or, reverse, nat_lt, refl, ap, sym, ◌∙◌, arith}
use Rattle.std.specs.List.{prefix_len, suffix_len}
use Rattle.std.proofs.lemmas.Bool.{ltb-true, ltb-false}
use Rattle.std.proofs.lemmas.List.{get_or-reverse, length-reverse, take_all}
use Rattle.std.proofs.lemmas.List.Sums.{prefix_len-drop_all, prefix_len-drop_no, prefix_len_stops, suffix_len-le-length, suffix_len-take_no}
use Rattle.text_bytes.specs.Names.{is_blank, is_whitespace}
use Rattle.text_bytes.specs.Texts.{trimmed, unindented}
use Rattle.text_bytes.specs.Text.{Text}
use Rattle.engine_checks.specs.Ignores.{code_in}

module _ (p : ℕ → Bool) where
  none_left : (text : Text) → prefix_len p (drop (prefix_len p text) text) ≡ 0
  none_left text = by (nat_lt (prefix_len p text) (length text)) refl
    where
      by : (b : Bool) → nat_lt (prefix_len p text) (length text) ≡ b → prefix_len p (drop (prefix_len p text) text) ≡ 0
      by true e = let h : prefix_len p text < length text = ltb-true _ _ e in prefix_len-drop_no p text (prefix_len p text) 0 h (prefix_len_stops p text 0 h)
      by false e = prefix_len-drop_all p text (prefix_len p text) (ltb-false _ _ e)

  none_at_start : (text : Text) (n : ℕ) → prefix_len p text ≡ 0 → prefix_len p (take n text) ≡ 0
  none_at_start [] zero h = refl
  none_at_start [] (suc n) h = refl
  none_at_start (b ∷ text) zero h = refl
  none_at_start (b ∷ text) (suc n) h = by (p b) h
    where
      by : (v : Bool) → cond v (1 + prefix_len p text) 0 ≡ 0 → cond v (1 + prefix_len p (take n text)) 0 ≡ 0
      by true h = absurd (omega (arith, h))
      by false h = refl

  none_at_end : (text : Text) (n : ℕ) → n ≡ length text - suffix_len p text → suffix_len p (take n text) ≡ 0
  none_at_end text zero is = refl
  none_at_end text (suc n) is =
      let passed : suffix_len p text ≤ length text = suffix_len-le-length p text in
      let inside : suffix_len p text < length text = omega arith in
      let reversed : suffix_len p text < length (reverse text) = omega (arith, length-reverse text) in
      let last : get_or (reverse text) (suffix_len p text) 0 ≡ get_or text (length text - 1 - suffix_len p text) 0 = get_or-reverse text (suffix_len p text) 0 inside in
      let place : length text - 1 - suffix_len p text ≡ suc n - 1 = omega arith in
      suffix_len-take_no p text (suc n) 0 (omega arith) (omega arith)
      (ap (λ (k : ℕ). p (get_or text k 0)) (sym place) ∙ ap p (sym last) ∙ prefix_len_stops p (reverse text) 0 reversed)

pub prefix_bare : (text : Text) → unindented (code_in text) ≡ code_in text
prefix_bare text =
    ap (λ n. drop n (code_in text)) (none_at_start is_blank (unindented text) (length (unindented text) - suffix_len is_whitespace (unindented text)) (none_left is_blank text))

trimmed_twice : (text : Text) → trimmed (trimmed text) ≡ trimmed text
trimmed_twice text =
    ap (λ n. take (length (trimmed text) - n) (trimmed text)) (none_at_end is_whitespace text (length text - suffix_len is_whitespace text) refl)
    ∙ take_all (length (trimmed text) - 0) (trimmed text) (omega arith)

pub back_bare : (text : Text) → trimmed (code_in text) ≡ code_in text
back_bare text = trimmed_twice (unindented text)
