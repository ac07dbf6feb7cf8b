-- How far a symbol reaches, from one byte to the next.
use Rattle.std.proofs.Common.{◌≡◌, ℕ, suc, ◌+◌, ◌<◌, ◌≤◌, Bool, true, false, ◌==◌, ◌&&◌, cond, not, List, ◌∷◌, [], length, drop, Option, Some, None, ltb, refl, sym, ◌∙◌, ap, arith}
use Rattle.std.specs.List.{position, position_or_len, zip}
use Rattle.std.specs.Option.{IfSome, option_map}
use Rattle.std.proofs.lemmas.Option.{none-some}
use Rattle.std.proofs.lemmas.Bool.{lt-ltb, le-ltb, ltb-true, ltb-false}
use Rattle.std.proofs.lemmas.Slice.Zip.{length-zip}
use Rattle.text_bytes.specs.Names.{close_bracket, dot}
use Rattle.text_core.specs.Elements.{is_ended, symbol_len}
use Rattle.text_core.proofs.Cutting.{position-lt}

-- a place that is one greater
shifted : (m n : ℕ) → cond (ltb (1 + m) (suc n)) (Some (1 + m)) None ≡ option_map (λ k. k + 1) (cond (ltb m n) (Some m) None)
shifted m n = by_test (ltb m n) refl where
  greater : 1 + m ≡ m + 1
  greater = omega arith

  by_test : (v : Bool) → ltb m n ≡ v → cond (ltb (1 + m) (suc n)) (Some (1 + m)) None ≡ option_map (λ k. k + 1) (cond v (Some m) None)
  by_test true e =
      let less : m < n = ltb-true m n e in
      let more : 1 + m < suc n = omega arith in
      ap (λ (w : Bool). cond w (Some (1 + m)) None) (lt-ltb (1 + m) (suc n) more) ∙ ap Some greater
  by_test false e =
      let least : n ≤ m = ltb-false m n e in
      let more : suc n ≤ 1 + m = omega arith in
      ap (λ (w : Bool). cond w (Some (1 + m)) None) (le-ltb (1 + m) (suc n) more)

position-cons : {X : Type 0} (p : X → Bool) (x : X) (xs : List X) → position p (x ∷ xs) ≡ cond (p x) (Some 0) (option_map (λ n. n + 1) (position p xs))
position-cons p x xs =
    let here : 0 < suc (length xs) = omega arith in
    elim (p x) as (λ v. cond (ltb (cond (not v) (1 + position_or_len p xs) 0) (suc (length xs))) (Some (cond (not v) (1 + position_or_len p xs) 0)) None ≡ cond v (Some 0) (option_map (λ n. n + 1) (position p xs))) [
      | true ↦ ap (λ (w : Bool). cond w (Some 0) None) (lt-ltb 0 (suc (length xs)) here)
      | false ↦ shifted (position_or_len p xs) (length xs)
    ]

-- the two bytes that end a symbol
abbrev ends : ℕ × ℕ → Bool
ends pair = pair.0 == dot && pair.1 == close_bracket

-- the first `.]` is here, or after the first byte
pub symbol_len-next : (t : List ℕ) → symbol_len t ≡ cond (is_ended dot t) (Some 0) (option_map (λ n. n + 1) (symbol_len (drop 1 t)))
unfolding symbol_len
symbol_len-next [] = refl
symbol_len-next (b ∷ []) = refl
symbol_len-next (b ∷ c ∷ t) = position-cons ends (b, c) (zip (c ∷ t) t)

-- a `.]` is within its text
pub symbol_len-within : (t : List ℕ) (n : ℕ) → symbol_len t ≡ Some n → n + 2 ≤ length t
unfolding symbol_len
symbol_len-within [] n e = absurd (none-some n e)
symbol_len-within (b ∷ t) n e =
    let within : n < length (zip (b ∷ t) t) = position-lt ends (zip (b ∷ t) t) n e in
    omega (arith, length-zip (b ∷ t) t)

pub symbol_len-fits : (t : List ℕ) (r : Option ℕ) → r ≡ symbol_len t → IfSome r (λ n. n + 2 ≤ length t)
symbol_len-fits t None e = tt
symbol_len-fits t (Some n) e = symbol_len-within t n (sym e)

-- nothing has no `.]`
pub symbol_len-none : None ≡ symbol_len []
unfolding symbol_len
symbol_len-none = refl

pub symbol_len-empty : (t : List ℕ) → length t ≡ 0 → None ≡ symbol_len t
symbol_len-empty [] h = symbol_len-none
symbol_len-empty (b ∷ t) h = absurd (omega arith)

pub symbol_len-here : (t : List ℕ) → is_ended dot t ≡ true → Some 0 ≡ symbol_len t
symbol_len-here t ended = sym (symbol_len-next t ∙ ap (λ (v : Bool). cond v (Some 0) (option_map (λ n. n + 1) (symbol_len (drop 1 t)))) ended)

pub symbol_len-following : (t after : List ℕ) (b : ℕ) (r : Option ℕ) → t ≡ b ∷ after → is_ended dot t ≡ false → r ≡ symbol_len after → option_map (λ n. n + 1) r ≡ symbol_len t
symbol_len-following t after b r e ended read =
    ap (option_map (λ n. n + 1)) (read ∙ sym (ap (λ (s : List ℕ). symbol_len (drop 1 s)) e))
    ∙ sym (symbol_len-next t ∙ ap (λ (v : Bool). cond v (Some 0) (option_map (λ n. n + 1) (symbol_len (drop 1 t)))) ended)
