-- A text without a NUL byte has none in any of its lines.
use Rattle.std.proofs.Common.{◌≡◌, ℕ, suc, ◌+◌, Bool, true, false, cond, not, ◌||◌, ◌==◌, nat_lt, List, [], ◌∷◌, length, is_some, Some, None, refl, ap, sym, ◌∙◌, arith}
use Rattle.std.specs.List.{onto_first, position_or_len}
use Rattle.text_bytes.specs.Names.{newline, nul}
use Rattle.text_bytes.specs.Lines.{lines}
use Rattle.device_core.specs.Faults.{has_nul}
use Rattle.device_core.specs.Steps.{HaveNoNul}

is_there : (b : Bool) (n : ℕ) → is_some (cond b (Some n) None) ≡ b
is_there true n = refl
is_there false n = refl

-- a text has a NUL byte if it begins with one, or if what follows has one
has_nul_after : (b : ℕ) (text : List ℕ) → has_nul (b ∷ text) ≡ ((b == nul) || has_nul text)
unfolding has_nul
has_nul_after b text =
    is_there (nat_lt (position_or_len (λ c. c == nul) (b ∷ text)) (length (b ∷ text))) (position_or_len (λ c. c == nul) (b ∷ text))
    ∙ by (b == nul)
    ∙ ap (λ t. (b == nul) || t) (sym (is_there (nat_lt (position_or_len (λ c. c == nul) text) (length text)) (position_or_len (λ c. c == nul) text)))
  where
    by : (t : Bool) → nat_lt (cond (not t) (1 + position_or_len (λ c. c == nul) text) 0) (suc (length text)) ≡ (t || nat_lt (position_or_len (λ c. c == nul) text) (length text))
    by true = grind arith
    by false = grind arith

parts : (b : ℕ) (text : List ℕ) → has_nul (b ∷ text) ≡ false → ((b == nul) ≡ false) × (has_nul text ≡ false)
parts b text h = by (b == nul) (sym (has_nul_after b text) ∙ h)
  where
    by : (t : Bool) → (t || has_nul text) ≡ false → (t ≡ false) × (has_nul text ≡ false)
    by true e = absurd (cc e)
    by false e = (refl, e)

none_in_empty : has_nul [] ≡ false
unfolding has_nul
none_in_empty = refl

onto : (b : ℕ) (ls : List (List ℕ)) → (b == nul) ≡ false → HaveNoNul ls → HaveNoNul (onto_first b ls)
onto b [] e h = (has_nul_after b [] ∙ ap (λ t. t || has_nul []) e ∙ none_in_empty, tt)
onto b (line ∷ ls) e h = (has_nul_after b line ∙ ap (λ t. t || has_nul line) e ∙ h.0, h.1)

-- no line of a text without a NUL byte has one
pub none_in_lines : (text : List ℕ) → has_nul text ≡ false → HaveNoNul (lines text)
none_in_lines [] h = tt
none_in_lines (b ∷ text) h = by (b == newline) (parts b text h).0 (none_in_lines text (parts b text h).1)
  where
    by : (t : Bool) → (b == nul) ≡ false → HaveNoNul (lines text) → HaveNoNul (cond t ([] ∷ lines text) (onto_first b (lines text)))
    by true e more = (none_in_empty, more)
    by false e more = onto b (lines text) e more
