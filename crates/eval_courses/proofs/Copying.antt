-- Names that are set one after another, each once, are in the order in which they were set.
use Rattle.std.proofs.Common.{◌≡◌, Bool, true, false, List, [], ◌∷◌, cond, refl, ap, sym, ◌∙◌, true≢false}
use Rattle.std.specs.Cmp.Lexicographic.{bytes_decides}
use Rattle.std.specs.List.{AllByRecursion, IsDistinct}
use Rattle.text_bytes.specs.Text.{Text}
use Rattle.text_tables.specs.Texts.{same_text, AreOnce}
use Rattle.text_tables.specs.Pairs.{Pair, names, with_value, with_values}

-- of two texts that are not the same the second is not the same as the first
apart : (a b : Text) → same_text a b ≡ false → same_text b a ≡ false
apart a b h = by (same_text b a) refl
  where
    by : (c : Bool) → same_text b a ≡ c → c ≡ false
    by true e = absurd (true≢false (sym ((bytes_decides a b).1 (sym ((bytes_decides b a).0 e))) ∙ h))
    by false e = refl

-- a name that none of those that are set is stays in front
prepended : (p : Pair) (held more : List Pair) → AllByRecursion (λ name. same_text p.0 name ≡ false) (names more) → with_values (p ∷ held) more ≡ p ∷ with_values held more
prepended p held [] h = refl
prepended p held (m ∷ ms) h =
    ap (λ b. with_values (cond b ((p.0, m.1) ∷ held) (p ∷ with_value held m.0 m.1)) ms) (apart p.0 m.0 h.0)
    ∙ prepended p (with_value held m.0 m.1) ms h.1

-- names that are set when there were none, each once
pub set_anew : (pairs : List Pair) → AreOnce (names pairs) → with_values [] pairs ≡ pairs
unfolding IsDistinct
set_anew [] h = refl
set_anew (p ∷ ps) h = prepended p [] ps h.0 ∙ ap (λ qs. p ∷ qs) (set_anew ps h.1)
