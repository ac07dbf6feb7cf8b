-- After the end of a text no word begins.
use Rattle.std.proofs.Common.{◌≡◌, ◌⊎◌, inl, inr, ℕ, zero, suc, ◌<◌, ◌≤◌, ◌==◌, true, [], drop, length, sym, subst, ap, ◌∙◌, arith}
use Rattle.std.proofs.lemmas.Bool.{cases_lt, eqb-true}
use Rattle.std.proofs.lemmas.List.{nil_from_length}
use Rattle.text_bytes.specs.Names.{is_whitespace}
use Rattle.text_bytes.specs.Texts.{skip_while}
use Rattle.text_bytes.specs.Text.{Text}
use Rattle.eval_rendering.specs.Words.{from_word, word_len}

-- if nothing is left from a word on, nothing is left from a later one on
stays_empty : (number passed : ℕ) (text : Text) → passed ≤ number → from_word passed text ≡ [] → from_word number text ≡ []
stays_empty zero passed text le e = let same : passed ≡ 0 = omega arith in subst (λ n. from_word n text ≡ []) same e
stays_empty (suc number) passed text le e = by (λ before. stays_empty number passed text before e) (cases_lt passed (suc number))
  where
    by : (passed ≤ number → from_word number text ≡ []) → (passed < suc number) ⊎ (suc number ≤ passed) → from_word (suc number) text ≡ []
    by nothing (inl less) = ap (λ rest. skip_while is_whitespace (drop (word_len rest) rest)) (nothing (omega (arith, less)))
    by nothing (inr more) = let same : passed ≡ suc number = omega (arith, le, more) in subst (λ n. from_word n text ≡ []) same e

pub nothing_begins_after : (number passed : ℕ) (text : Text) → passed ≤ number → (length (from_word passed text) == 0) ≡ true → from_word passed text ≡ from_word number text
nothing_begins_after number passed text le empty =
    let nothing : from_word passed text ≡ [] = nil_from_length (from_word passed text) (eqb-true (length (from_word passed text)) 0 empty) in
    nothing ∙ sym (stays_empty number passed text le nothing)
