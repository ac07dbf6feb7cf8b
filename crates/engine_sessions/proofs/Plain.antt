-- Texts in which nothing has to be escaped.
use Rattle.std.proofs.Common.{◌≡◌, ℕ, Bool, true, false, not, ◌&&◌, List, [], ◌∷◌, ◌++◌, arith, refl, ap, sym, ◌∙◌}
use Rattle.std.proofs.lemmas.List.Folds.{list_all-append}
use Rattle.std.proofs.lemmas.List.Sums.{AllPass-from_list_all}
use Rattle.std.specs.List.{list_all}
use Rattle.text_bytes.specs.Escapes.{escape_text, is_escaped}
use Rattle.text_bytes.proofs.Escaping.{escape_text-same}

stays : (escaped : Bool) → not escaped ≡ true → escaped ≡ false
stays escaped h = grind (arith, h)

-- such a text is written as it is
pub plain_is_same : (text : List ℕ) → list_all (λ b. not (is_escaped b)) text ≡ true → escape_text text ≡ text
plain_is_same text h = escape_text-same text (λ k d l. stays _ (AllPass-from_list_all (λ b. not (is_escaped b)) text h k d l))

-- whether no byte of a text has to be escaped
abbrev pub are_plain : List ℕ → Bool
are_plain text = list_all (λ b. not (is_escaped b)) text

and_true : (b : Bool) → (b && true) ≡ b
and_true true = refl
and_true false = refl

-- the same of a text with one more byte
pub one_more : (plain : Bool) (text : List ℕ) (b : ℕ) → plain ≡ are_plain text → (plain && not (is_escaped b)) ≡ are_plain (text ++ b ∷ [])
one_more plain text b h = ap (λ (p : Bool). p && not (is_escaped b)) h ∙ ap (λ (p : Bool). are_plain text && p) (sym (and_true (not (is_escaped b))))
    ∙ sym (list_all-append (λ b. not (is_escaped b)) text (b ∷ []))
