-- Words that are added in several steps.
use Rattle.std.proofs.Common.{◌≡◌, List, ◌++◌, ap, sym, ◌∙◌}
use Rattle.std.proofs.lemmas.List.Sums.{fold-append}
use Rattle.text_bytes.specs.Text.{Text}
use Rattle.text_tables.specs.Texts.{with_text, with_texts}

two_more : (held a b : List Text) → with_texts (with_texts held a) b ≡ with_texts held (a ++ b)
two_more held a b = sym (fold-append with_text held a b)

pub three_more : (held a b c : List Text) → with_texts (with_texts (with_texts held a) b) c ≡ with_texts held (a ++ b ++ c)
three_more held a b c = ap (λ (l : List Text). with_texts l c) (two_more held a b) ∙ two_more held (a ++ b) c

four_more : (held a b c d : List Text) → with_texts (with_texts (with_texts (with_texts held a) b) c) d ≡ with_texts held (a ++ b ++ c ++ d)
four_more held a b c d = ap (λ (l : List Text). with_texts l d) (three_more held a b c) ∙ two_more held (a ++ b ++ c) d

pub five_more : (held a b c d e : List Text)
    → with_texts (with_texts (with_texts (with_texts (with_texts held a) b) c) d) e ≡ with_texts held ((a ++ b ++ c ++ d) ++ e)
five_more held a b c d e = ap (λ (l : List Text). with_texts l e) (four_more held a b c d) ∙ two_more held (a ++ b ++ c ++ d) e
