-- Rows that are kept from the last one to the first.
use Rattle.std.proofs.Common.{◌≡◌, ℕ, suc, List, [], ◌∷◌, ◌++◌, length, take, drop, reverse, ap, sym, ◌∙◌, arith, append_assoc}
use Rattle.std.proofs.lemmas.List.{length-reverse, reverse-append, take_all}
use Rattle.std.proofs.lemmas.List.Folds.{concat-append}
use Rattle.std.specs.List.{concat}
use Rattle.text_bytes.specs.Text.{Text}
use Rattle.lsp_messages.specs.Whole.{in_order}

reversed_more : (rest : List Text) (row : Text) → reverse (rest ++ row ∷ []) ≡ row ∷ reverse rest
reversed_more rest row = reverse-append rest (row ∷ [])

-- one row more is taken from them
pub one_taken : (count left : ℕ) (rows rest : List Text) (text row all : Text) → count ≡ suc left → rows ≡ rest ++ row ∷ [] → text ++ concat (take count (reverse rows)) ≡ all
    → (text ++ row) ++ concat (take left (reverse rest)) ≡ all
one_taken count left rows rest text row all is parts before =
    append_assoc text row (concat (take left (reverse rest)))
    ∙ ap (λ r. text ++ concat (take (suc left) r)) (sym (ap reverse parts ∙ reversed_more rest row))
    ∙ ap (λ n. text ++ concat (take n (reverse rows))) (sym is)
    ∙ before

-- and one row fewer is left
pub one_left : (count left : ℕ) (rows rest all : List Text) (row : Text) → count ≡ suc left → rows ≡ rest ++ row ∷ [] → drop count (reverse rows) ≡ all → drop left (reverse rest) ≡ all
one_left count left rows rest all row is parts before =
    ap (drop (suc left)) (sym (ap reverse parts ∙ reversed_more rest row)) ∙ ap (λ n. drop n (reverse rows)) (sym is) ∙ before

-- the text of all rows: that of those before the place, and then that of all after it
pub all_joined : (before after : List Text) (n : ℕ) (first whole : Text) → n ≡ length after → first ≡ concat before → whole ≡ first ++ concat (take n (reverse after))
    → whole ≡ concat (in_order before after)
all_joined before after n first whole count front back =
    back ∙ ap (λ t. t ++ concat (take n (reverse after))) front
    ∙ ap (λ rows. concat before ++ concat rows) (take_all n (reverse after) (omega (arith, length-reverse after, count)))
    ∙ sym (concat-append before (reverse after))

-- if no rows are to come, and none are after the place, those before it are all
pub all_before : (before after left rows : List Text) → left ≡ [] → after ≡ [] → before ++ left ≡ rows → in_order before after ≡ rows
all_before before after left rows none_left none_after all =
    ap (λ more. before ++ reverse more) none_after ∙ ap (λ more. before ++ more) (sym none_left) ∙ all
