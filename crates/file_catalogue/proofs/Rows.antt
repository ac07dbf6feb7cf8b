-- The rows of the tables, and what they have.
use Rattle.std.proofs.Common.{◌≡◌, ◌∙◌, Bool, ◌||◌, List, [], ◌∷◌, ◌++◌, Option, Some, None, ap, filter, find, map, nat_eq, option_map, refl, sym}
use Rattle.std.specs.Borrow.{Bor}
use Rattle.std.specs.List.{list_any}
use Rattle.std.proofs.lemmas.List.Elements.{filter-append}
use Rattle.std.proofs.lemmas.List.Folds.{find-append, list_any-append}
use Rattle.std.specs.Option.{option_or}
use Rattle.text_bytes.specs.Text.{Text}
use Rattle.text_bytes.proofs.Seen.{any_seen}
use Rattle.file_catalogue.specs.declared.remark.Remark.{Remark}
use Rattle.file_catalogue.specs.Catalogue.{Row, all_codes, catalogue, lints, messages, remarks, row_of}
use Rattle.file_catalogue.proofs.Found.{found_seen}

-- a row of a table
abbrev pub TableRow : Type 0
TableRow = Remark × Bor Text × Bor Text × Bor Text

-- what is found in the first of two lists, and what is found in the second if the first has none
pub in_first : {A : Type 0} (p : A → Bool) (xs ys : List A) (x : A) → Some x ≡ find p xs → Some x ≡ find p (xs ++ ys)
in_first p xs ys x e = ap (λ o. option_or o (find p ys)) e ∙ sym (find-append p xs ys)

pub in_second : {A : Type 0} (p : A → Bool) (xs ys : List A) (found : Option A) → None ≡ find p xs → found ≡ find p ys → found ≡ find p (xs ++ ys)
in_second p xs ys found none e = e ∙ ap (λ o. option_or o (find p ys)) none ∙ sym (find-append p xs ys)

-- what is found among the elements of a table is found among what they are seen as
pub seen_found : {A B : Type 0} (p : B → Bool) (f : A → B) (xs : List A) (part : List B) (found : Option A) → found ≡ find (λ x. p (f x)) xs
    → map f xs ≡ part → option_map f found ≡ find p part
seen_found p f xs part found is e = found_seen p f xs found is ∙ ap (find p) e

-- what the rows of two tables have is what all rows have
pub of_two : {A : Type 0} (g : Row → A) (one other : List TableRow) → map row_of one ≡ messages → map row_of other ≡ lints
    → map (λ row. g (row_of row)) one ++ map (λ row. g (row_of row)) other ≡ map g catalogue
of_two g one other m l = both one other ∙ ap (λ rows. map g (rows ++ map row_of other)) m ∙ ap (λ rows. map g (messages ++ rows)) l
  where
    seen : (rows : List TableRow) → map (λ row. g (row_of row)) rows ≡ map g (map row_of rows)
    seen [] = refl
    seen (row ∷ rows) = ap (λ ys. g (row_of row) ∷ ys) (seen rows)

    both : (one other : List TableRow) → map (λ row. g (row_of row)) one ++ map (λ row. g (row_of row)) other ≡ map g (map row_of one ++ map row_of other)
    both [] other = seen other
    both (row ∷ one) other = ap (λ ys. g (row_of row) ∷ ys) (both one other)

pub remarks_of_two : (one other : List TableRow) → map row_of one ≡ messages → map row_of other ≡ lints → map (λ row. row.0) one ++ map (λ row. row.0) other ≡ remarks
unfolding remarks
remarks_of_two = of_two (λ row. row.remark)

pub codes_of_two : (one other : List TableRow) → map row_of one ≡ messages → map row_of other ≡ lints → map (λ row. row.1.now) one ++ map (λ row. row.1.now) other ≡ all_codes
unfolding all_codes
codes_of_two = of_two (λ row. row.code)

-- a code of the rows of two tables for which something holds is one of the codes
pub any_of_two : (p : Text → Bool) (one other : List TableRow) → map row_of one ≡ messages → map row_of other ≡ lints
    → (list_any (λ row. p row.1.now) one || list_any (λ row. p row.1.now) other) ≡ list_any p all_codes
any_of_two p one other m l =
    ap (λ b. b || list_any (λ row. p row.1.now) other) (any_seen p (λ row. row.1.now) one) ∙ ap (λ b. list_any p (map (λ row. row.1.now) one) || b) (any_seen p (λ row. row.1.now) other)
    ∙ sym (list_any-append p (map (λ row. row.1.now) one) (map (λ row. row.1.now) other)) ∙ ap (list_any p) (codes_of_two one other m l)

-- the codes of two tables that are kept are those of all
pub kept_of_two : (p : Text → Bool) (one other : List TableRow) → map row_of one ≡ messages → map row_of other ≡ lints
    → filter p (map (λ row. row.1.now) one) ++ filter p (map (λ row. row.1.now) other) ≡ filter p all_codes
kept_of_two p one other m l = sym (filter-append p (map (λ row. row.1.now) one) (map (λ row. row.1.now) other)) ∙ ap (filter p) (codes_of_two one other m l)
