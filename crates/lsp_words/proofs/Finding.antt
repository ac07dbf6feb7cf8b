-- Looking for an entry in one table after another.
use Rattle.std.proofs.Common.{◌≡◌, ℕ, ◌+◌, ◌<◌, List, [], ◌∷◌, ◌++◌, Bool, true, false, refl, sym, ◌∙◌, ap, add-one, append-nil, drop, get_or, length, map, if◌then◌else◌}
use Rattle.std.proofs.Math.Seq.{drop-cons}
use Rattle.std.specs.Borrow.{Bor}
use Rattle.std.specs.Prelude.{Option, Some, None}
use Rattle.text_bytes.specs.Text.{Text}
use Rattle.lsp_words.specs.Entries.{Row, entry_at, fits, row_of, rows_in}

-- what is found is found among more
found_if : (b : Bool) (first row : Row) (rest others : Option Row)
    → (if b then Some first else rest) ≡ Some row → (rest ≡ Some row → others ≡ Some row) → (if b then Some first else others) ≡ Some row
found_if true first row rest others e more = e
found_if false first row rest others e more = more e

-- where nothing is found, more is looked at
later_if : (b : Bool) (first : Row) (rest others after : Option Row)
    → (if b then Some first else rest) ≡ None → (rest ≡ None → others ≡ after) → (if b then Some first else others) ≡ after
later_if true first rest others after e more = cc
later_if false first rest others after e more = more e

-- an entry of the first table is found
pub found_first : (rows more : List Row) (size : ℕ) (text : Text) (row : Row)
    → entry_at rows size text ≡ Some row → entry_at (rows ++ more) size text ≡ Some row
found_first [] more size text row e = cc
found_first (first ∷ rows) more size text row e =
    found_if (fits size text first) first row (entry_at rows size text) (entry_at (rows ++ more) size text) e (found_first rows more size text row)

-- if the first table has none, the others are looked at
pub found_later : (rows more : List Row) (size : ℕ) (text : Text)
    → entry_at rows size text ≡ None → entry_at (rows ++ more) size text ≡ entry_at more size text
found_later [] more size text e = refl
found_later (first ∷ rows) more size text e =
    later_if (fits size text first) first (entry_at rows size text) (entry_at (rows ++ more) size text) (entry_at more size text) e
    (found_later rows more size text)

-- rows and no others
pub append_none : (rows : List Row) → rows ++ [] ≡ rows
append_none rows = append-nil rows

-- a list of references to tables
abbrev pub Tables : Type 0
Tables = List (Bor (List (Bor Text × Bor Text)))

-- the rows of the tables from one on are those of that one, and then those of the others
rows_from : (parts : Tables) (i : ℕ) (none : Bor (List (Bor Text × Bor Text))) → i < length parts
    → rows_in (drop i parts) ≡ map row_of (get_or parts i none).now ++ rows_in (drop (i + 1) parts)
rows_from parts i none h = rw (drop-cons parts i none h) (rw add-one refl)

-- what is found in a table is what is found in all, if those before it have none
pub found_here : (parts : Tables) (i : ℕ) (none : Bor (List (Bor Text × Bor Text))) (size : ℕ) (text : Text) (row : Row) → i < length parts
    → entry_at (rows_in (drop i parts)) size text ≡ entry_at (rows_in parts) size text
    → Some row ≡ entry_at (map row_of (get_or parts i none).now) size text → Some row ≡ entry_at (rows_in parts) size text
found_here parts i none size text row h before found =
    sym (found_first (map row_of (get_or parts i none).now) (rows_in (drop (i + 1) parts)) size text row (sym found))
    ∙ (sym (ap (λ rows. entry_at rows size text) (rows_from parts i none h)) ∙ before)

-- if a table has none, what is found behind it is what is found in all
pub later_here : (parts : Tables) (i : ℕ) (none : Bor (List (Bor Text × Bor Text))) (size : ℕ) (text : Text) → i < length parts
    → entry_at (rows_in (drop i parts)) size text ≡ entry_at (rows_in parts) size text
    → None ≡ entry_at (map row_of (get_or parts i none).now) size text
    → entry_at (rows_in (drop (i + 1) parts)) size text ≡ entry_at (rows_in parts) size text
later_here parts i none size text h before missed =
    sym (found_later (map row_of (get_or parts i none).now) (rows_in (drop (i + 1) parts)) size text (sym missed))
    ∙ (sym (ap (λ rows. entry_at rows size text) (rows_from parts i none h)) ∙ before)
