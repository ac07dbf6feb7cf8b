-- The counts of rules, one rule after another.
use Rattle.std.proofs.Common.{◌≡◌, ℕ, zero, suc, ◌+◌, ◌<◌, ◌≤◌, List, [], ◌∷◌, ◌++◌, length, take, get_or, set, append_assoc, append-nil, Result, Ok, Err, OnOk, refl, ap, sym, ◌∙◌, arith}
use Rattle.text_bytes.specs.Text.{Text}
use Rattle.rule_types.specs.Rules.{Rule}
use Rattle.eval_courses.specs.declared.fate.Fate.{Fate}
use Rattle.engine_courses.specs.Inner.{line_at, with_fate_at}
use Rattle.engine_courses.specs.Rows.{Row, with_fate, with_fates}
use Rattle.engine_courses.specs.Unused.{lines_by, reported_line}

on_next : (n : ℕ) → suc n ≡ n + 1
on_next n = omega arith

-- what holds of a value holds of what follows from it
pub on_ok : {T E P Q : Type 0} (r : Result T E) → OnOk r P → (P → Q) → OnOk r Q
on_ok (Ok x) p f = f p
on_ok (Err e) p f = tt

-- no fate leaves the counts
pub no_fates : (rows : List Row) → with_fates rows [] ≡ rows
unfolding with_fates
no_fates [] = refl
no_fates (row ∷ rows) = refl

-- one place more
next_is : (rows : List Row) (fates : List Fate) (place : ℕ) (d : Fate) → place < length fates → with_fate_at (with_fates rows (take place fates)) place (get_or fates place d) ≡ with_fates rows (take (suc place) fates)
unfolding with_fates
next_is [] fates place d h = refl
next_is (row ∷ rows) [] place d h = absurd (omega (arith, h))
next_is (row ∷ rows) (g ∷ fates) zero d h = ap (λ all. with_fate row g ∷ all) (sym (no_fates rows))
next_is (row ∷ rows) (g ∷ fates) (suc place) d h = ap (λ all. with_fate row g ∷ all) (next_is rows fates place d (omega (arith, h)))

pub noted_more : (rows : List Row) (fates : List Fate) (place : ℕ) (d : Fate) (before now : List Row) → place < length fates → before ≡ with_fates rows (take place fates)
    → now ≡ with_fate_at before place (get_or fates place d) → now ≡ with_fates rows (take (place + 1) fates)
noted_more rows fates place d before now h e f =
    f
    ∙ ap (λ all. with_fate_at all place (get_or fates place d)) e
    ∙ next_is rows fates place d h
    ∙ ap (λ n. with_fates rows (take n fates)) (on_next place)

-- the row at a place is changed
pub set_is : (rows : List Row) (place : ℕ) (row d : Row) (f : Fate) → place < length rows → row ≡ with_fate (get_or rows place d) f → set rows place row ≡ with_fate_at rows place f
set_is [] place row d f h e = absurd (omega (arith, h))
set_is (first ∷ rows) zero row d f h e = ap (λ x. x ∷ rows) e
set_is (first ∷ rows) (suc place) row d f h e = ap (λ all. first ∷ all) (set_is rows place row d f (omega (arith, h)) e)

-- there is no row at a place
pub none_is : (rows : List Row) (place : ℕ) (f : Fate) → length rows ≤ place → rows ≡ with_fate_at rows place f
none_is [] place f h = refl
none_is (row ∷ rows) zero f h = absurd (omega (arith, h))
none_is (row ∷ rows) (suc place) f h = ap (λ all. row ∷ all) (none_is rows place f (omega (arith, h)))

-- the line on a rule that is there
pub line_there : (names : List Text) (rules : List Rule) (rows : List Row) (place : ℕ) (r : Rule) (row : Row) → place < length rules → place < length rows → r ≡ get_or rules place r → row ≡ get_or rows place row
    → reported_line names r row ≡ line_at names rules rows place
line_there names [] rows place r row h k e f = absurd (omega (arith, h))
line_there names (first ∷ rules) [] place r row h k e f = absurd (omega (arith, k))
line_there names (first ∷ rules) (own ∷ rows) zero r row h k e f = ap (λ x. reported_line names x row) e ∙ ap (reported_line names first) f
line_there names (first ∷ rules) (own ∷ rows) (suc place) r row h k e f = line_there names rules rows place r row (omega (arith, h)) (omega (arith, k)) e f

-- no line is there
pub no_rule : (names : List Text) (rules : List Rule) (rows : List Row) (place : ℕ) → length rules ≤ place → line_at names rules rows place ≡ []
no_rule names [] rows place h = refl
no_rule names (first ∷ rules) [] place h = refl
no_rule names (first ∷ rules) (own ∷ rows) zero h = absurd (omega (arith, h))
no_rule names (first ∷ rules) (own ∷ rows) (suc place) h = no_rule names rules rows place (omega (arith, h))

pub no_row : (names : List Text) (rules : List Rule) (rows : List Row) (place : ℕ) → length rows ≤ place → line_at names rules rows place ≡ []
no_row names [] rows place h = refl
no_row names (first ∷ rules) [] place h = refl
no_row names (first ∷ rules) (own ∷ rows) zero h = absurd (omega (arith, h))
no_row names (first ∷ rules) (own ∷ rows) (suc place) h = no_row names rules rows place (omega (arith, h))

-- the lines on one rule more
next_lines : (names : List Text) (rules : List Rule) (rows : List Row) (place : ℕ) → place < length rules → lines_by names (take (suc place) rules) rows ≡ lines_by names (take place rules) rows ++ line_at names rules rows place
unfolding lines_by
next_lines names [] rows place h = absurd (omega (arith, h))
next_lines names (first ∷ rules) [] zero h = refl
next_lines names (first ∷ rules) [] (suc place) h = refl
next_lines names (first ∷ rules) (own ∷ rows) zero h = append-nil (reported_line names first own)
next_lines names (first ∷ rules) (own ∷ rows) (suc place) h =
    ap (λ text. reported_line names first own ++ text) (next_lines names rules rows place (omega (arith, h)))
    ∙ sym (append_assoc (reported_line names first own) (lines_by names (take place rules) rows) (line_at names rules rows place))

pub more_lines : (names : List Text) (rules : List Rule) (rows : List Row) (place : ℕ) → place < length rules → lines_by names (take (place + 1) rules) rows ≡ lines_by names (take place rules) rows ++ line_at names rules rows place
more_lines names rules rows place h = ap (λ n. lines_by names (take n rules) rows) (sym (on_next place)) ∙ next_lines names rules rows place h
