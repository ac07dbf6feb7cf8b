-- The numbers of joined lines rise.
use Rattle.std.proofs.Common.{◌≡◌, ℕ, ◌<◌, ◌≤◌, ◌+◌, ◌-◌, ◌^◌, ◌&&◌, min, Bool, true, false, not, cond, List, [], ◌∷◌, ◌++◌, length, map, Option, Some, None, refl, sym, ap, subst, ◌∙◌, arith}
use Rattle.std.specs.List.{onto_first}
use Rattle.text_bytes.specs.declared.profile.Profile.TheVariants.{Manual}
use Rattle.rule_core.specs.Lines.{NumberedLine, Piece, capped, is_comment, is_empty, is_open, joined_lines, kept, lines, lines_of_runs, numbered_from, open_of_runs, piece_of, run_number, run_text, runs, unindented}

-- a number that is reported follows another: it is not less, and the same only if that is the greatest
pub record IsAfter (a b : ℕ) : Type 0 where
  pub order : a ≤ b
  pub same : a ≡ b → 2 ^ 32 - 1 ≤ a

-- each number follows the one before it, and the first after this
abbrev pub Rise : ℕ → List ℕ → Type 0
Rise a [] = Unit {0}
Rise a (b ∷ ns) = IsAfter a b × Rise b ns

at_most : (top a b : ℕ) → a < b → (min a top ≤ min b top) × (min a top ≡ min b top → top ≤ min a top)
at_most top a b h = (omega arith, λ e. omega arith)

capped_after : (a b : ℕ) → a < b → IsAfter (capped a) (capped b)
capped_after a b h =
    let both = at_most (2 ^ 32 - 1) a b h in
    record { order = both.0; same = both.1 }

rise_less : (a b : ℕ) (ns : List ℕ) → a ≤ b → Rise b ns → Rise a ns
rise_less a b [] h r = tt
rise_less a b (n ∷ ns) h r =
    let first : IsAfter b n = r.0 in
    (record { order = omega arith; same = λ e. omega arith }, r.1)

-- ---- pieces and runs

-- the numbers of pieces rise from this one on
abbrev PiecesRise : ℕ → List Piece → Type 0
PiecesRise n [] = Unit {0}
PiecesRise n (p ∷ ps) = (n < p.number) × PiecesRise p.number ps

pieces_rise : (n k : ℕ) (ts : List (List ℕ)) → n < k → PiecesRise n (map piece_of (kept (numbered_from k ts)))
pieces_rise n k [] h = tt
pieces_rise n k (t ∷ ts) h = by (pieces_rise n (k + 1) ts (omega arith)) (pieces_rise k (k + 1) ts (omega arith)) (not (is_comment (unindented l)))
  where
    l : NumberedLine
    l = record { number = k; text = t }

    by : PiecesRise n (map piece_of (kept (numbered_from (k + 1) ts))) → PiecesRise k (map piece_of (kept (numbered_from (k + 1) ts))) → (b : Bool)
        → PiecesRise n (map piece_of (cond b (unindented l ∷ kept (numbered_from (k + 1) ts)) (kept (numbered_from (k + 1) ts))))
    by far near true = (h, near)
    by far near false = far

-- the numbers of runs rise from this one on
abbrev RunsRise : ℕ → List (List Piece) → Type 0
RunsRise n [] = Unit {0}
RunsRise n (r ∷ rs) = (n < run_number Manual r) × RunsRise (run_number Manual r) rs

runs_less : (n m : ℕ) (rs : List (List Piece)) → n ≤ m → RunsRise m rs → RunsRise n rs
runs_less n m [] h r = tt
runs_less n m (run ∷ rs) h r =
    let first : m < run_number Manual run = r.0 in
    (omega arith, r.1)

runs_rise : (n : ℕ) (ps : List Piece) → PiecesRise n ps → RunsRise n (runs ps)
runs_rise n [] h = tt
runs_rise n (p ∷ ps) h = by p.continues (runs_rise p.number ps h.1)
  where
    onto : (rs : List (List Piece)) → RunsRise p.number rs → RunsRise n (onto_first p rs)
    onto [] r = (h.0, tt)
    onto (run ∷ rs) r =
        let first : p.number < run_number Manual run = r.0 in
        (h.0, runs_less p.number (run_number Manual run) rs (omega arith) r.1)

    by : (b : Bool) → RunsRise p.number (runs ps) → RunsRise n (cond b (onto_first p (runs ps)) ((p ∷ []) ∷ runs ps))
    by true r = onto (runs ps) r
    by false r = (h.0, r)

-- only the last run may be open
abbrev OnlyLastIsOpen : List (List Piece) → Type 0
OnlyLastIsOpen [] = Unit {0}
OnlyLastIsOpen (r ∷ rs) = (is_open r ≡ true → rs ≡ []) × OnlyLastIsOpen rs

only_last : (ps : List Piece) → OnlyLastIsOpen (runs ps)
only_last [] = tt
only_last (p ∷ ps) = by p.continues refl (only_last ps)
  where
    opened : p.continues ≡ true → (r : List Piece) → is_open (p ∷ r) ≡ true → is_open r ≡ true
    opened e r o = sym (ap (λ b. b && is_open r) e) ∙ o

    onto : p.continues ≡ true → (rs : List (List Piece)) → OnlyLastIsOpen rs → OnlyLastIsOpen (onto_first p rs)
    onto e [] o = (λ x. refl, tt)
    onto e (r ∷ rs) o = (λ x. o.0 (opened e r x), o.1)

    by : (b : Bool) → p.continues ≡ b → OnlyLastIsOpen (runs ps) → OnlyLastIsOpen (cond b (onto_first p (runs ps)) ((p ∷ []) ∷ runs ps))
    by true e o = onto e (runs ps) o
    by false e o = (λ x. absurd (shut (sym (ap (λ b. b && true) e) ∙ x)), o)
      where
        shut : false ≡ true → ⊥
        shut e = cc

-- ---- joined lines

abbrev open_number : Option ℕ → List ℕ
open_number None = []
open_number (Some n) = n ∷ []

-- the numbers of joined lines, and of the one that is open
abbrev pub numbers_reported : List NumberedLine → Option ℕ → List ℕ
numbers_reported ls at = map (λ l. l.number) ls ++ open_number at

reported_for_runs : (end n : ℕ) (rs : List (List Piece)) → RunsRise n rs → OnlyLastIsOpen rs → Rise (capped n) (numbers_reported (lines_of_runs Manual rs) (open_of_runs Manual end rs))
reported_for_runs end n [] r o = tt
reported_for_runs end n (run ∷ rs) r o = by (reported_for_runs end (run_number Manual run) rs r.1 o.1) (is_open run) refl
  where
    first : IsAfter (capped n) (capped (run_number Manual run))
    first = capped_after n (run_number Manual run) r.0

    Rest : Type 0
    Rest = Rise (capped (run_number Manual run)) (numbers_reported (lines_of_runs Manual rs) (open_of_runs Manual end rs))

    last : rs ≡ [] → Rise (capped n) (numbers_reported (lines_of_runs Manual rs) (Some (capped (run_number Manual run))))
    last e = subst (λ (x : List (List Piece)). Rise (capped n) (numbers_reported (lines_of_runs Manual x) (Some (capped (run_number Manual run))))) (sym e) (first, tt)

    by_text : Rest → (b : Bool) → Rise (capped n) (numbers_reported (cond b (lines_of_runs Manual rs) (record { number = capped (run_number Manual run); text = run_text run } ∷ lines_of_runs Manual rs)) (open_of_runs Manual end rs))
    by_text rest true = rise_less (capped n) (capped (run_number Manual run)) (numbers_reported (lines_of_runs Manual rs) (open_of_runs Manual end rs)) first.order rest
    by_text rest false = (first, rest)

    by : Rest → (b : Bool) → is_open run ≡ b
        → Rise (capped n) (numbers_reported (cond b (lines_of_runs Manual rs) (cond (is_empty (run_text run)) (lines_of_runs Manual rs) (record { number = capped (run_number Manual run); text = run_text run } ∷ lines_of_runs Manual rs))) (cond b (Some (capped (run_number Manual run))) (open_of_runs Manual end rs)))
    by rest true e = last (o.0 e)
    by rest false e = by_text rest (is_empty (run_text run))

pub numbers_rise : (bytes : List ℕ) → Rise 0 (numbers_reported (joined_lines Manual bytes).lines (joined_lines Manual bytes).open_at)
numbers_rise bytes =
    let pieces = map piece_of (kept (numbered_from 1 (lines bytes))) in
    reported_for_runs (length (lines bytes)) 0 (runs pieces) (runs_rise 0 pieces (pieces_rise 0 1 (lines bytes) (omega arith))) (only_last pieces)
