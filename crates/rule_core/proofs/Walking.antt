-- Joining line by line gives the joined lines of the longest runs.
use Rattle.std.proofs.Common.{◌≡◌, ℕ, Bool, true, false, cond, not, List, ◌∷◌, [], ◌++◌, length, map, Option, Some, None, refl, sym, ◌∙◌, ap, append_assoc, append-nil}
use Rattle.std.specs.List.{onto_first}
use Rattle.text_bytes.specs.Numbers.{capped}
use Rattle.text_bytes.specs.declared.profile.Profile.{Profile}
use Rattle.text_bytes.specs.declared.profile.Profile.TheVariants.{Manual, Udev}
use Rattle.rule_core.specs.Lines.{Joined, NumberedLine, Piece, is_comment, is_empty, is_open, joined, joined_as, joined_lines, kept, lines, lines_of_runs, numbered_from, open_number, open_of_runs, piece_of, run_number, run_text, runs, unindented}
use Rattle.rule_core.specs.Steps.{SoFar, after, ended, line_of, number_of_both, sofar}

abbrev piece : ℕ → List ℕ → Bool → Piece
piece n t c = record { number = n; text = t; continues = c }

-- the open piece in front of those that follow
abbrev after_open : Option Piece → List Piece → List Piece
after_open None ps = ps
after_open (Some q) ps = piece q.number q.text true ∷ ps

-- what the lines so far and the pieces that follow make together, in a file whose last line has this number
unfoldable pub whole : Profile → ℕ → SoFar → List Piece → Joined
whole by last s ps = joined_as (s.lines ++ lines_of_runs by (runs (after_open s.pending ps))) (open_of_runs by last (runs (after_open s.pending ps)))

-- a piece alone is reported by its number
number_alone : (by : Profile) (p : Piece) → run_number by (p ∷ []) ≡ p.number
number_alone Manual p = refl
number_alone Udev p = refl

-- a run that is not open gives its line
closed : (by : Profile) (n : ℕ) (u v : List ℕ) (c : Bool) (rest : List NumberedLine) → v ≡ u
    → cond (is_empty v) rest (record { number = capped (run_number by (piece n u c ∷ [])); text = v } ∷ rest) ≡ line_of (piece n u c) ++ rest
closed by n [] v c rest e = ap (λ (x : List ℕ). cond (is_empty x) rest (record { number = capped (run_number by (piece n [] c ∷ [])); text = x } ∷ rest)) e
closed by n (b ∷ u) v c rest e =
    ap (λ (x : List ℕ). cond (is_empty x) rest (record { number = capped (run_number by (piece n (b ∷ u) c ∷ [])); text = x } ∷ rest)) e
    ∙ ap (λ (k : ℕ). record { number = capped k; text = b ∷ u } ∷ rest) (number_alone by (piece n (b ∷ u) c))

-- two pieces of a run are reported as one
number_of_two : (by : Profile) (n m : ℕ) (u t w : List ℕ) (r : List Piece) → run_number by (piece (number_of_both by n m) w true ∷ r) ≡ run_number by (piece n u true ∷ piece m t true ∷ r)
number_of_two Manual n m u t w r = refl
number_of_two Udev n m u t w [] = refl
number_of_two Udev n m u t w (p ∷ r) = refl

-- two pieces of a run are as one
two_lines : (by : Profile) (n m : ℕ) (u t : List ℕ) (rs : List (List Piece))
    → lines_of_runs by (onto_first (piece (number_of_both by n m) (u ++ t) true) rs) ≡ lines_of_runs by (onto_first (piece n u true) (onto_first (piece m t true) rs))
two_lines by n m u t [] = refl
two_lines by n m u t (r ∷ rs) =
    ap (λ (x : List ℕ). cond (is_open r) (lines_of_runs by rs) (cond (is_empty x) (lines_of_runs by rs) (record { number = capped (run_number by (piece (number_of_both by n m) (u ++ t) true ∷ r)); text = x } ∷ lines_of_runs by rs))) (append_assoc u t (run_text r))
    ∙ ap (λ (k : ℕ). cond (is_open r) (lines_of_runs by rs) (cond (is_empty (u ++ (t ++ run_text r))) (lines_of_runs by rs) (record { number = capped k; text = u ++ (t ++ run_text r) } ∷ lines_of_runs by rs))) (number_of_two by n m u t (u ++ t) r)

open_number_of_two : (by : Profile) (last n m : ℕ) (u t w : List ℕ) (r : List Piece)
    → open_number by last (piece (number_of_both by n m) w true ∷ r) ≡ open_number by last (piece n u true ∷ piece m t true ∷ r)
open_number_of_two Manual last n m u t w r = refl
open_number_of_two Udev last n m u t w r = refl

two_open : (by : Profile) (last n m : ℕ) (u t : List ℕ) (rs : List (List Piece))
    → open_of_runs by last (onto_first (piece (number_of_both by n m) (u ++ t) true) rs) ≡ open_of_runs by last (onto_first (piece n u true) (onto_first (piece m t true) rs))
two_open by last n m u t [] = ap (λ (k : ℕ). Some (capped k)) (open_number_of_two by last n m u t (u ++ t) [])
two_open by last n m u t (r ∷ rs) =
    ap (λ (k : ℕ). cond (is_open r) (Some (capped k)) (open_of_runs by last rs)) (open_number_of_two by last n m u t (u ++ t) r)

-- a piece more
step_of : (by : Profile) (last : ℕ) (ls : List NumberedLine) (o : Option Piece) (n : ℕ) (t : List ℕ) (c : Bool) (ps : List Piece)
    → whole by last (after by (sofar ls o) (piece n t c)) ps ≡ whole by last (sofar ls o) (piece n t c ∷ ps)
unfolding whole
step_of by last ls None n t true ps = refl
step_of by last ls None n t false ps =
    ap (λ (x : List NumberedLine). joined_as x (open_of_runs by last (runs ps)))
    (append_assoc ls (line_of (piece n t false)) (lines_of_runs by (runs ps))
    ∙ ap (λ (x : List NumberedLine). ls ++ x) (sym (closed by n t (t ++ []) false (lines_of_runs by (runs ps)) (append-nil t))))
step_of by last ls (Some q) n t true ps =
    ap (λ (x : List NumberedLine). joined_as (ls ++ x) (open_of_runs by last (onto_first (piece (number_of_both by q.number n) (q.text ++ t) true) (runs ps)))) (two_lines by q.number n q.text t (runs ps))
    ∙ ap (λ (x : Option ℕ). joined_as (ls ++ lines_of_runs by (onto_first (piece q.number q.text true) (onto_first (piece n t true) (runs ps)))) x) (two_open by last q.number n q.text t (runs ps))
step_of by last ls (Some q) n t false ps =
    ap (λ (x : List NumberedLine). joined_as x (open_of_runs by last (runs ps)))
    (append_assoc ls (line_of (piece (number_of_both by q.number n) (q.text ++ t) false)) (lines_of_runs by (runs ps))
    ∙ ap (λ (x : List NumberedLine). ls ++ x)
    (sym (closed by (number_of_both by q.number n) (q.text ++ t) (q.text ++ (t ++ [])) false (lines_of_runs by (runs ps)) (ap (λ (x : List ℕ). q.text ++ x) (append-nil t)))
    ∙ ap (λ (k : ℕ). cond (is_empty (q.text ++ (t ++ []))) (lines_of_runs by (runs ps)) (record { number = capped k; text = q.text ++ (t ++ []) } ∷ lines_of_runs by (runs ps))) (number_closed by q.number n q.text t (q.text ++ t))))
  where
    number_closed : (by : Profile) (n m : ℕ) (u t w : List ℕ) → run_number by (piece (number_of_both by n m) w false ∷ []) ≡ run_number by (piece n u true ∷ piece m t false ∷ [])
    number_closed Manual n m u t w = refl
    number_closed Udev n m u t w = refl

step : (by : Profile) (last : ℕ) (s : SoFar) (p : Piece) (ps : List Piece) → whole by last (after by s p) ps ≡ whole by last s (p ∷ ps)
step by last s p ps = step_of by last s.lines s.pending p.number p.text p.continues ps

-- no piece more
reported_alone : (by : Profile) (last : ℕ) (p : Piece) → open_number by last (p ∷ []) ≡ number_of_both by p.number last
reported_alone Manual last p = refl
reported_alone Udev last p = refl

end_of : (by : Profile) (last : ℕ) (ls : List NumberedLine) (o : Option Piece) → whole by last (sofar ls o) [] ≡ ended by last (sofar ls o)
unfolding whole
end_of by last ls None = ap (λ (x : List NumberedLine). joined_as x None) (append-nil ls)
end_of by last ls (Some q) =
    ap (λ (x : List NumberedLine). joined_as x (Some (capped (open_number by last (piece q.number q.text true ∷ []))))) (append-nil ls)
    ∙ ap (λ (k : ℕ). joined_as ls (Some (capped k))) (reported_alone by last (piece q.number q.text true))

start_of : (by : Profile) (last : ℕ) (ps : List Piece) → whole by last (sofar [] None) ps ≡ joined by last ps
unfolding whole
start_of by last ps = refl

comment_passed : (l : NumberedLine) (ls : List NumberedLine) → is_comment (unindented l) ≡ true → kept (l ∷ ls) ≡ kept ls
comment_passed l ls e = ap (λ (b : Bool). cond (not b) (unindented l ∷ kept ls) (kept ls)) e

line_kept : (l : NumberedLine) (ls : List NumberedLine) → is_comment (unindented l) ≡ false → kept (l ∷ ls) ≡ unindented l ∷ kept ls
line_kept l ls e = ap (λ (b : Bool). cond (not b) (unindented l ∷ kept ls) (kept ls)) e

-- what the lines so far and those that follow make together
abbrev pub with_lines : Profile → ℕ → SoFar → List NumberedLine → Joined
with_lines by last s ls = whole by last s (map piece_of (kept ls))

pub at_start : (by : Profile) (s : SoFar) (ls : List NumberedLine) (bytes : List ℕ) → s ≡ sofar [] None → ls ≡ numbered_from 1 (lines bytes) → with_lines by (length (lines bytes)) s ls ≡ joined_lines by bytes
at_start by s ls bytes e f =
    ap (λ (x : SoFar). with_lines by (length (lines bytes)) x ls) e ∙ start_of by (length (lines bytes)) (map piece_of (kept ls))
    ∙ ap (λ (x : List NumberedLine). joined by (length (lines bytes)) (map piece_of (kept x))) f

pub at_comment : (by : Profile) (last : ℕ) (s : SoFar) (l x : NumberedLine) (left ls : List NumberedLine) (all : Joined) → with_lines by last s left ≡ all → left ≡ l ∷ ls
    → x ≡ unindented l → is_comment x ≡ true → with_lines by last s ls ≡ all
at_comment by last s l x left ls all w e f c =
    ap (λ (ys : List NumberedLine). whole by last s (map piece_of ys)) (sym (comment_passed l ls (ap is_comment (sym f) ∙ c)))
    ∙ ap (with_lines by last s) (sym e) ∙ w

pub at_line : (by : Profile) (last : ℕ) (s next : SoFar) (l x : NumberedLine) (p : Piece) (left ls : List NumberedLine) (all : Joined) → with_lines by last s left ≡ all → left ≡ l ∷ ls
    → x ≡ unindented l → is_comment x ≡ false → p ≡ piece_of x → next ≡ after by s p → with_lines by last next ls ≡ all
at_line by last s next l x p left ls all w e f c g h =
    ap (λ (y : SoFar). with_lines by last y ls) h
    ∙ step by last s p (map piece_of (kept ls))
    ∙ ap (λ (y : Piece). whole by last s (y ∷ map piece_of (kept ls))) (g ∙ ap piece_of f)
    ∙ ap (λ (ys : List NumberedLine). whole by last s (map piece_of ys)) (sym (line_kept l ls (ap is_comment (sym f) ∙ c)))
    ∙ ap (with_lines by last s) (sym e) ∙ w

pub at_end : (by : Profile) (last : ℕ) (s : SoFar) (left : List NumberedLine) (all r : Joined) → with_lines by last s left ≡ all → left ≡ [] → r ≡ ended by last s → r ≡ all
at_end by last s left all r w e f = f ∙ sym (end_of by last s.lines s.pending) ∙ ap (with_lines by last s) (sym e) ∙ w
