-- The joined lines of a rules file.
use Rattle.std.specs.Prelude.{ℕ, ◌-◌, Bool, true, not, ◌&&◌, if◌then◌else◌, List, [], ◌∷◌, ◌++◌, length, take, map, filter, Option, Some, None}
use Rattle.std.specs.List.{onto_first}
use Rattle.text_bytes.specs.Text.{Text}
use Rattle.text_bytes.specs.declared.profile.Profile.{Profile}
use Rattle.text_bytes.specs.declared.profile.Profile.TheVariants.{Manual, Udev}
use Rattle.text_bytes.specs.Names.{hash, backslash}
use Rattle.text_bytes.specs.Texts.{begins_with, ends_in, unindented as text_unindented}
pub use Rattle.text_bytes.specs.Numbers.{capped}
pub use Rattle.text_bytes.specs.Texts.{is_empty}
pub use Rattle.text_bytes.specs.Lines.{NumberedLine, lines, numbered_from}

-- a line without the blanks at its start
abbrev pub unindented : NumberedLine → NumberedLine
unindented l = record { number = l.number; text = text_unindented l.text }

-- whether a line without the blanks at its start is a comment
abbrev pub is_comment : NumberedLine → Bool
is_comment l = begins_with hash l.text

-- lines without the blanks at their starts, and without the comments
abbrev pub kept : List NumberedLine → List NumberedLine
kept ls = filter (λ l. not (is_comment l)) (map unindented ls)

-- what a kept line gives to a joined line: its text without the `\` at its end, and whether there was one
pub record Piece : Type 0 where
  pub number : ℕ
  pub text : Text
  pub continues : Bool

-- a kept line as a piece
abbrev pub piece_of : NumberedLine → Piece
piece_of l =
    record { number = l.number; text = if ends_in backslash l.text then take (length l.text - 1) l.text else l.text; continues = ends_in backslash l.text }

-- the longest runs of pieces in which all but the last continue
abbrev pub runs : List Piece → List (List Piece)
runs [] = []
runs (p ∷ ps) = if p.continues then onto_first p (runs ps) else (p ∷ []) ∷ runs ps

-- whether all pieces of a run continue, so that it is open when the file ends
abbrev pub is_open : List Piece → Bool
is_open [] = true
is_open (p ∷ ps) = p.continues && is_open ps

-- the texts of a run's pieces, one after another
abbrev pub run_text : List Piece → Text
run_text [] = []
run_text (p ∷ ps) = p.text ++ run_text ps

-- the number of a run's first line
abbrev pub first_number : List Piece → ℕ
first_number [] = 0
first_number (p ∷ ps) = p.number

-- the number of a run's last line
abbrev pub last_number : List Piece → ℕ
last_number [] = 0
last_number (p ∷ []) = p.number
last_number (p ∷ q ∷ ps) = last_number (q ∷ ps)

-- the number with which a run is reported: that of its first line, for udev that of its last
abbrev pub run_number : Profile → List Piece → ℕ
run_number Manual run = first_number run
run_number Udev run = last_number run

-- the joined lines: of the runs that are not open, those that are not empty
abbrev pub lines_of_runs : Profile → List (List Piece) → List NumberedLine
lines_of_runs profile [] = []
lines_of_runs profile (r ∷ rs) =
    if is_open r then lines_of_runs profile rs
    else (if is_empty (run_text r) then lines_of_runs profile rs
    else record { number = capped (run_number profile r); text = run_text r } ∷ lines_of_runs profile rs)

-- the number with which a run that is open at the end is reported: that of its first line, for udev that of the
-- file's last
abbrev pub open_number : Profile → ℕ → List Piece → ℕ
open_number Manual last run = first_number run
open_number Udev last run = last

-- the number of the run that is open, if one is, in a file with a last line of this number
abbrev pub open_of_runs : Profile → ℕ → List (List Piece) → Option ℕ
open_of_runs profile last [] = None
open_of_runs profile last (r ∷ rs) = if is_open r then Some (capped (open_number profile last r)) else open_of_runs profile last rs

-- the joined lines of a file, and the number of the one that is still open at its end
pub record Joined : Type 0 where
  pub lines : List NumberedLine
  pub open_at : Option ℕ

-- joined lines beside the number of an open one
abbrev pub joined_as : List NumberedLine → Option ℕ → Joined
joined_as ls o = record { lines = ls; open_at = o }

-- the joined lines that the pieces of a file make, whose last line has this number
abbrev pub joined : Profile → ℕ → List Piece → Joined
joined profile last ps = joined_as (lines_of_runs profile (runs ps)) (open_of_runs profile last (runs ps))

-- the joined lines of a file, whose lines are counted from 1
abbrev pub joined_lines : Profile → Text → Joined
joined_lines profile bytes = joined profile (length (lines bytes)) (map piece_of (kept (numbered_from 1 (lines bytes))))
