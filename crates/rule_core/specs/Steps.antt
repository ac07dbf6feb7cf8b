-- Serves inner proofs only: joining line by line; what the lines so far have given, and what one more makes of it.
use Rattle.std.specs.Prelude.{ℕ, if◌then◌else◌, List, [], ◌∷◌, ◌++◌, Option, Some, None}
use Rattle.rule_core.specs.Lines.{NumberedLine, Piece, Joined, is_empty, joined_as}
use Rattle.text_bytes.specs.Numbers.{capped}
use Rattle.text_bytes.specs.declared.profile.Profile.{Profile}
use Rattle.text_bytes.specs.declared.profile.Profile.TheVariants.{Manual, Udev}

-- the joined lines so far, and the piece that the lines of an open one make
pub record SoFar : Type 0 where
  pub lines : List NumberedLine
  pub pending : Option Piece

-- joined lines beside an open piece
abbrev pub sofar : List NumberedLine → Option Piece → SoFar
sofar ls o = record { lines = ls; pending = o }

-- the number with which two pieces in a row are reported together
abbrev pub number_of_both : Profile → ℕ → ℕ → ℕ
number_of_both Manual earlier later = earlier
number_of_both Udev earlier later = later

-- a piece after the open one, as one piece
abbrev pub onto : Profile → Option Piece → Piece → Piece
onto profile None p = p
onto profile (Some q) p = record { number = number_of_both profile q.number p.number; text = q.text ++ p.text; continues = p.continues }

-- a piece as a joined line, or as none if it is empty
abbrev pub line_of : Piece → List NumberedLine
line_of p = if is_empty p.text then [] else record { number = capped p.number; text = p.text } ∷ []

-- one more piece: it continues the open one or begins another, and ends it unless it is itself continued
abbrev pub after : Profile → SoFar → Piece → SoFar
after profile s p = if p.continues then sofar s.lines (Some (onto profile s.pending p)) else sofar (s.lines ++ line_of (onto profile s.pending p)) None

-- the number with which the open piece is reported, if there is one
abbrev pub open_at : Profile → ℕ → Option Piece → Option ℕ
open_at profile last None = None
open_at profile last (Some p) = Some (capped (number_of_both profile p.number last))

-- no more pieces, in a file whose last line has this number
abbrev pub ended : Profile → ℕ → SoFar → Joined
ended profile last s = joined_as s.lines (open_at profile last s.pending)
