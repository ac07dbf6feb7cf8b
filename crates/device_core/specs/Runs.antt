-- Runs of lines: the blocks of an input.
--
-- A line ends with its newline, and the last may lack it. A run is as many lines in a row as possible none of which
-- is empty; its newlines belong to it, and the empty line after it does not. The law `a_text_is_cut_one_way` says the
-- same in terms of bytes (`Cuts`).
use Rattle.std.specs.Prelude.{◌==◌, Bool, true, false, List, [], ◌∷◌, ◌++◌, if◌then◌else◌}
use Rattle.std.specs.List.{onto_first}
use Rattle.text_bytes.specs.Text.{Text}
use Rattle.text_bytes.specs.Names.{newline}

-- the lines of a text, each with its newline; the last may lack it
abbrev pub lines_inclusive : Text → List Text
lines_inclusive [] = []
lines_inclusive (byte ∷ text) = if byte == newline then (byte ∷ []) ∷ lines_inclusive text else onto_first byte (lines_inclusive text)

-- an empty line is a newline alone
abbrev pub is_empty_line : Text → Bool
is_empty_line [] = false
is_empty_line (byte ∷ []) = byte == newline
is_empty_line (byte ∷ more ∷ line) = false

-- a text cut at its empty lines: what comes before each of them, and what follows the last
pub record Sections : Type 0 where
  pub followed : List Text
  pub rest : Text

-- a line put in front of the first of the sections
abbrev pub onto_first_section : Text → List Text → Text → Sections
onto_first_section line [] rest = record { followed = []; rest = line ++ rest }
onto_first_section line (section ∷ sections) rest = record { followed = (line ++ section) ∷ sections; rest = rest }

-- the sections with one more line in front, which is empty or not
abbrev pub next_line : Bool → Text → Sections → Sections
next_line true line sections = record { followed = [] ∷ sections.followed; rest = sections.rest }
next_line false line sections = onto_first_section line sections.followed sections.rest

-- these lines cut at the empty ones
abbrev pub sections_of : List Text → Sections
sections_of [] = record { followed = []; rest = [] }
sections_of (line ∷ lines) = next_line (is_empty_line line) line (sections_of lines)

-- those of the texts that have a byte
abbrev pub not_empty : List Text → List Text
not_empty [] = []
not_empty ([] ∷ texts) = not_empty texts
not_empty ((byte ∷ text) ∷ texts) = (byte ∷ text) ∷ not_empty texts

-- the complete runs: those that an empty line follows
abbrev pub complete_runs : Text → List Text
complete_runs text = not_empty (sections_of (lines_inclusive text)).followed

-- the last run if no empty line follows it, else nothing
abbrev pub rest_of : Text → Text
rest_of text = (sections_of (lines_inclusive text)).rest

-- the longest runs of lines that are not empty, in order
abbrev pub runs : Text → List Text
runs text = complete_runs text ++ not_empty (rest_of text ∷ [])
