-- What is true of the rules of files, whatever is in the files.
use Rattle.std.specs.Prelude.{◌≡◌, ◌⊎◌, true, false, List, [], map, All, Any, Contains, None, Ok}
use Rattle.std.specs.List.{AllZip}
use Rattle.text_bytes.specs.Text.{Text}
use Rattle.text_bytes.specs.declared.source_file.SourceFile.{SourceFile}
use Rattle.text_bytes.specs.declared.profile.Profile.{Profile}
use Rattle.rule_core.specs.Lines.{NumberedLine, Piece, is_comment, joined_lines, kept, lines, numbered_from, piece_of, run_number, run_text, runs, unindented}
use Rattle.text_bytes.specs.Numbers.{capped}
use Rattle.rule_core.specs.Drafts.{Draft, draft_of}
use Rattle.rule_types.specs.declared.jumps.Landing.{Landing}
use Rattle.rule_types.specs.Rules.{Rule}
use Rattle.rule_core.specs.Rules.{file_rules, rule_at}

-- neither a jump without its label nor a label at which no jump ends
abbrev pub well_landed : Landing
well_landed = record { lost = false; unused = false }

-- a rule is a joined line just as it is written, its jump and its label included, and there is no finding about it
pub record IsWritten (profile : Profile) (file : Text) (l : NumberedLine) (r : Rule) : Type 0 where
  pub draft : Draft
  pub reads : draft_of profile l.text ≡ Ok draft
  pub is : r ≡ rule_at profile file l.number draft well_landed
  pub quiet : draft.findings ≡ []

-- the physical lines of a file, as they are written
abbrev pub written_lines : SourceFile → List NumberedLine
written_lines f = numbered_from 1 (lines f.bytes)

-- the runs of physical lines that are joined, comments left out
abbrev pub runs_of : SourceFile → List (List Piece)
runs_of f = runs (map piece_of (kept (written_lines f)))

-- lines that are joined are empty, or one of these rules, with the number by which they are reported
abbrev pub IsEmptyOrRule : Profile → List Rule → List Piece → Type 0
IsEmptyOrRule profile rules run = (run_text run ≡ []) ⊎ Contains (map (λ r. r.line) rules) (capped (run_number profile run))

-- a physical line of a file is a comment, or one of lines that are joined and are empty or a rule
abbrev pub IsKnown : Profile → SourceFile → NumberedLine → Type 0
IsKnown profile f l = (is_comment (unindented l) ≡ true)
    ⊎ Any (λ run. Contains run (piece_of (unindented l)) × IsEmptyOrRule profile (file_rules profile f) run) (runs_of f)

-- All that is in a file is understood: its joined lines are its rules, none is open at its end, and each physical
-- line is a rule or part of one, empty, or a comment.
pub record IsUnderstood (profile : Profile) (f : SourceFile) : Type 0 where
  pub rules : AllZip (IsWritten profile f.name) (joined_lines profile f.bytes).lines (file_rules profile f)
  pub closed : (joined_lines profile f.bytes).open_at ≡ None
  pub lines : All (IsKnown profile f) (written_lines f)
