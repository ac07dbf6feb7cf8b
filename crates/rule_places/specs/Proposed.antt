-- A rules file with its commas and blanks mended, before it is compared with what it was.
use Rattle.std.specs.Prelude.{ℕ, ◌+◌, ◌==◌, if◌then◌else◌, List, [], ◌∷◌, ◌++◌, drop, map}
use Rattle.text_bytes.specs.Text.{Text}
use Rattle.text_bytes.specs.declared.profile.Profile.TheVariants.{Manual}
use Rattle.rule_types.specs.declared.jumps.Landing.{Landing}
use Rattle.rule_core.specs.Lines.{joined_lines}
use Rattle.rule_core.specs.Rules.{Reading, landed, reading_of}
use Rattle.rule_types.specs.Tokens.{tokens_in}
use Rattle.rule_places.specs.Faults.{is_to_mend, parts_read}
use Rattle.rule_places.specs.Rewritten.{rewritten_from}
use Rattle.rule_places.specs.Stretches.{stretches}
use Rattle.rule_places.specs.WholeLines.{ends_joined, given_size, whole_lines}

-- a joined line of a file, read as a rule by the manual, with what becomes of its jump and of its label
abbrev pub Landed : Type 0
Landed = Reading × Landing

-- the joined lines of a file with these bytes
abbrev pub landed_in : Text → List Landed
landed_in bytes = landed (map (reading_of Manual) (joined_lines Manual bytes).lines)

-- the lines that make a joined line: mended if that is to be mended, else as they stand
abbrev pub mended_run : Landed → Text → Text
mended_run x run = if is_to_mend x then rewritten_from x.0.text (stretches x.0.text (tokens_in (parts_read x.0.read))) 0 (whole_lines run) else run

-- what is written for a run that has ended, and gives so many bytes: one that gives any is the first of the joined lines still to come
abbrev pub run_written : List Landed → Text → ℕ → Text
run_written [] run size = run
run_written (x ∷ xs) run size = if size == 0 then run else mended_run x run

-- the joined lines still to come after such a run
abbrev pub lines_left : List Landed → ℕ → List Landed
lines_left xs size = if size == 0 then xs else drop 1 xs

-- lines of a file, and before them a run that has not ended, which gives so many bytes: of the joined lines these are still to come
abbrev pub proposed_from : List Landed → Text → ℕ → List Text → Text
proposed_from xs run size [] = run
proposed_from xs run size (l ∷ ls) =
    if ends_joined l then run_written xs (run ++ l) (size + given_size l) ++ proposed_from (lines_left xs (size + given_size l)) [] 0 ls
    else proposed_from xs (run ++ l) (size + given_size l) ls

-- a file with these bytes, mended
abbrev pub proposed : Text → Text
proposed bytes = proposed_from (landed_in bytes) [] 0 (whole_lines bytes)
