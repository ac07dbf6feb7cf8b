-- A file that is given up because of a line that is too long.
use Rattle.std.specs.Prelude.{ℕ, ◌+◌, if◌then◌else◌, List, [], ◌∷◌, length}
use Rattle.text_bytes.specs.Text.{Text}
use Rattle.text_bytes.specs.Lines.{NumberedLine, numbered_lines}
use Rattle.text_bytes.specs.Numbers.{capped}
use Rattle.file_messages.specs.declared.message.MessageKind.TheVariants.{FileAbandoned}
use Rattle.file_messages.specs.declared.message.MessageKind.{MessageKind}
use Rattle.rule_core.specs.Ends.{is_too_long}
use Rattle.rule_places.specs.Kept.{file_start}
use Rattle.rule_places.specs.Placed.{found_at}
use Rattle.rule_places.specs.declared.kept.Place.{Place}
use Rattle.rule_places.specs.declared.placed_finding.PlacedFinding.{PlacedFinding}

-- a line of a file as a whole
abbrev pub whole_line : NumberedLine → Place
whole_line l = record { line = capped l.number; column = 1; end = capped (length l.text + 1) }

-- the first line that is too long, or the start of the file if there is none
abbrev pub long_place : List NumberedLine → Place
long_place [] = file_start
long_place (l ∷ ls) = if is_too_long l.text then whole_line l else long_place ls

-- what is found in a file that is given up because of the line with a number
abbrev pub abandoned_findings : Text → ℕ → List (PlacedFinding MessageKind)
abandoned_findings bytes number = found_at number (long_place (numbered_lines bytes)) FileAbandoned [] ∷ []
