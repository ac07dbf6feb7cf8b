-- What udev reports about the rules of a file that stay, with the places in the file.
use Rattle.std.specs.Prelude.{ℕ, ◌+◌, List, [], ◌∷◌, ◌++◌, length, map, Option, Some, None, Result, Ok, Err}
use Rattle.text_bytes.specs.Text.{Text}
use Rattle.text_bytes.specs.declared.profile.Profile.TheVariants.{Udev}
use Rattle.file_messages.specs.declared.message.MessageKind.{MessageKind}
use Rattle.rule_types.specs.declared.jumps.Landing.{Landing}
use Rattle.rule_core.specs.Drafts.{Draft}
use Rattle.rule_core.specs.Ends.{abandoned}
use Rattle.rule_core.specs.Lines.{joined_lines}
use Rattle.rule_core.specs.Rules.{Reading, landed, reading_of}
use Rattle.rule_types.specs.Tokens.{tokens_in}
use Rattle.rule_types.specs.declared.spot.Spot.{Spot}
use Rattle.rule_remarks.specs.Accounts.{Accounts}
use Rattle.rule_places.specs.Kept.{kept_lines}
use Rattle.rule_places.specs.Placed.{placed}
use Rattle.rule_places.specs.declared.kept.KeptLine.{KeptLine}
use Rattle.rule_places.specs.declared.placed_finding.PlacedFinding.{PlacedFinding}
use Rattle.rule_remarks.specs.Remarks.{rule_remarks}

-- what is reported for a line, if it was read as a rule
abbrev pub line_remarks : Accounts → Result Draft (Spot MessageKind) → List (Spot MessageKind)
line_remarks accounts (Ok d) = rule_remarks accounts (tokens_in d.parts)
line_remarks accounts (Err wrong) = []

-- what is reported for lines that follow so many bytes of others
abbrev pub remarks_from : Accounts → List KeptLine → ℕ → List (Reading × Landing) → List (PlacedFinding MessageKind)
remarks_from accounts kept start [] = []
remarks_from accounts kept start (x ∷ lines) =
    map (placed kept x.0.line start) (line_remarks accounts x.0.read) ++ remarks_from accounts kept (start + length x.0.text) lines

-- what is reported for the lines of a file, unless it is given up because of one
abbrev pub remarks_unless : Accounts → Text → Option ℕ → List (PlacedFinding MessageKind)
remarks_unless accounts bytes None = remarks_from accounts (kept_lines bytes) 0 (landed (map (reading_of Udev) (joined_lines Udev bytes).lines))
remarks_unless accounts bytes (Some number) = []

-- what is reported for the rules of a file with these bytes that stay, by line
unfoldable pub file_remarks : Accounts → Text → List (PlacedFinding MessageKind)
file_remarks accounts bytes = remarks_unless accounts bytes (abandoned Udev bytes)
