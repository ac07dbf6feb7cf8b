-- All findings of a rules file, with their places.
use Rattle.std.specs.Prelude.{ℕ, ◌+◌, List, [], ◌∷◌, ◌++◌, length, map, Option, Some, None}
use Rattle.text_bytes.specs.Text.{Text}
use Rattle.file_messages.specs.declared.message.MessageKind.TheVariants.{OpenAtEnd}
use Rattle.text_bytes.specs.declared.profile.Profile.{Profile}
use Rattle.text_bytes.specs.declared.source_file.SourceFile.{SourceFile}
use Rattle.file_messages.specs.declared.message.MessageKind.{MessageKind}
use Rattle.rule_types.specs.declared.jumps.Landing.{Landing}
use Rattle.rule_core.specs.Ends.{abandoned}
use Rattle.rule_core.specs.Lines.{joined_lines}
use Rattle.rule_core.specs.Rules.{Reading, landed, line_findings, reading_of}
use Rattle.rule_places.specs.Abandoned.{abandoned_findings}
use Rattle.rule_places.specs.Kept.{kept_lines, place_of_backslash}
use Rattle.rule_places.specs.Placed.{found_at, placed}
use Rattle.rule_places.specs.declared.kept.KeptLine.{KeptLine}
use Rattle.rule_places.specs.declared.placed_finding.PlacedFinding.{PlacedFinding}

-- the findings of a line that follows so many bytes of other joined lines
abbrev pub placed_line : List KeptLine → ℕ → Reading × Landing → List (PlacedFinding MessageKind)
placed_line kept start x = map (placed kept x.0.line start) (line_findings x.0.read x.1)

-- the findings of lines that follow so many bytes of others
abbrev pub placed_from : List KeptLine → ℕ → List (Reading × Landing) → List (PlacedFinding MessageKind)
placed_from kept start [] = []
placed_from kept start (x ∷ lines) = placed_line kept start x ++ placed_from kept (start + length x.0.text) lines

-- the finding of a line that is still open at its file's end
abbrev pub open_findings : List KeptLine → Option ℕ → List (PlacedFinding MessageKind)
open_findings kept None = []
open_findings kept (Some number) = found_at number (place_of_backslash kept) OpenAtEnd [] ∷ []

-- the findings of all lines of a file, of which one may be open at its end
abbrev pub placed_lines : List KeptLine → List (Reading × Landing) → Option ℕ → List (PlacedFinding MessageKind)
placed_lines kept lines open_at = placed_from kept 0 lines ++ open_findings kept open_at

-- the findings of the lines of a file with these bytes, by line
abbrev pub findings_of_lines : Profile → Text → List (PlacedFinding MessageKind)
findings_of_lines profile bytes =
    placed_lines (kept_lines bytes) (landed (map (reading_of profile) (joined_lines profile bytes).lines)) (joined_lines profile bytes).open_at

-- the findings of a file that is given up because of the line with a number, or those of its lines
abbrev pub findings_unless : Profile → Text → Option ℕ → List (PlacedFinding MessageKind)
findings_unless profile bytes None = findings_of_lines profile bytes
findings_unless profile bytes (Some number) = abandoned_findings bytes number

-- the findings of a file
unfoldable pub placed_findings : Profile → SourceFile → List (PlacedFinding MessageKind)
placed_findings profile f = findings_unless profile f.bytes (abandoned profile f.bytes)
