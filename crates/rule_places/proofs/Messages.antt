-- Without their places the findings of a file are its messages.
use Rattle.std.proofs.Common.{◌≡◌, ℕ, ◌+◌, List, [], ◌∷◌, ◌++◌, length, map, Option, Some, None, refl, ap, ◌∙◌}
use Rattle.std.proofs.lemmas.List.{map-append}
use Rattle.std.specs.List.{flat_map}
use Rattle.file_messages.specs.declared.message.Message.{Message}
use Rattle.text_bytes.specs.declared.profile.Profile.{Profile}
use Rattle.text_bytes.specs.declared.source_file.SourceFile.{SourceFile}
use Rattle.file_messages.specs.declared.message.MessageKind.{MessageKind}
use Rattle.rule_types.specs.declared.jumps.Landing.{Landing}
use Rattle.rule_core.specs.Ends.{abandoned}
use Rattle.rule_core.specs.Lines.{joined_lines}
use Rattle.rule_core.specs.Rules.{Reading, file_messages, landed, line_findings, line_messages, message_at, messages_unless, open_messages, readings_of}
use Rattle.rule_types.specs.declared.spot.Spot.{Spot}
use Rattle.rule_places.specs.Files.{findings_unless, open_findings, placed_findings, placed_from, placed_line}
use Rattle.rule_places.specs.Kept.{kept_lines}
use Rattle.rule_places.specs.Laws.{as_message}
use Rattle.rule_places.specs.Placed.{placed}
use Rattle.rule_places.specs.declared.kept.KeptLine.{KeptLine}

spots_reported : (name : List ℕ) (kept : List KeptLine) (number start : ℕ) (spots : List (Spot MessageKind)) → map (as_message name) (map (placed kept number start) spots) ≡ map (message_at name number) spots
spots_reported name kept number start [] = refl
spots_reported name kept number start (s ∷ spots) = ap (λ (ms : List Message). message_at name number s ∷ ms) (spots_reported name kept number start spots)

lines_reported : (name : List ℕ) (kept : List KeptLine) (start : ℕ) (lines : List (Reading × Landing)) → map (as_message name) (placed_from kept start lines) ≡ flat_map (λ x. line_messages name x.0.line x.0.read x.1) lines
lines_reported name kept start [] = refl
lines_reported name kept start (x ∷ lines) =
    let rest = placed_from kept (start + length x.0.text) lines in
    map-append (as_message name) (placed_line kept start x) rest
    ∙ ap (λ (ms : List Message). ms ++ map (as_message name) rest) (spots_reported name kept x.0.line start (line_findings x.0.read x.1))
    ∙ ap (λ (ms : List Message). line_messages name x.0.line x.0.read x.1 ++ ms) (lines_reported name kept (start + length x.0.text) lines)

open_reported : (name : List ℕ) (kept : List KeptLine) (at : Option ℕ) → map (as_message name) (open_findings kept at) ≡ open_messages name at
open_reported name kept None = refl
open_reported name kept (Some number) = refl

unless_reported : (by : Profile) (f : SourceFile) (o : Option ℕ) → map (as_message f.name) (findings_unless by f.bytes o) ≡ messages_unless by f o
unless_reported by f None =
    let kept = kept_lines f.bytes in
    let lines = landed (readings_of by f) in
    let at = (joined_lines by f.bytes).open_at in
    map-append (as_message f.name) (placed_from kept 0 lines) (open_findings kept at)
    ∙ ap (λ (ms : List Message). ms ++ map (as_message f.name) (open_findings kept at)) (lines_reported f.name kept 0 lines)
    ∙ ap (λ (ms : List Message). flat_map (λ x. line_messages f.name x.0.line x.0.read x.1) lines ++ ms) (open_reported f.name kept at)
unless_reported by f (Some number) = refl

pub findings_reported : (by : Profile) (f : SourceFile) → map (as_message f.name) (placed_findings by f) ≡ file_messages by f
unfolding placed_findings
findings_reported by f = unless_reported by f (abandoned by f.bytes)
