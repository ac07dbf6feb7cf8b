-- What is reported with a text of a file is in the file at the place that is reported.
use Rattle.std.proofs.Common.{◌≡◌, ℕ, ◌+◌, ◌-◌, ◌<◌, ◌≤◌, ◌^◌, true≢false, List, [], ◌∷◌, ◌++◌, length, take, drop, map, zip, Option, Some, None, refl, ap, sym, ◌∙◌, subst, append_assoc, length-append, length-drop, length-take, arith}
use Rattle.std.specs.List.{AllByRecursion, flat_map}
use Rattle.std.proofs.Math.Seq.{drop-append-add}
use Rattle.std.proofs.lemmas.List.{drop-append-le, take-append-le}
use Rattle.text_bytes.specs.Lines.{NumberedLine, numbered_lines}
use Rattle.text_bytes.specs.declared.profile.Profile.{Profile}
use Rattle.text_bytes.specs.declared.source_file.SourceFile.{SourceFile}
use Rattle.file_messages.specs.declared.message.MessageKind.{MessageKind}
use Rattle.rule_types.specs.Jumps.{landings}
use Rattle.rule_types.specs.declared.jumps.Landing.{Landing}
use Rattle.rule_core.specs.Ends.{abandoned}
use Rattle.rule_core.specs.Lines.{joined_lines}
use Rattle.rule_core.specs.Drafts.{draft_of}
use Rattle.rule_core.specs.Rules.{line_findings, names_of, reading_of}
use Rattle.rule_types.specs.declared.spot.Spot.{Spot}
use Rattle.rule_places.specs.Files.{findings_of_lines, findings_unless, open_findings, placed_findings, placed_from}
use Rattle.rule_places.specs.Kept.{kept_lines, place_in}
use Rattle.rule_places.specs.Laws.{IsFoundIn, IsInFile, IsTextThere}
use Rattle.rule_places.specs.Placed.{placed}
use Rattle.rule_places.specs.Shown.{kept_text}
use Rattle.rule_places.specs.declared.placed_finding.PlacedFinding.{PlacedFinding}
use Rattle.rule_places.proofs.Joining.{all_joined}
use Rattle.rule_places.proofs.Placing.{all_placed}
use Rattle.rule_places.proofs.Placement.{all_in_place}

-- a part of a line is among the bytes of all lines at the line's place
part_of_all : (all before text following : List ℕ) (start at size : ℕ) → all ≡ before ++ (text ++ following) → length before ≡ start → at ≤ length text → size ≤ length (drop at text)
    → take size (drop (start + at) all) ≡ take size (drop at text)
part_of_all all before text following start at size e l within fits =
    ap (λ (n : ℕ). take size (drop (n + at) all)) (sym l)
    ∙ ap (λ (xs : List ℕ). take size (drop (length before + at) xs)) e
    ∙ ap (take size) (drop-append-add before (text ++ following) at ∙ drop-append-le at text following within)
    ∙ take-append-le size (drop at text) following fits

-- how far a part of a line reaches
part_fits : (text word : List ℕ) (at size : ℕ) → size ≡ length word → take size (drop at text) ≡ word → 0 < length word → (at < length text) × (size ≤ length (drop at text))
part_fits text word at size e f some =
    let taken = length-take size (drop at text) in
    let left = length-drop at text in
    let same = ap (λ (xs : List ℕ). length xs) f in
    (omega (arith, e, taken, left, same, some), omega (arith, e, taken, left, same, some))

-- a part of a line is less than all
part_within : (all before text following : List ℕ) (start at : ℕ) → all ≡ before ++ (text ++ following) → length before ≡ start → at < length text → start + at < length all
part_within all before text following start at e l h =
    let whole = ap (λ (xs : List ℕ). length xs) e in
    let outer = length-append before (text ++ following) in
    let inner = length-append text following in
    omega (arith, whole, outer, inner, l, h)

-- what is reported for a line
spot_in_file : (bytes before text following : List ℕ) (number start : ℕ) (s : Spot MessageKind) → length bytes < 2 ^ 32 - 1 → kept_text (numbered_lines bytes) ≡ before ++ (text ++ following) → length before ≡ start
    → IsTextThere text s → IsInFile bytes (placed (kept_lines bytes) number start s)
spot_in_file bytes before text following number start s few e l h reported some =
    let all = kept_text (numbered_lines bytes) in
    let is_present = h reported some in
    let fits = part_fits text s.word s.start s.size is_present.0 is_present.1 some in
    let size = is_present.0 in
    let within : s.start ≤ length text = let f = fits.0 in omega (arith, f) in
    subst (λ (word : List ℕ). IsFoundIn bytes word (place_in (kept_lines bytes) (start + s.start) s.size))
    (part_of_all all before text following start s.start s.size e l within fits.1 ∙ is_present.1)
    (all_placed bytes (start + s.start) s.size few (part_within all before text following start s.start e l fits.0) (omega (arith, size, some)))

spots_in_file : (bytes before text following : List ℕ) (number start : ℕ) (spots : List (Spot MessageKind)) → length bytes < 2 ^ 32 - 1 → kept_text (numbered_lines bytes) ≡ before ++ (text ++ following) → length before ≡ start
    → AllByRecursion (IsTextThere text) spots → AllByRecursion (IsInFile bytes) (map (placed (kept_lines bytes) number start) spots)
spots_in_file bytes before text following number start [] few e l all = tt
spots_in_file bytes before text following number start (s ∷ spots) few e l all =
    (spot_in_file bytes before text following number start s few e l all.0, spots_in_file bytes before text following number start spots few e l all.1)

both : (bytes : List ℕ) (xs ys : List (PlacedFinding MessageKind)) → AllByRecursion (IsInFile bytes) xs → AllByRecursion (IsInFile bytes) ys → AllByRecursion (IsInFile bytes) (xs ++ ys)
both bytes [] ys h g = g
both bytes (x ∷ xs) ys h g = (h.0, both bytes xs ys h.1 g)

-- lines, each with what becomes of its jumps
lines_in_file : (by : Profile) (bytes before following : List ℕ) (start : ℕ) (ls : List NumberedLine) (found : List Landing) → length bytes < 2 ^ 32 - 1
    → kept_text (numbered_lines bytes) ≡ before ++ (flat_map (λ l. l.text) ls ++ following) → length before ≡ start
    → AllByRecursion (IsInFile bytes) (placed_from (kept_lines bytes) start (zip (map (reading_of by) ls) found))
lines_in_file by bytes before following start [] found few e l = tt
lines_in_file by bytes before following start (line ∷ ls) [] few e l = tt
lines_in_file by bytes before following start (line ∷ ls) (m ∷ found) few e l =
    let others = flat_map (λ x. x.text) ls in
    let here : kept_text (numbered_lines bytes) ≡ before ++ (line.text ++ (others ++ following)) = e ∙ ap (λ (x : List ℕ). before ++ x) (append_assoc line.text others following) in
    let next : kept_text (numbered_lines bytes) ≡ (before ++ line.text) ++ (others ++ following) = here ∙ sym (append_assoc before line.text (others ++ following)) in
    let long : length (before ++ line.text) ≡ start + length line.text = length-append before line.text ∙ ap (λ (n : ℕ). n + length line.text) l in
    both bytes (map (placed (kept_lines bytes) line.number start) (line_findings (draft_of by line.text) m)) (placed_from (kept_lines bytes) (start + length line.text) (zip (map (reading_of by) ls) found))
    (spots_in_file bytes before line.text (others ++ following) line.number start (line_findings (draft_of by line.text) m) few here l (all_in_place by line.text m))
    (lines_in_file by bytes (before ++ line.text) following (start + length line.text) ls found few next long)

-- a line that is open
open_in_file : (bytes : List ℕ) (at : Option ℕ) → AllByRecursion (IsInFile bytes) (open_findings (kept_lines bytes) at)
open_in_file bytes None = tt
open_in_file bytes (Some number) = (λ reported some. absurd (true≢false (sym reported)), tt)

lines_in_place : (by : Profile) (bytes : List ℕ) → length bytes < 2 ^ 32 - 1 → AllByRecursion (IsInFile bytes) (findings_of_lines by bytes)
lines_in_place by bytes few =
    let ls = (joined_lines by bytes).lines in
    let found = landings (map (λ r. names_of r.read) (map (reading_of by) ls)) in
    let joined = all_joined by bytes in
    both bytes (placed_from (kept_lines bytes) 0 (zip (map (reading_of by) ls) found)) (open_findings (kept_lines bytes) (joined_lines by bytes).open_at)
    (lines_in_file by bytes [] joined.0 0 ls found few joined.1 refl)
    (open_in_file bytes (joined_lines by bytes).open_at)

file_in_place : (by : Profile) (bytes : List ℕ) (o : Option ℕ) → length bytes < 2 ^ 32 - 1 → AllByRecursion (IsInFile bytes) (findings_unless by bytes o)
file_in_place by bytes None few = lines_in_place by bytes few
file_in_place by bytes (Some number) few = (λ reported some. absurd (true≢false (sym reported)), tt)

pub all_in_file : (by : Profile) (file : SourceFile) → length file.bytes < 2 ^ 32 - 1 → AllByRecursion (IsInFile file.bytes) (placed_findings by file)
unfolding placed_findings
all_in_file by file few = file_in_place by file.bytes (abandoned by file.bytes) few
