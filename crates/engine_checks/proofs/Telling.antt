-- What is told of a rules file line by line is the plain lines of what is reported for it.
use Rattle.std.proofs.Common.{◌≡◌, ℕ, ◌+◌, ◌<◌, ◌≤◌, Bool, true, false, true≢false, not, ◌&&◌, ◌||◌, cond, nat_lt, List, [], ◌∷◌, ◌++◌, filter, length, map, sum_by, Option, Some, None, refl, ap, ap₂, subst, sym, ◌∙◌, append-nil, append_assoc, arith}
use Rattle.std.specs.Prelude.{⊤}
use Rattle.std.specs.List.{flat_map, zip}
use Rattle.std.proofs.lemmas.Bool.{and_parts, ltb-true}
use Rattle.std.proofs.lemmas.Grind.{flat_map-append}
use Rattle.std.proofs.lemmas.List.{map-append}
use Rattle.std.proofs.lemmas.List.Sums.{sum_by-cons}
use Rattle.text_bytes.specs.Text.{Text}
use Rattle.text_bytes.specs.declared.profile.Profile.{Profile}
use Rattle.text_bytes.specs.declared.profile.Profile.TheVariants.{Manual, Udev}
use Rattle.text_bytes.specs.declared.source_file.SourceFile.{SourceFile}
use Rattle.file_messages.specs.declared.message.MessageKind.{MessageKind}
use Rattle.rule_types.specs.Jumps.{landings}
use Rattle.rule_types.specs.declared.jumps.Landing.{Landing}
use Rattle.rule_types.specs.declared.spot.Spot.{Spot}
use Rattle.rule_core.specs.Counts.{token_count}
use Rattle.rule_core.specs.Ends.{abandoned}
use Rattle.rule_core.specs.Laws.{RisesFrom}
use Rattle.rule_core.specs.Lines.{Joined, NumberedLine, joined_lines}
use Rattle.rule_core.specs.Notes.{AreSilent}
use Rattle.rule_core.specs.Rules.{Reading, file_rules, landed, line_findings, names_of, reading_of}
use Rattle.rule_lints.specs.declared.lint.Lint.{Lint}
use Rattle.rule_types.specs.Rules.{tokens_in}
use Rattle.rule_remarks.specs.Accounts.{Accounts}
use Rattle.rule_places.specs.Files.{open_findings, placed_from, placed_lines}
use Rattle.rule_places.specs.Kept.{kept_lines}
use Rattle.rule_places.specs.Placed.{placed}
use Rattle.rule_places.specs.declared.kept.KeptLine.{KeptLine}
use Rattle.rule_places.specs.declared.placed_finding.PlacedFinding.{PlacedFinding}
use Rattle.rule_file_lints.specs.FileLints.{FileNames, RulesAbove, lints_of_lines}
use Rattle.rule_file_lints.specs.Steps.{above_after, lints_over, names_in, nothing_above, spots_at}
use Rattle.rule_file_lints.proofs.Passing.{all_known}
use Rattle.rule_remarks.specs.ByLine.{by_line}
use Rattle.rule_remarks.specs.Rules.{line_remarks, remarks_from}
use Rattle.rule_remarks.proofs.ByLines.{both_rise}
use Rattle.engine_sessions.specs.declared.line.Line.{Line}
use Rattle.engine_formats.specs.Diagnostics.{DiagnosticValue}
use Rattle.engine_formats.specs.Lines.{plain_line}
use Rattle.file_catalogue.specs.declared.remark.Remark.TheVariants as about
use Rattle.engine_checks.specs.Codes.{has_comments}
use Rattle.engine_checks.specs.Files.{file_text, ignores_counted, lint_diagnostic, rule_diagnostic}
use Rattle.engine_checks.specs.Ignores.{Ignore, ignores_in}
use Rattle.engine_checks.specs.LinesFound.{read_found, read_lints, read_remarks}
use Rattle.engine_checks.specs.Reported.{Asked, FileText, file_reported, is_asked, is_reported, merged}
use Rattle.engine_checks.specs.Tables.{FileRead, read_by, rules_found_by, rules_reported_by}
use Rattle.engine_checks.specs.Told.{above_told, are_rising, bare, is_open_after, joined_told, line_said, line_told, lines_said, lines_told, lints_at, lints_said, messages_said, names_told, open_said, reads_silent, remarks_at, reported_by, told}
use Rattle.engine_checks.proofs.ByLines.{alone, made_by_line}
use Rattle.engine_checks.proofs.InTurn.{AreOn, line_in_turn, on_both, rises_after}
use Rattle.engine_checks.proofs.ReadOnce.{found_once, tokens_once}

abbrev Lines : Type 0
Lines = List (Reading × Landing)

abbrev Said : Type 0
Said = List DiagnosticValue

-- lines of which each has a greater number than the one before, and the open one has the greatest
abbrev pub RiseAfter : ℕ → Lines → Option ℕ → Type 0
RiseAfter last [] None = ⊤
RiseAfter last [] (Some number) = last < number
RiseAfter last (x ∷ lines) open_at = (last < x.0.line) × RiseAfter x.0.line lines open_at

opens_later : (last next : ℕ) (open_at : Option ℕ) → last ≤ next → RiseAfter next [] open_at → RiseAfter last [] open_at
opens_later last next None l h = tt
opens_later last next (Some number) l h =
    let later : next < number = h in
    omega (arith, l, later)

open_rises : (last : ℕ) (open_at : Option ℕ) → is_open_after last open_at ≡ true → RiseAfter last [] open_at
open_rises last None h = tt
open_rises last (Some number) h = ltb-true last number h

past_all : (last : ℕ) (ls : List NumberedLine) (open_at : Option ℕ) → are_rising last ls open_at ≡ true → RiseAfter last [] open_at
past_all last [] open_at h = open_rises last open_at h
past_all last (l ∷ ls) open_at h =
    let less : last < l.number = ltb-true last l.number (and_parts (nat_lt last l.number) (are_rising l.number ls open_at) h).0 in
    opens_later last l.number open_at (omega (arith, less)) (past_all l.number ls open_at (and_parts (nat_lt last l.number) (are_rising l.number ls open_at) h).1)

pub rise_read : (by : Profile) (last : ℕ) (ls : List NumberedLine) (gs : List Landing) (open_at : Option ℕ) → are_rising last ls open_at ≡ true → RiseAfter last (zip (map (reading_of by) ls) gs) open_at
rise_read by last [] gs open_at h = open_rises last open_at h
rise_read by last (l ∷ ls) [] open_at h = past_all last (l ∷ ls) open_at h
rise_read by last (l ∷ ls) (g ∷ gs) open_at h =
    (ltb-true last l.number (and_parts (nat_lt last l.number) (are_rising l.number ls open_at) h).0, rise_read by l.number ls gs open_at (and_parts (nat_lt last l.number) (are_rising l.number ls open_at) h).1)

-- by these numbers diagnostics are merged
abbrev turn : DiagnosticValue → ℕ
turn d = d.begins

messages_on : (name : Text) (n : ℕ) (spots : List (Spot MessageKind)) → AreOn turn n (messages_said name n spots)
messages_on name n [] = tt
messages_on name n (s ∷ spots) = (refl, messages_on name n spots)

lints_on : (name : Text) (n : ℕ) (spots : List (Spot Lint)) → AreOn turn n (lints_said name n spots)
lints_on name n [] = tt
lints_on name n (s ∷ spots) = (refl, lints_on name n spots)

module _ (asked : Asked) (name : Text) (names : Option FileNames) where
  -- what is found, what udev reports, and the lints, each for all lines
  abbrev findings_said : Lines → Said
  findings_said [] = []
  findings_said (x ∷ lines) = messages_said name x.0.line (line_findings x.0.read x.1) ++ findings_said lines

  abbrev remarks_said : Lines → Said
  remarks_said [] = []
  remarks_said (x ∷ lines) = messages_said name x.0.line (remarks_at asked.profile asked.accounts x.0.read) ++ remarks_said lines

  abbrev all_lints : RulesAbove → Lines → Said
  all_lints a [] = []
  all_lints a (x ∷ lines) = lints_said name x.0.line (lints_at asked.profile names a x) ++ all_lints (above_told names a x) lines

  findings_rise : (last : ℕ) (lines : Lines) (open_at : Option ℕ) → RiseAfter last lines open_at → RisesFrom turn (last + 1) (findings_said lines ++ open_said name open_at)
  findings_rise last [] None h = tt
  findings_rise last [] (Some number) h =
      let later : last < number = h in
      (omega (arith, later), tt)
  findings_rise last (x ∷ lines) open_at h =
      let found : Said = messages_said name x.0.line (line_findings x.0.read x.1) in
      subst (λ (ds : Said). RisesFrom turn (last + 1) ds) (sym (append_assoc found (findings_said lines) (open_said name open_at)))
      (rises_after turn (last + 1) x.0.line found (findings_said lines ++ open_said name open_at) (omega (arith, h.0)) (messages_on name x.0.line (line_findings x.0.read x.1)) (findings_rise x.0.line lines open_at h.1))

  remarks_rise : (last : ℕ) (lines : Lines) (open_at : Option ℕ) → RiseAfter last lines open_at → RisesFrom turn (last + 1) (remarks_said lines)
  remarks_rise last [] open_at h = tt
  remarks_rise last (x ∷ lines) open_at h =
      let said : List (Spot MessageKind) = remarks_at asked.profile asked.accounts x.0.read in
      rises_after turn (last + 1) x.0.line (messages_said name x.0.line said) (remarks_said lines) (omega (arith, h.0)) (messages_on name x.0.line said) (remarks_rise x.0.line lines open_at h.1)

  lints_rise : (last : ℕ) (a : RulesAbove) (lines : Lines) (open_at : Option ℕ) → RiseAfter last lines open_at → RisesFrom turn (last + 1) (all_lints a lines)
  lints_rise last a [] open_at h = tt
  lints_rise last a (x ∷ lines) open_at h =
      let spots : List (Spot Lint) = lints_at asked.profile names a x in
      rises_after turn (last + 1) x.0.line (lints_said name x.0.line spots) (all_lints (above_told names a x) lines) (omega (arith, h.0)) (lints_on name x.0.line spots) (lints_rise x.0.line (above_told names a x) lines open_at h.1)

  -- line by line, as they are merged
  merged_in_turn : (last : ℕ) (a : RulesAbove) (lines : Lines) (open_at : Option ℕ) → RiseAfter last lines open_at
      → by_line turn (by_line turn (findings_said lines ++ open_said name open_at) (remarks_said lines)) (all_lints a lines) ≡ lines_said asked name names a lines ++ open_said name open_at
  merged_in_turn last a [] open_at h = alone turn (by_line turn (open_said name open_at) []) ∙ alone turn (open_said name open_at)
  merged_in_turn last a (x ∷ lines) open_at h =
      let n : ℕ = x.0.line in
      let found : Said = messages_said name n (line_findings x.0.read x.1) in
      let said : Said = messages_said name n (remarks_at asked.profile asked.accounts x.0.read) in
      let lints : Said = lints_said name n (lints_at asked.profile names a x) in
      let more : Said = findings_said lines ++ open_said name open_at in
      let rest : Said = all_lints (above_told names a x) lines in
      let both : Said = by_line turn more (remarks_said lines) in
      let whole : Said = by_line turn both rest in
      let on_found : AreOn turn n found = messages_on name n (line_findings x.0.read x.1) in
      let on_said : AreOn turn n said = messages_on name n (remarks_at asked.profile asked.accounts x.0.read) in
      let more_rises : RisesFrom turn (n + 1) more = findings_rise n lines open_at h.1 in
      let remarks_later : RisesFrom turn (n + 1) (remarks_said lines) = remarks_rise n lines open_at h.1 in
      ap (λ (ds : Said). by_line turn (by_line turn ds (said ++ remarks_said lines)) (lints ++ rest)) (append_assoc found (findings_said lines) (open_said name open_at))
      ∙ ap (λ (ds : Said). by_line turn ds (lints ++ rest)) (line_in_turn turn n found more said (remarks_said lines) on_found on_said more_rises remarks_later ∙ sym (append_assoc found said both))
      ∙ line_in_turn turn n (found ++ said) both lints rest (on_both turn n found said on_found on_said) (lints_on name n (lints_at asked.profile names a x)) (both_rise turn (n + 1) more (remarks_said lines) more_rises remarks_later) (lints_rise n (above_told names a x) lines open_at h.1)
      ∙ append_assoc found said (lints ++ whole)
      ∙ ap (λ (ds : Said). found ++ (said ++ (lints ++ ds))) (merged_in_turn n (above_told names a x) lines open_at h.1)
      ∙ ap (λ (ds : Said). found ++ ds) (sym (append_assoc said lints (lines_said asked name names (above_told names a x) lines ++ open_said name open_at)))
      ∙ sym (append_assoc found (said ++ lints) (lines_said asked name names (above_told names a x) lines ++ open_said name open_at))
      ∙ sym (append_assoc (found ++ (said ++ lints)) (lines_said asked name names (above_told names a x) lines) (open_said name open_at))

-- a diagnostic as a plain line shows it
abbrev stripped : DiagnosticValue → DiagnosticValue
stripped d = bare d.name d.begins d.remark d.word

same_line : (d : DiagnosticValue) → plain_line d ≡ plain_line (stripped d)
unfolding plain_line
same_line d = refl

told_stripped : (asked : Asked) (ds : Said) → told asked ds ≡ told asked (map stripped ds)
told_stripped asked [] = refl
told_stripped asked (d ∷ ds) = ap₂ (λ (a b : List ℕ). a ++ b) (ap (λ (t : List ℕ). cond (is_asked asked d.remark) t []) (same_line d)) (told_stripped asked ds)

-- what is told is the lines of what is asked for
pub told_kept : (asked : Asked) (ds : Said) → told asked ds ≡ flat_map plain_line (filter (λ d. is_asked asked d.remark) ds)
told_kept asked [] = refl
told_kept asked (d ∷ ds) = by (is_asked asked d.remark) (told_kept asked ds)
  where
    kept : Said
    kept = filter (λ e. is_asked asked e.remark) ds

    by : (b : Bool) → told asked ds ≡ flat_map plain_line kept → cond b (plain_line d) [] ++ told asked ds ≡ flat_map plain_line (cond b (d ∷ kept) kept)
    by true h = ap (λ (t : List ℕ). plain_line d ++ t) h
    by false h = h

-- what is told of a line is told part by part
pub all_of_line : (asked : Asked) (found remarks lints : Said) → told asked (found ++ (remarks ++ lints)) ≡ told asked found ++ (told asked remarks ++ told asked lints)
all_of_line asked found remarks lints =
    flat_map-append (line_told asked) found (remarks ++ lints)
    ∙ ap (λ (t : List ℕ). told asked found ++ t) (flat_map-append (line_told asked) remarks lints)

-- what is placed is said of the same lines
module _ (file : FileText) (kept : List KeptLine) where
  abbrev message_said : PlacedFinding MessageKind → DiagnosticValue
  message_said p = stripped (rule_diagnostic file p)

  abbrev lint_said : PlacedFinding Lint → DiagnosticValue
  lint_said p = stripped (lint_diagnostic file p)

  spots_placed : (n start : ℕ) (spots : List (Spot MessageKind)) → map message_said (map (placed kept n start) spots) ≡ messages_said file.name n spots
  spots_placed n start [] = refl
  spots_placed n start (s ∷ spots) = ap (λ (ds : Said). bare file.name n (about.Message s.kind) s.word ∷ ds) (spots_placed n start spots)

  lints_placed : (n start : ℕ) (spots : List (Spot Lint)) → map lint_said (map (placed kept n start) spots) ≡ lints_said file.name n spots
  lints_placed n start [] = refl
  lints_placed n start (s ∷ spots) = ap (λ (ds : Said). bare file.name n (about.Lint s.kind) s.word ∷ ds) (lints_placed n start spots)

  open_placed : (open_at : Option ℕ) → map message_said (open_findings kept open_at) ≡ open_said file.name open_at
  open_placed None = refl
  open_placed (Some number) = refl

  findings_placed : (asked : Asked) (names : Option FileNames) (start : ℕ) (lines : Lines) → map message_said (placed_from kept start lines) ≡ findings_said asked file.name names lines
  findings_placed asked names start [] = refl
  findings_placed asked names start (x ∷ lines) =
      map-append message_said (map (placed kept x.0.line start) (line_findings x.0.read x.1)) (placed_from kept (start + length x.0.text) lines)
      ∙ ap₂ (λ (a b : Said). a ++ b) (spots_placed x.0.line start (line_findings x.0.read x.1)) (findings_placed asked names (start + length x.0.text) lines)

  -- by the manual nothing is reported besides
  udev_placed : (accounts : Accounts) (start : ℕ) (lines : Lines) → map message_said (remarks_from accounts kept start lines) ≡ flat_map (λ x. messages_said file.name x.0.line (line_remarks accounts x.0.read)) lines
  udev_placed accounts start [] = refl
  udev_placed accounts start (x ∷ lines) =
      map-append message_said (map (placed kept x.0.line start) (line_remarks accounts x.0.read)) (remarks_from accounts kept (start + length x.0.text) lines)
      ∙ ap₂ (λ (a b : Said). a ++ b) (spots_placed x.0.line start (line_remarks accounts x.0.read)) (udev_placed accounts (start + length x.0.text) lines)

  remarks_by : (by : Profile) (accounts : Accounts) (lines : Lines) → map message_said (read_remarks by accounts kept lines) ≡ flat_map (λ x. messages_said file.name x.0.line (remarks_at by accounts x.0.read)) lines
  remarks_by Manual accounts lines = none lines
    where
      none : (ls : Lines) → [] ≡ flat_map (λ x. messages_said file.name x.0.line (remarks_at Manual accounts x.0.read)) ls
      none [] = refl
      none (x ∷ ls) = none ls
  remarks_by Udev accounts lines = udev_placed accounts 0 lines

  remarks_flat : (asked : Asked) (names : Option FileNames) (lines : Lines) → flat_map (λ x. messages_said file.name x.0.line (remarks_at asked.profile asked.accounts x.0.read)) lines ≡ remarks_said asked file.name names lines
  remarks_flat asked names [] = refl
  remarks_flat asked names (x ∷ lines) = ap (λ (ds : Said). messages_said file.name x.0.line (remarks_at asked.profile asked.accounts x.0.read) ++ ds) (remarks_flat asked names lines)

  lints_some : (asked : Asked) (n : FileNames) (a : RulesAbove) (start : ℕ) (lines : Lines) → map lint_said (lints_over asked.profile n kept a start lines) ≡ all_lints asked file.name (Some n) a lines
  lints_some asked n a start [] = refl
  lints_some asked n a start (x ∷ lines) =
      map-append lint_said (map (placed kept x.0.line start) (spots_at asked.profile n a x)) (lints_over asked.profile n kept (above_after a x) (start + length x.0.text) lines)
      ∙ ap₂ (λ (a b : Said). a ++ b) (lints_placed x.0.line start (spots_at asked.profile n a x)) (lints_some asked n (above_after a x) (start + length x.0.text) lines)

  lints_none : (asked : Asked) (a : RulesAbove) (lines : Lines) → [] ≡ all_lints asked file.name None a lines
  lints_none asked a [] = refl
  lints_none asked a (x ∷ lines) = lints_none asked a lines

  lints_by : (asked : Asked) (lines : Lines) (b : Bool)
      → map lint_said (cond b (lints_of_lines asked.profile file.name kept lines) []) ≡ all_lints asked file.name (cond b (Some (names_in file.name lines)) None) nothing_above lines
  lints_by asked lines true =
      ap (map lint_said) (sym (all_known asked.profile file.name kept (names_in file.name lines) lines refl))
      ∙ lints_some asked (names_in file.name lines) nothing_above 0 lines
  lints_by asked lines false = lints_none asked nothing_above lines

  or_neither : (a b : Bool) → b ≡ false → (a || b) ≡ a
  or_neither true b e = refl
  or_neither false b e = e

  -- what is found in a file, as plain lines show it, is said line by line
  pub found_said : (asked : Asked) (lines : Lines) (open_at : Option ℕ) → has_comments asked.ignored ≡ false → RiseAfter 0 lines open_at
      → map stripped (read_found asked file.name file kept lines open_at) ≡ lines_said asked file.name (names_told asked file.name lines) nothing_above lines ++ open_said file.name open_at
  found_said asked lines open_at c r =
      let names : Option FileNames = names_told asked file.name lines in
      let found : List (PlacedFinding MessageKind) = placed_lines kept lines open_at in
      let remarks : List (PlacedFinding MessageKind) = read_remarks asked.profile asked.accounts kept lines in
      let lints : List (PlacedFinding Lint) = read_lints asked file.name kept lines in
      let one : map message_said found ≡ findings_said asked file.name names lines ++ open_said file.name open_at =
      map-append message_said (placed_from kept 0 lines) (open_findings kept open_at)
      ∙ ap₂ (λ (a b : Said). a ++ b) (findings_placed asked names 0 lines) (open_placed open_at) in
      let two : map message_said remarks ≡ remarks_said asked file.name names lines = remarks_by asked.profile asked.accounts lines ∙ remarks_flat asked names lines in
      let three : map lint_said lints ≡ all_lints asked file.name names nothing_above lines =
      ap (λ (b : Bool). map lint_said (cond b (lints_of_lines asked.profile file.name kept lines) [])) (or_neither asked.lint (has_comments asked.ignored) c)
      ∙ lints_by asked lines asked.lint in
      made_by_line stripped turn (map (rule_diagnostic file) (by_line (λ p. p.begins) found remarks)) (map (lint_diagnostic file) lints)
      ∙ ap₂ (by_line turn) (twice (by_line (λ p. p.begins) found remarks) ∙ made_by_line message_said turn found remarks ∙ ap₂ (by_line turn) one two) (twice_lints lints ∙ three)
      ∙ merged_in_turn asked file.name names 0 nothing_above lines open_at r
    where
      twice : (ps : List (PlacedFinding MessageKind)) → map stripped (map (rule_diagnostic file) ps) ≡ map message_said ps
      twice [] = refl
      twice (p ∷ ps) = ap (λ (ds : Said). message_said p ∷ ds) (twice ps)

      twice_lints : (ps : List (PlacedFinding Lint)) → map stripped (map (lint_diagnostic file) ps) ≡ map lint_said ps
      twice_lints [] = refl
      twice_lints (p ∷ ps) = ap (λ (ds : Said). lint_said p ∷ ds) (twice_lints ps)

and_true : (b : Bool) → (b && true) ≡ b
and_true true = refl
and_true false = refl

-- where no comment counts, what is asked for is reported
all_asked : (asked : Asked) (ds : Said) → filter (is_reported asked []) ds ≡ filter (λ d. is_asked asked d.remark) ds
all_asked asked [] = refl
all_asked asked (d ∷ ds) =
    ap (λ (b : Bool). cond b (d ∷ filter (is_reported asked []) ds) (filter (is_reported asked []) ds)) (and_true (is_asked asked d.remark))
    ∙ ap (λ (es : Said). cond (is_asked asked d.remark) (d ∷ es) es) (all_asked asked ds)

pub bare_reported : (asked : Asked) (file : FileText) (ignores : List Ignore) (ds : Said) → ignores ≡ [] → file_reported asked file ignores ds ≡ filter (λ d. is_asked asked d.remark) ds
unfolding file_reported
bare_reported asked file ignores ds e =
    ap (λ (is : List Ignore). file_reported asked file is ds) e
    ∙ alone turn (filter (is_reported asked []) ds)
    ∙ all_asked asked ds

-- what is told of the lines of a file is the plain lines of what is reported for it
pub file_told : (asked : Asked) (line : Line) (f : SourceFile) (joined : Joined) → joined ≡ joined_lines asked.profile f.bytes
    → has_comments asked.ignored ≡ false → abandoned asked.profile f.bytes ≡ None → are_rising 0 joined.lines joined.open_at ≡ true
    → joined_told asked f.name joined ≡ flat_map plain_line (reported_by asked line f)
file_told asked line f joined j c o r =
    let file : FileText = file_text line f in
    let kept : List KeptLine = kept_lines f.bytes in
    let lines : Lines = landed (map (reading_of asked.profile) joined.lines) in
    let rises : RiseAfter 0 lines joined.open_at = rise_read asked.profile 0 joined.lines _ joined.open_at r in
    let said : Said = lines_said asked f.name (names_told asked f.name lines) nothing_above lines in
    let found : Said = read_found asked f.name file kept lines joined.open_at in
    sym (flat_map-append (line_told asked) said (open_said f.name joined.open_at))
    ∙ ap (told asked) (sym (found_said file kept asked lines joined.open_at c rises))
    ∙ sym (told_stripped asked found)
    ∙ ap (told asked) (found_once asked (read_by line f) f.name file f.bytes joined refl refl refl j o)
    ∙ told_kept asked (rules_found_by asked (read_by line f))
    ∙ sym (ap (flat_map plain_line) (bare_reported asked file (ignores_counted asked f) (rules_found_by asked (read_by line f)) (ap (λ (b : Bool). cond b (ignores_in asked.profile f) []) c)))

-- a file that is read line by line
pub read_told : (asked : Asked) (line : Line) (f : SourceFile) (bytes name : List ℕ) (joined : Joined) (before now : List ℕ) → bytes ≡ f.bytes → name ≡ f.name → joined ≡ joined_lines asked.profile bytes
    → has_comments asked.ignored ≡ false → abandoned asked.profile f.bytes ≡ None → are_rising 0 joined.lines joined.open_at ≡ true → now ≡ before ++ joined_told asked name joined
    → now ≡ before ++ flat_map plain_line (reported_by asked line f)
read_told asked line f bytes name joined before now b n j c o r e =
    e
    ∙ ap (λ (m : List ℕ). before ++ joined_told asked m joined) n
    ∙ ap (λ (t : List ℕ). before ++ t) (file_told asked line f joined (j ∙ ap (joined_lines asked.profile) b) c o r)

pub read_counted : (by : Profile) (f : SourceFile) (bytes : List ℕ) (joined : Joined) (count : ℕ) → bytes ≡ f.bytes → joined ≡ joined_lines by bytes → abandoned by f.bytes ≡ None → count ≡ token_count (landed (map (reading_of by) joined.lines)) → count ≡ tokens_in (file_rules by f)
read_counted by f bytes joined count b j o e = e ∙ sym (tokens_once by f f.bytes joined refl (j ∙ ap (joined_lines by) b) o)

-- nothing is said of a silent line where these are not read
nothing_said : (by : Profile) (accounts : Accounts) (name : Text) (names : Option FileNames) (a : RulesAbove) (x : Reading × Landing) → reads_silent by names ≡ false → line_findings x.0.read x.1 ≡ []
    → messages_said name x.0.line (line_findings x.0.read x.1) ++ (messages_said name x.0.line (remarks_at by accounts x.0.read) ++ lints_said name x.0.line (lints_at by names a x)) ≡ []
nothing_said Manual accounts name None a x r f = ap (λ (spots : List (Spot MessageKind)). messages_said name x.0.line spots ++ []) f
nothing_said Manual accounts name (Some n) a x r f = absurd (true≢false r)
nothing_said Udev accounts name names a x r f = absurd (true≢false r)

above_stays : (by : Profile) (names : Option FileNames) (a : RulesAbove) (x : Reading × Landing) → reads_silent by names ≡ false → a ≡ above_told names a x
above_stays Manual None a x r = refl
above_stays Manual (Some n) a x r = absurd (true≢false r)
above_stays Udev names a x r = absurd (true≢false r)

-- nothing is missed of lines of which silent ones are passed over
all_told : (asked : Asked) (name : Text) (names : Option FileNames) (a : RulesAbove) (silent : List Bool) (lines : Lines) → AreSilent silent lines → lines_told asked name names a silent lines ≡ told asked (lines_said asked name names a lines)
all_told asked name names a [] [] h = refl
all_told asked name names a [] (x ∷ lines) h = absurd h
all_told asked name names a (s ∷ silent) [] h = absurd h
all_told asked name names a (s ∷ silent) (x ∷ lines) h = by (all_told asked name names (above_told names a x) silent lines h.1) s (reads_silent asked.profile names) refl h.0
  where
    said : Said
    said = line_said asked name (lints_at asked.profile names a x) x

    rest : RulesAbove → List ℕ
    rest b = lines_told asked name names b silent lines

    parts : told asked (lines_said asked name names a (x ∷ lines)) ≡ told asked said ++ told asked (lines_said asked name names (above_told names a x) lines)
    parts = flat_map-append (line_told asked) said (lines_said asked name names (above_told names a x) lines)

    read : rest (above_told names a x) ≡ told asked (lines_said asked name names (above_told names a x) lines) → told asked said ++ rest (above_told names a x) ≡ told asked (lines_said asked name names a (x ∷ lines))
    read later = ap (λ (ns : List ℕ). told asked said ++ ns) later ∙ sym parts

    passed : rest (above_told names a x) ≡ told asked (lines_said asked name names (above_told names a x) lines) → reads_silent asked.profile names ≡ false → line_findings x.0.read x.1 ≡ [] → rest a ≡ told asked (lines_said asked name names a (x ∷ lines))
    passed later r f =
        ap rest (above_stays asked.profile names a x r)
        ∙ later
        ∙ ap (λ (ds : Said). told asked ds ++ told asked (lines_said asked name names (above_told names a x) lines)) (sym (nothing_said asked.profile asked.accounts name names a x r f))
        ∙ sym parts

    by : rest (above_told names a x) ≡ told asked (lines_said asked name names (above_told names a x) lines) → (s b : Bool) → reads_silent asked.profile names ≡ b → (s ≡ true → line_findings x.0.read x.1 ≡ [])
        → cond (s && not b) [] (told asked said) ++ rest (cond (s && not b) a (above_told names a x)) ≡ told asked (lines_said asked name names a (x ∷ lines))
    by later true false r f = passed later r (f refl)
    by later true true r f = read later
    by later false b r f = read later

-- what is told of joined lines: of each that is read, and of the open one
pub joined_parts : (asked : Asked) (name : Text) (joined : Joined) (lines : Lines) (found : List Landing) (names : Option FileNames) (silent flags : List Bool) (by : Profile) (read : List NumberedLine) (before middle now : List ℕ)
    → lines ≡ zip (map (reading_of asked.profile) joined.lines) found → found ≡ landings (map (λ r. names_of r.read) (map (reading_of asked.profile) joined.lines)) → names ≡ names_told asked name lines
    → AreSilent flags (landed (map (reading_of by) read)) → silent ≡ flags → by ≡ asked.profile → read ≡ joined.lines
    → middle ≡ before ++ lines_told asked name names nothing_above silent lines → now ≡ middle ++ told asked (open_said name joined.open_at) → now ≡ before ++ joined_told asked name joined
joined_parts asked name joined lines found names silent flags by read before middle now l g n s f p r m e =
    let all : lines ≡ landed (map (reading_of asked.profile) joined.lines) = l ∙ ap (zip (map (reading_of asked.profile) joined.lines)) g in
    let same : landed (map (reading_of by) read) ≡ lines = ap₂ (λ (b : Profile) (ls : List NumberedLine). landed (map (reading_of b) ls)) p r ∙ sym all in
    let quiet : AreSilent silent lines = subst (λ (ls : Lines). AreSilent silent ls) same (subst (λ (bs : List Bool). AreSilent bs (landed (map (reading_of by) read))) (sym f) s) in
    e
    ∙ ap (λ (t : List ℕ). t ++ told asked (open_said name joined.open_at)) (m ∙ ap (λ (t : List ℕ). before ++ t) (all_told asked name names nothing_above silent lines quiet))
    ∙ append_assoc before (told asked (lines_said asked name names nothing_above lines)) (told asked (open_said name joined.open_at))
    ∙ ap (λ (ns : Option FileNames). before ++ (told asked (lines_said asked name ns nothing_above lines) ++ told asked (open_said name joined.open_at))) n
    ∙ ap (λ (ls : Lines). before ++ (told asked (lines_said asked name (names_told asked name ls) nothing_above ls) ++ told asked (open_said name joined.open_at))) all

-- a file that is read whole
pub whole_told : (asked : Asked) (line : Line) (f : SourceFile) (reads : List FileRead) (ds : Said) (lines before now : List ℕ)
    → reads ≡ map (read_by line) (f ∷ []) → ds ≡ flat_map (rules_reported_by asked) reads → lines ≡ flat_map plain_line ds → now ≡ before ++ lines → now ≡ before ++ flat_map plain_line (reported_by asked line f)
whole_told asked line f reads ds lines before now r d l e =
    e ∙ ap (λ (t : List ℕ). before ++ t) (l ∙ ap (flat_map plain_line) (d ∙ ap (flat_map (rules_reported_by asked)) r ∙ append-nil (reported_by asked line f)))

pub whole_counted : (by : Profile) (line : Line) (f : SourceFile) (reads : List FileRead) (tokens : ℕ) → reads ≡ map (read_by line) (f ∷ []) → tokens ≡ sum_by (λ read. tokens_in (file_rules by read.file)) reads → tokens ≡ tokens_in (file_rules by f)
whole_counted by line f reads tokens r t =
    let none = sum_by-cons (λ (read : FileRead). tokens_in (file_rules by read.file)) (read_by line f) [] in
    let all : tokens ≡ sum_by (λ read. tokens_in (file_rules by read.file)) (read_by line f ∷ []) = t ∙ ap (sum_by (λ read. tokens_in (file_rules by read.file))) r in
    omega (arith, none, all)
