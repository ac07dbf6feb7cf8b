-- What is found in lines that are read once is what is found in their file.
use Rattle.std.proofs.Common.{◌≡◌, ℕ, List, [], Bool, true, false, ◌||◌, cond, map, Option, Some, None, refl, ap, ap₂, sym, ◌∙◌}
use Rattle.text_bytes.specs.declared.profile.Profile.{Profile}
use Rattle.text_bytes.specs.declared.profile.Profile.TheVariants.{Manual, Udev}
use Rattle.text_bytes.specs.declared.source_file.SourceFile.{SourceFile}
use Rattle.file_messages.specs.declared.message.MessageKind.{MessageKind}
use Rattle.rule_types.specs.Rules.{tokens_in}
use Rattle.rule_lints.specs.declared.lint.Lint.{Lint}
use Rattle.text_bytes.specs.Text.{Text}
use Rattle.rule_core.specs.Counts.{token_count}
use Rattle.rule_core.specs.Ends.{abandoned}
use Rattle.rule_core.specs.Lines.{Joined, joined_lines}
use Rattle.rule_core.specs.Rules.{file_rules, landed, reading_of, rules_unless}
use Rattle.rule_core.proofs.TokensCounted.{tokens_counted}
use Rattle.rule_remarks.specs.Accounts.{Accounts}
use Rattle.rule_places.specs.Abandoned.{abandoned_findings}
use Rattle.rule_places.specs.Files.{findings_unless, placed_findings, placed_lines}
use Rattle.rule_places.specs.Kept.{kept_lines}
use Rattle.rule_places.specs.declared.placed_finding.PlacedFinding.{PlacedFinding}
use Rattle.rule_file_lints.specs.FileLints.{lints_of, placed_lints}
use Rattle.rule_file_lints.specs.FileRules as in_file
use Rattle.rule_remarks.specs.ByLine.{by_line}
use Rattle.rule_remarks.specs.Findings.{findings_as}
use Rattle.rule_remarks.specs.Rules.{file_remarks, remarks_from, remarks_unless}
use Rattle.engine_formats.specs.Diagnostics.{DiagnosticValue}
use Rattle.engine_checks.specs.Codes.{has_comments}
use Rattle.engine_checks.specs.Files.{found_with, rule_diagnostic}
use Rattle.engine_checks.specs.LinesFound.{read_findings, read_found}
use Rattle.engine_checks.specs.Reported.{Asked, FileText}
use Rattle.engine_checks.specs.Tables.{FileRead, rules_found_by}
use Rattle.engine_checks.proofs.ByLines.{alone}

-- a file that is not given up, with its joined lines
module _ (by : Profile) (f : SourceFile) (bytes : List ℕ) (joined : Joined) (b : bytes ≡ f.bytes) (j : joined ≡ joined_lines by f.bytes) (o : abandoned by bytes ≡ None) where
  lines_joined : joined ≡ joined_lines by bytes
  lines_joined = j ∙ ap (joined_lines by) (sym b)

  findings_once : placed_lines (kept_lines bytes) (landed (map (reading_of by) joined.lines)) joined.open_at ≡ placed_findings by f
  unfolding placed_findings
  findings_once =
      ap (λ (x : Joined). placed_lines (kept_lines bytes) (landed (map (reading_of by) x.lines)) x.open_at) lines_joined
      ∙ ap (findings_unless by bytes) (sym o)
      ∙ ap (λ (x : List ℕ). findings_unless by x (abandoned by x)) b

  lints_once : lints_of by f.name (kept_lines bytes) (in_file.rules_from 0 (landed (map (reading_of by) joined.lines))) ≡ placed_lints by f
  unfolding placed_lints
  lints_once =
      ap (λ (x : Joined). lints_of by f.name (kept_lines bytes) (in_file.rules_from 0 (landed (map (reading_of by) x.lines)))) lines_joined
      ∙ ap (λ (x : Option ℕ). lints_of by f.name (kept_lines bytes) (in_file.rules_unless by bytes x)) (sym o)
      ∙ ap (λ (x : List ℕ). lints_of by f.name (kept_lines x) (in_file.file_rules by x)) b

  pub tokens_once : tokens_in (file_rules by f) ≡ token_count (landed (map (reading_of by) joined.lines))
  tokens_once =
      ap (λ (x : Option ℕ). tokens_in (rules_unless by f x)) (ap (abandoned by) (sym b) ∙ o)
      ∙ tokens_counted by f.name (landed (map (reading_of by) (joined_lines by f.bytes).lines))
      ∙ ap (λ (x : Joined). token_count (landed (map (reading_of by) x.lines))) (sym j)

remarks_once : (accounts : Accounts) (f : SourceFile) (bytes : List ℕ) (joined : Joined) → bytes ≡ f.bytes → joined ≡ joined_lines Udev bytes → abandoned Udev bytes ≡ None
    → remarks_from accounts (kept_lines bytes) 0 (landed (map (reading_of Udev) joined.lines)) ≡ file_remarks accounts f.bytes
unfolding file_remarks
remarks_once accounts f bytes joined b j o =
    ap (λ (x : Joined). remarks_from accounts (kept_lines bytes) 0 (landed (map (reading_of Udev) x.lines))) j
    ∙ ap (remarks_unless accounts bytes) (sym o)
    ∙ ap (λ (x : List ℕ). remarks_unless accounts x (abandoned Udev x)) b

all_once : (by : Profile) (accounts : Accounts) (f : SourceFile) (bytes : List ℕ) (joined : Joined) → bytes ≡ f.bytes → joined ≡ joined_lines by f.bytes → abandoned by bytes ≡ None
    → read_findings by accounts (kept_lines bytes) (landed (map (reading_of by) joined.lines)) joined.open_at ≡ findings_as by accounts f
unfolding findings_as
all_once Manual accounts f bytes joined b j o =
    alone (λ (p : PlacedFinding MessageKind). p.begins) (placed_lines (kept_lines bytes) (landed (map (reading_of Manual) joined.lines)) joined.open_at) ∙ findings_once Manual f bytes joined b j o
all_once Udev accounts f bytes joined b j o =
    ap₂ (by_line (λ p. p.begins)) (findings_once Udev f bytes joined b j o) (remarks_once accounts f bytes joined b (lines_joined Udev f bytes joined b j o) o)

pub found_once : (asked : Asked) (read : FileRead) (name : Text) (file : FileText) (bytes : List ℕ) (joined : Joined) → file ≡ read.text → name ≡ read.file.name → bytes ≡ read.file.bytes → joined ≡ joined_lines asked.profile read.file.bytes → abandoned asked.profile bytes ≡ None
    → read_found asked name file (kept_lines bytes) (landed (map (reading_of asked.profile) joined.lines)) joined.open_at ≡ rules_found_by asked read
found_once asked read name file bytes joined t m b j o =
    ap (λ (x : FileText). read_found asked name x (kept_lines bytes) (landed (map (reading_of asked.profile) joined.lines)) joined.open_at) t
    ∙ ap (λ (x : Text). read_found asked x read.text (kept_lines bytes) (landed (map (reading_of asked.profile) joined.lines)) joined.open_at) m
    ∙ ap₂ (found_with read.text) (all_once asked.profile asked.accounts read.file bytes joined b j o)
    (ap (λ (x : List (PlacedFinding Lint)). cond (asked.lint || has_comments asked.ignored) x []) (lints_once asked.profile read.file bytes joined b j o))

-- a file that is given up
abandoned_once : (by : Profile) (accounts : Accounts) (f : SourceFile) (bytes : List ℕ) (number : ℕ) → bytes ≡ f.bytes → abandoned by bytes ≡ Some number → findings_as by accounts f ≡ abandoned_findings bytes number
unfolding findings_as placed_findings file_remarks
abandoned_once Manual accounts f bytes number b o =
    ap (λ (x : List ℕ). findings_unless Manual x (abandoned Manual x)) (sym b) ∙ ap (findings_unless Manual bytes) o
abandoned_once Udev accounts f bytes number b o =
    ap (λ (x : List ℕ). by_line (λ p. p.begins) (findings_unless Udev x (abandoned Udev x)) (remarks_unless accounts x (abandoned Udev x))) (sym b)
    ∙ ap (λ (x : Option ℕ). by_line (λ p. p.begins) (findings_unless Udev bytes x) (remarks_unless accounts bytes x)) o

no_lints : (by : Profile) (f : SourceFile) (bytes : List ℕ) (number : ℕ) → bytes ≡ f.bytes → abandoned by bytes ≡ Some number → placed_lints by f ≡ []
unfolding placed_lints
no_lints by f bytes number b o = ap (λ (x : Option ℕ). lints_of by f.name (kept_lines f.bytes) (in_file.rules_unless by f.bytes x)) (ap (abandoned by) (sym b) ∙ o)

none_counted : (b : Bool) (lints : List (PlacedFinding Lint)) → lints ≡ [] → cond b lints [] ≡ []
none_counted true lints e = e
none_counted false lints e = refl

pub found_abandoned : (asked : Asked) (read : FileRead) (file : FileText) (bytes : List ℕ) (number : ℕ) → file ≡ read.text → bytes ≡ read.file.bytes → abandoned asked.profile bytes ≡ Some number
    → map (rule_diagnostic file) (abandoned_findings bytes number) ≡ rules_found_by asked read
found_abandoned asked read file bytes number t b o =
    ap (λ (x : FileText). map (rule_diagnostic x) (abandoned_findings bytes number)) t
    ∙ sym (alone (λ (d : DiagnosticValue). d.begins) (map (rule_diagnostic read.text) (abandoned_findings bytes number)))
    ∙ sym (ap₂ (found_with read.text) (abandoned_once asked.profile asked.accounts read.file bytes number b o)
    (none_counted (asked.lint || has_comments asked.ignored) (placed_lints asked.profile read.file) (no_lints asked.profile read.file bytes number b o)))

pub no_tokens : (by : Profile) (f : SourceFile) (bytes : List ℕ) (number : ℕ) → bytes ≡ f.bytes → abandoned by bytes ≡ Some number → tokens_in (file_rules by f) ≡ 0
no_tokens by f bytes number b o = ap (λ (x : Option ℕ). tokens_in (rules_unless by f x)) (ap (abandoned by) (sym b) ∙ o)
