-- The status of checks, by what is reported.
use Rattle.std.proofs.Common.{◌≡◌, ℕ, ◌+◌, ◌==◌, ◌||◌, Bool, true, false, cond, List, [], ◌∷◌, map, flat_map, count_by, arith, refl, ap, sym, ◌∙◌}
use Rattle.std.specs.List.{list_any}
use Rattle.std.proofs.lemmas.List.Sums.{sum_by-cons}
use Rattle.text_bytes.specs.declared.source_file.SourceFile.{SourceFile}
use Rattle.text_tables.specs.Texts.{is_among}
use Rattle.rule_core.specs.Rules.{set_of_as}
use Rattle.engine_sessions.specs.Delivery.{RunOutcome}
use Rattle.engine_sessions.specs.declared.line.Format.{Format}
use Rattle.engine_sessions.specs.declared.line.Line.{Line}
use Rattle.engine_reports.specs.Checks.{files_said}
use Rattle.engine_reports.specs.Outcomes.{hold_few_tokens, too_many_rules}
use Rattle.engine_formats.specs.Formats.{formatted, is_report}
use Rattle.engine_checks.specs.Files.{rules_reported}
use Rattle.engine_checks.specs.Outcomes.{checks_said, in_format, rules_checks}

-- one of two numbers
abbrev either_number : Bool → ℕ → ℕ → ℕ
either_number b one other = cond b one other

-- none is counted if and only if none passes
none_counted : {X : Type 0} (p : X → Bool) (xs : List X) → either_number (count_by p xs == 0) 0 1 ≡ either_number (list_any p xs) 1 0
none_counted p [] = refl
none_counted {X} p (x ∷ xs) = ap (λ (n : ℕ). either_number (n == 0) 0 1) (sum_by-cons (λ y. cond {A = ℕ} (p y) 1 0) x xs) ∙ by (p x) (none_counted p xs)
  where
    by : (b : Bool) → either_number (count_by p xs == 0) 0 1 ≡ either_number (list_any p xs) 1 0 → either_number ((cond {A = ℕ} b 1 0 + count_by p xs) == 0) 0 1 ≡ either_number (b || list_any p xs) 1 0
    by true h = let some : ((1 + count_by p xs) == 0) ≡ false = grind arith in ap (λ b. either_number b 0 1) some
    by false h = let none : 0 + count_by p xs ≡ count_by p xs = omega arith in ap (λ (n : ℕ). either_number (n == 0) 0 1) none ∙ h

pub status_is : (line : Line) (files : List SourceFile) → hold_few_tokens (set_of_as line.profile files).rules ≡ true
    → (rules_checks line files).status ≡ either_number (list_any (λ file. is_among (map (λ d. d.name) (flat_map (rules_reported line) files)) file.name) files) 1 0
unfolding rules_checks
status_is line files few =
    ap (λ b. (cond b (checks_said line files (flat_map (rules_reported line) files)) too_many_rules).status) few
    ∙ none_counted (λ (file : SourceFile). is_among (map (λ d. d.name) (flat_map (rules_reported line) files)) file.name) files

-- whichever of two outcomes it is
either : {X : Type 0} (of : RunOutcome → X) (b : Bool) (one other more : RunOutcome) → of one ≡ of other → of (cond b one more) ≡ of (cond b other more)
either of true one other more h = h
either of false one other more h = refl

pub status_stays : (line : Line) (format : Format) (files : List SourceFile) → (rules_checks (record line { format = format }) files).status ≡ (rules_checks line files).status
unfolding rules_checks rules_reported
status_stays line format files =
    either (λ (o : RunOutcome). o.status) (hold_few_tokens (set_of_as line.profile files).rules)
    (checks_said (record line { format = format }) files (flat_map (rules_reported (record line { format = format })) files))
    (checks_said line files (flat_map (rules_reported line) files)) too_many_rules refl

-- the output of messages is that of what is said
unreported : (format : Format) (said : RunOutcome) → is_report format ≡ false → (in_format format said).output ≡ said.output
unreported format said e = ap (λ b. cond b said.messages said.output) e

pub count_stays : (line : Line) (format : Format) (files : List SourceFile) → is_report format ≡ false → is_report line.format ≡ false
    → (rules_checks (record line { format = format }) files).output ≡ (rules_checks line files).output
unfolding rules_checks rules_reported
count_stays line format files other own =
    either (λ (o : RunOutcome). o.output) (hold_few_tokens (set_of_as line.profile files).rules)
    (checks_said (record line { format = format }) files (flat_map (rules_reported (record line { format = format })) files))
    (checks_said line files (flat_map (rules_reported line) files)) too_many_rules
    (unreported format (counted format) other ∙ sym (unreported line.format (counted line.format) own))
  where
    counted : Format → RunOutcome
    counted f = files_said line.summary files (map (λ d. d.name) (flat_map (rules_reported line) files)) (formatted f (flat_map (rules_reported line) files))

pub report_alone : (line : Line) (files : List SourceFile) → is_report line.format ≡ true → hold_few_tokens (set_of_as line.profile files).rules ≡ true
    → ((rules_checks line files).output ≡ formatted line.format (flat_map (rules_reported line) files)) × ((rules_checks line files).messages ≡ [])
unfolding rules_checks
report_alone line files own few = (
  ap (λ b. (cond b said too_many_rules).output) few ∙ ap (λ b. cond b lines counts) own,
  ap (λ b. (cond b said too_many_rules).messages) few ∙ ap (λ b. cond b [] lines) own,
)
  where
    lines : List ℕ
    lines = formatted line.format (flat_map (rules_reported line) files)

    said : RunOutcome
    said = checks_said line files (flat_map (rules_reported line) files)

    counts : List ℕ
    counts = (files_said line.summary files (map (λ d. d.name) (flat_map (rules_reported line) files)) lines).output
