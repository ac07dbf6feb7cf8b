-- What was found and what is said about comments, among what is reported.
use Rattle.std.proofs.Common.{◌≡◌, Bool, true, false, not, ◌&&◌, ◌||◌, cond, List, [], ◌∷◌, All, filter, map, Some, None, option_map, refl, ap, sym, ◌∙◌, subst}
use Rattle.std.specs.List.{cons_option, list_any}
use Rattle.std.proofs.lemmas.List.Elements.{All-cons, All-filter, All-map, All-nil, All-weaker}
use Rattle.text_bytes.specs.declared.source_file.SourceFile.{SourceFile}
use Rattle.text_tables.specs.Texts.{is_among}
use Rattle.hwdb_core.specs.Sources.{messages_of}
use Rattle.hwdb_core.specs.Lints.{database_lints}
use Rattle.rule_file_lints.specs.FileLints.{placed_lints}
use Rattle.engine_sessions.specs.declared.line.Line.{Line}
use Rattle.engine_formats.specs.Diagnostics.{DiagnosticValue}
use Rattle.file_catalogue.specs.Catalogue.{code_of}
use Rattle.file_catalogue.specs.declared.remark.Remark.{Remark}
use Rattle.file_catalogue.specs.declared.remark.Remark.TheVariants.{Message, Lint, DatabaseLint, LinkFault, IdleIgnore, UnknownCode}
use Rattle.engine_checks.specs.Codes.{has_comments, is_found}
use Rattle.engine_checks.specs.Files.{asked_by, database_diagnostic, database_found, database_found_with, database_lint_diagnostic, database_lints_counted, database_reported, file_text, findings_of, found_with, ignored_by, ignores_counted, lint_diagnostic, lints_counted, rule_diagnostic, rules_found, rules_reported}
use Rattle.engine_checks.specs.Ignores.{Ignore, ignores_in}
use Rattle.engine_checks.specs.Laws.{found_among, messages_in, remarks_among}
use Rattle.engine_checks.specs.Reported.{Asked, FileText, comment_diagnostic, comment_diagnostics, file_reported, is_about_style, is_asked, is_lint, is_reported, is_unknown, merged, silences}
use Rattle.engine_checks.proofs.ByLines.{alone}
use Rattle.engine_checks.proofs.Merged.{both_hold, filter_all, filter_alike, filter_swap, first_left, others_left}

pub none_among : (ds : List DiagnosticValue) → merged ds [] ≡ ds
none_among ds = alone (λ (d : DiagnosticValue). d.begins) ds

-- if no lints are looked for, what is found is the messages
messages_alone : (line : Line) (file : SourceFile) → line.lint ≡ false → has_comments (ignored_by line) ≡ false → rules_found line file ≡ messages_in line file
messages_alone line file unasked counts =
    ap (λ b. found_with (file_text line file) (findings_of line file) (cond (b || has_comments (ignored_by line)) (placed_lints line.profile file) [])) unasked
    ∙ ap (λ b. found_with (file_text line file) (findings_of line file) (cond b (placed_lints line.profile file) [])) counts
    ∙ none_among (messages_in line file)

-- the same of a file of a database
database_alone : (line : Line) (file : SourceFile) → line.lint ≡ false → has_comments (ignored_by line) ≡ false
    → database_found line file ≡ map (database_diagnostic (file_text line file)) (messages_of (file ∷ []))
database_alone line file unasked counts =
    ap (λ b. database_found_with (file_text line file) (messages_of (file ∷ [])) (cond (b || has_comments (ignored_by line)) (database_lints file.bytes) [])) unasked
    ∙ ap (λ b. database_found_with (file_text line file) (messages_of (file ∷ [])) (cond b (database_lints file.bytes) [])) counts
    ∙ none_among (map (database_diagnostic (file_text line file)) (messages_of (file ∷ [])))

-- what is said of comments is not about what is found
said_of_comments : (file : FileText) (found : List DiagnosticValue) (ignores : List Ignore) → All (λ d. is_found d.remark ≡ false) (comment_diagnostics file found ignores)
said_of_comments file found [] = All-nil (λ (d : DiagnosticValue). is_found d.remark ≡ false)
said_of_comments file found (i ∷ is) = by (is_unknown i.scope i.code) (list_any (silences i) found) (said_of_comments file found is)
  where
    by : (none silent : Bool) → All (λ d. is_found d.remark ≡ false) (comment_diagnostics file found is)
        → All (λ d. is_found d.remark ≡ false) (cons_option (option_map (comment_diagnostic file i) (cond none (Some UnknownCode) (cond silent None (Some IdleIgnore)))) (comment_diagnostics file found is))
    by true silent more = All-cons (λ (d : DiagnosticValue). is_found d.remark ≡ false) (comment_diagnostic file i UnknownCode) (comment_diagnostics file found is) refl more
    by false true more = more
    by false false more = All-cons (λ (d : DiagnosticValue). is_found d.remark ≡ false) (comment_diagnostic file i IdleIgnore) (comment_diagnostics file found is) refl more

anyway : (style known : Bool) → ((style || true) && not known) ≡ not known
anyway true known = refl
anyway false known = refl

asked_anyway : (asked : Asked) (remark : Remark) → is_found remark ≡ false → is_asked asked remark ≡ not (is_among asked.ignored (code_of remark))
asked_anyway asked (Message kind) e = cc
asked_anyway asked (Lint l) e = cc
asked_anyway asked (DatabaseLint l) e = cc
asked_anyway asked (LinkFault l) e = cc
asked_anyway asked IdleIgnore e = anyway asked.style (is_among asked.ignored (code_of IdleIgnore))
asked_anyway asked UnknownCode e = anyway asked.style (is_among asked.ignored (code_of UnknownCode))

module _ (asked : Asked) (file : FileText) (ignores : List Ignore) (found : List DiagnosticValue) where
  asked_of_comments : All (λ d. is_found d.remark ≡ false) (filter (λ d. is_asked asked d.remark) (comment_diagnostics file found ignores))
  asked_of_comments = All-filter (λ d. is_asked asked d.remark) (λ d. is_found d.remark ≡ false) (comment_diagnostics file found ignores) (said_of_comments file found ignores)

  -- a test that passes no remark on a comment finds what is reported for what it finds
  pub reported_part : (p : Remark → Bool) → ((remark : Remark) → is_found remark ≡ false → p remark ≡ false)
      → filter (λ d. p d.remark) (file_reported asked file ignores found) ≡ filter (is_reported asked ignores) (filter (λ d. p d.remark) found)
  unfolding file_reported
  reported_part p none =
      first_left (λ d. p d.remark) (filter (is_reported asked ignores) found) (filter (λ d. is_asked asked d.remark) (comment_diagnostics file found ignores))
      (All-weaker (λ d. is_found d.remark ≡ false) (λ d. p d.remark ≡ false) (λ d e. none d.remark e) (filter (λ d. is_asked asked d.remark) (comment_diagnostics file found ignores)) asked_of_comments)
      ∙ filter_swap (λ d. p d.remark) (is_reported asked ignores) found

  -- what is reported for what was found
  pub reported_found : All (λ d. is_found d.remark ≡ true) found → found_among (file_reported asked file ignores found) ≡ filter (is_reported asked ignores) found
  reported_found all = reported_part is_found (λ remark e. e) ∙ ap (filter (is_reported asked ignores)) (filter_all (λ d. is_found d.remark) found all)

  -- the remarks on comments that are reported
  pub reported_remarks : All (λ d. is_found d.remark ≡ true) found → remarks_among (file_reported asked file ignores found) ≡ filter (λ d. not (is_among asked.ignored (code_of d.remark))) (comment_diagnostics file found ignores)
  unfolding file_reported
  reported_remarks all =
      others_left (λ d. not (is_found d.remark)) (filter (is_reported asked ignores) found) (filter (λ d. is_asked asked d.remark) (comment_diagnostics file found ignores))
      (All-filter (is_reported asked ignores) (λ d. not (is_found d.remark) ≡ false) found (All-weaker (λ d. is_found d.remark ≡ true) (λ d. not (is_found d.remark) ≡ false) (λ d e. ap not e) found all))
      ∙ filter_all (λ d. not (is_found d.remark)) (filter (λ d. is_asked asked d.remark) (comment_diagnostics file found ignores))
      (All-weaker (λ d. is_found d.remark ≡ false) (λ d. not (is_found d.remark) ≡ true) (λ d e. ap not e) (filter (λ d. is_asked asked d.remark) (comment_diagnostics file found ignores)) asked_of_comments)
      ∙ filter_alike (λ d. is_asked asked d.remark) (λ d. not (is_among asked.ignored (code_of d.remark))) (comment_diagnostics file found ignores)
      (All-weaker (λ d. is_found d.remark ≡ false) (λ d. is_asked asked d.remark ≡ not (is_among asked.ignored (code_of d.remark))) (λ d e. asked_anyway asked d.remark e) (comment_diagnostics file found ignores) (said_of_comments file found ignores))

rules_are_found : (line : Line) (file : SourceFile) → All (λ d. is_found d.remark ≡ true) (rules_found line file)
rules_are_found line file =
    both_hold (λ d. is_found d.remark ≡ true) (messages_in line file) (map (lint_diagnostic (file_text line file)) (lints_counted (asked_by line) file))
    (All-map (λ d. is_found d.remark ≡ true) (rule_diagnostic (file_text line file)) (findings_of line file) (λ k d h. refl))
    (All-map (λ d. is_found d.remark ≡ true) (lint_diagnostic (file_text line file)) (lints_counted (asked_by line) file) (λ k d h. refl))

database_is_found : (line : Line) (file : SourceFile) → All (λ d. is_found d.remark ≡ true) (database_found line file)
database_is_found line file =
    both_hold (λ d. is_found d.remark ≡ true) (map (database_diagnostic (file_text line file)) (messages_of (file ∷ []))) (map (database_lint_diagnostic (file_text line file)) (database_lints_counted (asked_by line) file))
    (All-map (λ d. is_found d.remark ≡ true) (database_diagnostic (file_text line file)) (messages_of (file ∷ [])) (λ k d h. refl))
    (All-map (λ d. is_found d.remark ≡ true) (database_lint_diagnostic (file_text line file)) (database_lints_counted (asked_by line) file) (λ k d h. refl))

module _ (line : Line) (file : SourceFile) (counts : has_comments (ignored_by line) ≡ true) where
  counted : ignores_counted (asked_by line) file ≡ ignores_in line.profile file
  counted = ap (λ b. cond b (ignores_in line.profile file) []) counts

  pub rules_found_reported : found_among (rules_reported line file) ≡ filter (is_reported (asked_by line) (ignores_in line.profile file)) (rules_found line file)
  unfolding rules_reported
  rules_found_reported =
      ap (λ is. found_among (file_reported (asked_by line) (file_text line file) is (rules_found line file))) counted
      ∙ reported_found (asked_by line) (file_text line file) (ignores_in line.profile file) (rules_found line file) (rules_are_found line file)

  pub database_found_reported : found_among (database_reported line file) ≡ filter (is_reported (asked_by line) (ignores_in line.profile file)) (database_found line file)
  unfolding database_reported
  database_found_reported =
      ap (λ is. found_among (file_reported (asked_by line) (file_text line file) is (database_found line file))) counted
      ∙ reported_found (asked_by line) (file_text line file) (ignores_in line.profile file) (database_found line file) (database_is_found line file)

  pub rules_remarks_reported : remarks_among (rules_reported line file) ≡ filter (λ d. not (is_among (ignored_by line) (code_of d.remark))) (comment_diagnostics (file_text line file) (rules_found line file) (ignores_in line.profile file))
  unfolding rules_reported
  rules_remarks_reported =
      ap (λ is. remarks_among (file_reported (asked_by line) (file_text line file) is (rules_found line file))) counted
      ∙ reported_remarks (asked_by line) (file_text line file) (ignores_in line.profile file) (rules_found line file) (rules_are_found line file)

  pub database_remarks_reported : remarks_among (database_reported line file) ≡ filter (λ d. not (is_among (ignored_by line) (code_of d.remark))) (comment_diagnostics (file_text line file) (database_found line file) (ignores_in line.profile file))
  unfolding database_reported
  database_remarks_reported =
      ap (λ is. remarks_among (file_reported (asked_by line) (file_text line file) is (database_found line file))) counted
      ∙ reported_remarks (asked_by line) (file_text line file) (ignores_in line.profile file) (database_found line file) (database_is_found line file)

quiet : (b known : Bool) → (((true && b) && not known) && not false) ≡ (b && not known)
quiet true true = refl
quiet true false = refl
quiet false known = refl

-- what is asked for of lints
abbrev is_counted : Bool → DiagnosticValue → Bool
is_counted lint d = not (is_lint d.remark) || lint

-- without comments everything except style and the codes that are ignored is reported, if each lint is asked for
plainly_reported : (asked : Asked) (file : FileText) (found : List DiagnosticValue) → All (λ d. is_counted asked.lint d ≡ true) found
    → file_reported asked file [] found ≡ filter (λ d. (asked.style || not (is_about_style d.remark)) && not (is_among asked.ignored (code_of d.remark))) found
unfolding file_reported
plainly_reported asked file found all =
    none_among (filter (is_reported asked []) found)
    ∙ filter_alike (is_reported asked []) (λ d. (asked.style || not (is_about_style d.remark)) && not (is_among asked.ignored (code_of d.remark))) found
    (All-weaker (λ d. is_counted asked.lint d ≡ true) (λ d. is_reported asked [] d ≡ ((asked.style || not (is_about_style d.remark)) && not (is_among asked.ignored (code_of d.remark))))
    (λ d e. ap (λ b. ((b && (asked.style || not (is_about_style d.remark))) && not (is_among asked.ignored (code_of d.remark))) && not false) e ∙ quiet (asked.style || not (is_about_style d.remark)) (is_among asked.ignored (code_of d.remark))) found all)

asked_lint : (linted lint : Bool) → lint ≡ true → (not linted || lint) ≡ true
asked_lint true lint e = e
asked_lint false lint e = refl

module _ (line : Line) (file : SourceFile) (counts : has_comments (ignored_by line) ≡ false) where
  uncounted : ignores_counted (asked_by line) file ≡ []
  uncounted = ap (λ b. cond b (ignores_in line.profile file) []) counts

  -- lints are found only if they are asked for
  rules_counted : All (λ d. is_counted line.lint d ≡ true) (rules_found line file)
  rules_counted = by line.lint refl
    where
      by : (lint : Bool) → line.lint ≡ lint → All (λ d. is_counted line.lint d ≡ true) (rules_found line file)
      by true e = All-weaker (λ d. is_found d.remark ≡ true) (λ d. is_counted line.lint d ≡ true) (λ d h. asked_lint (is_lint d.remark) line.lint e) (rules_found line file) (rules_are_found line file)
      by false e =
          subst (λ ds. All (λ d. is_counted line.lint d ≡ true) ds) (sym (messages_alone line file e counts))
          (All-map (λ d. is_counted line.lint d ≡ true) (rule_diagnostic (file_text line file)) (findings_of line file) (λ k d h. refl))

  database_counted : All (λ d. is_counted line.lint d ≡ true) (database_found line file)
  database_counted = by line.lint refl
    where
      by : (lint : Bool) → line.lint ≡ lint → All (λ d. is_counted line.lint d ≡ true) (database_found line file)
      by true e = All-weaker (λ d. is_found d.remark ≡ true) (λ d. is_counted line.lint d ≡ true) (λ d h. asked_lint (is_lint d.remark) line.lint e) (database_found line file) (database_is_found line file)
      by false e =
          subst (λ ds. All (λ d. is_counted line.lint d ≡ true) ds) (sym (database_alone line file e counts))
          (All-map (λ d. is_counted line.lint d ≡ true) (database_diagnostic (file_text line file)) (messages_of (file ∷ [])) (λ k d h. refl))

  pub rules_plainly_reported : rules_reported line file ≡ filter (λ d. (line.style || not (is_about_style d.remark)) && not (is_among (ignored_by line) (code_of d.remark))) (rules_found line file)
  unfolding rules_reported
  rules_plainly_reported =
      ap (λ is. file_reported (asked_by line) (file_text line file) is (rules_found line file)) uncounted
      ∙ plainly_reported (asked_by line) (file_text line file) (rules_found line file) rules_counted

  pub database_plainly_reported : database_reported line file ≡ filter (λ d. (line.style || not (is_about_style d.remark)) && not (is_among (ignored_by line) (code_of d.remark))) (database_found line file)
  unfolding database_reported
  database_plainly_reported =
      ap (λ is. file_reported (asked_by line) (file_text line file) is (database_found line file)) uncounted
      ∙ plainly_reported (asked_by line) (file_text line file) (database_found line file)
      database_counted

  -- only messages are reported if lints are not asked for
  pub messages_plainly_reported : line.lint ≡ false → rules_reported line file ≡ filter (λ d. (line.style || not (is_about_style d.remark)) && not (is_among (ignored_by line) (code_of d.remark))) (messages_in line file)
  messages_plainly_reported unasked =
      rules_plainly_reported ∙ ap (filter (λ d. (line.style || not (is_about_style d.remark)) && not (is_among (ignored_by line) (code_of d.remark)))) (messages_alone line file unasked counts)
