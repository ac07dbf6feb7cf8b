-- Lints and messages, among what is reported.
use Rattle.std.proofs.Common.{◌≡◌, Bool, true, false, not, ◌&&◌, ◌||◌, cond, List, [], ◌∷◌, filter, map, refl, ap, ◌∙◌}
use Rattle.std.proofs.lemmas.List.Elements.{All-map}
use Rattle.text_bytes.specs.declared.source_file.SourceFile.{SourceFile}
use Rattle.text_tables.specs.Texts.{is_among}
use Rattle.hwdb_core.specs.Sources.{messages_of}
use Rattle.hwdb_core.specs.Lints.{database_lints}
use Rattle.rule_file_lints.specs.FileLints.{placed_lints}
use Rattle.engine_sessions.specs.declared.line.Line.{Line}
use Rattle.engine_formats.specs.Diagnostics.{DiagnosticValue}
use Rattle.file_catalogue.specs.Catalogue.{code_of}
use Rattle.file_catalogue.specs.declared.remark.Remark.{Remark}
use Rattle.file_catalogue.specs.declared.remark.Remark.TheVariants.{Message, Lint, DatabaseLint, LinkFault, IdleIgnore, UnknownCode}
use Rattle.engine_checks.specs.Codes.{has_comments, is_found}
use Rattle.engine_checks.specs.Files.{asked_by, database_diagnostic, database_found, database_lint_diagnostic, database_lints_counted, database_reported, file_text, findings_of, ignored_by, ignores_counted, lint_diagnostic, lints_counted, rule_diagnostic, rules_found, rules_reported}
use Rattle.engine_checks.specs.Ignores.{Ignore}
use Rattle.engine_checks.specs.Laws.{database_lints_in, is_message, lints_among, lints_in, messages_among, messages_in}
use Rattle.engine_checks.specs.Reported.{is_lint, is_reported, is_silenced}
use Rattle.engine_checks.proofs.Among.{reported_part}
use Rattle.engine_checks.proofs.Merged.{filter_all, filter_alike, filter_none, first_left, others_left}

lint_is_found : (remark : Remark) → is_found remark ≡ false → is_lint remark ≡ false
lint_is_found (Message kind) e = refl
lint_is_found (Lint lint) e = cc
lint_is_found (DatabaseLint lint) e = cc
lint_is_found (LinkFault fault) e = cc
lint_is_found IdleIgnore e = refl
lint_is_found UnknownCode e = refl

message_is_found : (remark : Remark) → is_found remark ≡ false → is_message remark ≡ false
message_is_found (Message kind) e = cc
message_is_found (Lint lint) e = refl
message_is_found (DatabaseLint lint) e = refl
message_is_found (LinkFault fault) e = refl
message_is_found IdleIgnore e = refl
message_is_found UnknownCode e = refl

-- which lints are reported
lint_reported : (lint style known silent : Bool) → lint ≡ true → ((((false || lint) && (style || true)) && not known) && not silent) ≡ (not known && not silent)
lint_reported true true known silent e = refl
lint_reported true false known silent e = refl
lint_reported false style known silent e = cc

lint_unreported : (lint style known silent : Bool) → lint ≡ false → ((((false || lint) && (style || true)) && not known) && not silent) ≡ false
lint_unreported true style known silent e = cc
lint_unreported false style known silent e = refl

or_true : (b : Bool) → (b || true) ≡ true
or_true true = refl
or_true false = refl

module _ (line : Line) (file : SourceFile) where
  abbrev comments : List Ignore
  comments = ignores_counted (asked_by line) file

  abbrev reported : DiagnosticValue → Bool
  reported = is_reported (asked_by line) (ignores_counted (asked_by line) file)

  abbrev looked_for : List DiagnosticValue
  looked_for = map (lint_diagnostic (file_text line file)) (lints_counted (asked_by line) file)

  found_lints : lints_among (rules_found line file) ≡ looked_for
  found_lints =
      others_left (λ d. is_lint d.remark) (messages_in line file) looked_for
      (All-map (λ d. is_lint d.remark ≡ false) (rule_diagnostic (file_text line file)) (findings_of line file) (λ k d h. refl))
      ∙ filter_all (λ d. is_lint d.remark) looked_for
      (All-map (λ d. is_lint d.remark ≡ true) (lint_diagnostic (file_text line file)) (lints_counted (asked_by line) file) (λ k d h. refl))

  found_messages : messages_among (rules_found line file) ≡ messages_in line file
  found_messages =
      first_left (λ d. is_message d.remark) (messages_in line file) looked_for
      (All-map (λ d. is_message d.remark ≡ false) (lint_diagnostic (file_text line file)) (lints_counted (asked_by line) file) (λ k d h. refl))
      ∙ filter_all (λ d. is_message d.remark) (messages_in line file)
      (All-map (λ d. is_message d.remark ≡ true) (rule_diagnostic (file_text line file)) (findings_of line file) (λ k d h. refl))

  -- if comments count, all lints are found
  pub commented_lints : has_comments (ignored_by line) ≡ true → lints_among (rules_found line file) ≡ lints_in line file
  commented_lints counts =
      found_lints
      ∙ ap (λ b. map (lint_diagnostic (file_text line file)) (cond (line.lint || b) (placed_lints line.profile file) [])) counts
      ∙ ap (λ b. map (lint_diagnostic (file_text line file)) (cond b (placed_lints line.profile file) [])) (or_true line.lint)

  lints_part : lints_among (rules_reported line file) ≡ filter reported looked_for
  unfolding rules_reported
  lints_part = reported_part (asked_by line) (file_text line file) comments (rules_found line file) is_lint lint_is_found ∙ ap (filter reported) found_lints

  -- the lints that are reported if they are asked for
  pub asked_lints : line.lint ≡ true → lints_among (rules_reported line file) ≡ filter (λ d. not (is_among (ignored_by line) (code_of d.remark)) && not (is_silenced (ignores_counted (asked_by line) file) d)) (lints_in line file)
  asked_lints e =
      lints_part
      ∙ ap (λ b. filter reported (map (lint_diagnostic (file_text line file)) (cond (b || has_comments (ignored_by line)) (placed_lints line.profile file) []))) e
      ∙ filter_alike reported (λ d. not (is_among (ignored_by line) (code_of d.remark)) && not (is_silenced (ignores_counted (asked_by line) file) d)) (lints_in line file)
      (All-map (λ d. reported d ≡ (not (is_among (ignored_by line) (code_of d.remark)) && not (is_silenced (ignores_counted (asked_by line) file) d))) (lint_diagnostic (file_text line file)) (placed_lints line.profile file)
      (λ k d h. lint_reported line.lint line.style _ _ e))

  -- none is reported if they are not
  pub unasked_lints : line.lint ≡ false → lints_among (rules_reported line file) ≡ []
  unasked_lints e =
      lints_part
      ∙ filter_none reported looked_for
      (All-map (λ d. reported d ≡ false) (lint_diagnostic (file_text line file)) (lints_counted (asked_by line) file)
      (λ k d h. lint_unreported line.lint line.style _ _ e))

  -- the messages that are reported
  pub same_messages : messages_among (rules_reported line file) ≡ filter (is_reported (record (asked_by line) { lint = false }) (ignores_counted (asked_by line) file)) (messages_in line file)
  unfolding rules_reported
  same_messages =
      reported_part (asked_by line) (file_text line file) comments (rules_found line file) is_message message_is_found
      ∙ ap (filter reported) found_messages
      ∙ filter_alike reported (is_reported (record (asked_by line) { lint = false }) comments) (messages_in line file)
      (All-map (λ d. reported d ≡ is_reported (record (asked_by line) { lint = false }) comments d) (rule_diagnostic (file_text line file)) (findings_of line file) (λ k d h. refl))

  abbrev database_looked_for : List DiagnosticValue
  database_looked_for = map (database_lint_diagnostic (file_text line file)) (database_lints_counted (asked_by line) file)

  found_database_lints : lints_among (database_found line file) ≡ database_looked_for
  found_database_lints =
      others_left (λ d. is_lint d.remark) (map (database_diagnostic (file_text line file)) (messages_of (file ∷ []))) database_looked_for
      (All-map (λ d. is_lint d.remark ≡ false) (database_diagnostic (file_text line file)) (messages_of (file ∷ [])) (λ k d h. refl))
      ∙ filter_all (λ d. is_lint d.remark) database_looked_for
      (All-map (λ d. is_lint d.remark ≡ true) (database_lint_diagnostic (file_text line file)) (database_lints_counted (asked_by line) file) (λ k d h. refl))

  database_lints_part : lints_among (database_reported line file) ≡ filter reported database_looked_for
  unfolding database_reported
  database_lints_part = reported_part (asked_by line) (file_text line file) comments (database_found line file) is_lint lint_is_found ∙ ap (filter reported) found_database_lints

  -- the lints of a database that are reported if they are asked for
  pub asked_database_lints : line.lint ≡ true → lints_among (database_reported line file) ≡ filter (λ d. not (is_among (ignored_by line) (code_of d.remark)) && not (is_silenced (ignores_counted (asked_by line) file) d)) (database_lints_in line file)
  asked_database_lints e =
      database_lints_part
      ∙ ap (λ b. filter reported (map (database_lint_diagnostic (file_text line file)) (cond (b || has_comments (ignored_by line)) (database_lints file.bytes) []))) e
      ∙ filter_alike reported (λ d. not (is_among (ignored_by line) (code_of d.remark)) && not (is_silenced (ignores_counted (asked_by line) file) d)) (database_lints_in line file)
      (All-map (λ d. reported d ≡ (not (is_among (ignored_by line) (code_of d.remark)) && not (is_silenced (ignores_counted (asked_by line) file) d))) (database_lint_diagnostic (file_text line file)) (database_lints file.bytes)
      (λ k d h. lint_reported line.lint line.style _ _ e))

  -- none is reported if they are not
  pub unasked_database_lints : line.lint ≡ false → lints_among (database_reported line file) ≡ []
  unasked_database_lints e =
      database_lints_part
      ∙ filter_none reported database_looked_for
      (All-map (λ d. reported d ≡ false) (database_lint_diagnostic (file_text line file)) (database_lints_counted (asked_by line) file)
      (λ k d h. lint_unreported line.lint line.style _ _ e))
