-- What tables of codes say about files is what is reported for them.
use Rattle.std.proofs.Common.{◌≡◌, ◌^◌, ◌<◌, ◌≤◌, Bool, not, ◌&&◌, ◌||◌, cond, List, [], ◌∷◌, ◌++◌, filter, map, refl, ap, ◌∙◌}
use Rattle.std.specs.List.{flat_map}
use Rattle.std.proofs.lemmas.Bool.{le-leb, lt-leb}
use Rattle.text_bytes.specs.declared.source_file.SourceFile.{SourceFile}
use Rattle.text_bytes.specs.Text.{Text}
use Rattle.text_tables.specs.Texts.{is_among}
use Rattle.hwdb_core.specs.Sources.{WithinBounds, entries_of, messages_of}
use Rattle.hwdb_core.specs.declared.fault.HwdbFault.{HwdbFault}
use Rattle.hwdb_core.specs.declared.fault.HwdbFault.TheVariants as hwdb
use Rattle.hwdb_core.specs.Lints.{database_lints}
use Rattle.rule_types.specs.Rules.{tokens_in}
use Rattle.rule_core.specs.Rules.{set_of_as}
use Rattle.rule_file_lints.specs.FileLints.{placed_lints}
use Rattle.rule_remarks.specs.Findings.{findings_as}
use Rattle.engine_sessions.specs.declared.line.Line.{Line}
use Rattle.engine_reports.specs.Outcomes.{too_many_rules}
use Rattle.engine_reports.proofs.Bounds.{entries_refused, outcome_few}
use Rattle.engine_reports.specs.Reports.{IsSaid, refused_entries}
use Rattle.engine_formats.specs.Diagnostics.{DiagnosticValue}
use Rattle.file_catalogue.specs.Catalogue.{code_of}
use Rattle.file_catalogue.specs.declared.remark.Remark.{Remark}
use Rattle.engine_checks.specs.Codes.{comments_word, has_comments}
use Rattle.engine_checks.specs.Files.{accounts_by, asked_by, database_found, database_found_with, database_reported, file_text, findings_of, found_with, ignored_by, ignores_counted, lints_counted, reported_for, rules_found, rules_reported}
use Rattle.engine_checks.specs.Ignores.{Ignore, ignores_in}
use Rattle.engine_checks.specs.Links.{link_text, links_found, links_reported}
use Rattle.engine_checks.specs.Outcomes.{checks_said, database_checks, rules_checks, entries_said}
use Rattle.engine_checks.specs.Tables.{database_found_by, database_reported_by, link_read_by, links_reported_by, read_by, rules_found_by, rules_reported_by}
use Rattle.engine_checks.specs.Reported.{Asked, FileText, merged, comment_diagnostics, file_reported, is_about_style, is_asked, is_lint, is_reported, is_silenced}

same_filter : {X : Type 0} (p q : X → Bool) (xs : List X) → ((x : X) → p x ≡ q x) → filter p xs ≡ filter q xs
same_filter p q [] e = refl
same_filter p q (x ∷ xs) e = ap (λ b. cond b (x ∷ filter p xs) (filter p xs)) (e x) ∙ ap (λ ys. cond (q x) (x ∷ ys) ys) (same_filter p q xs e)

-- what is reported hangs on which codes are ignored, and not on how they are listed
reported_alike : (these those : Asked) (file : FileText) (ignores : List Ignore) (found : List DiagnosticValue) → these.lint ≡ those.lint → these.style ≡ those.style
    → ((code : Text) → is_among these.ignored code ≡ is_among those.ignored code) → file_reported these file ignores found ≡ file_reported those file ignores found
unfolding file_reported
reported_alike these those file ignores found l s e =
    let asked : (remark : Remark) → is_asked these remark ≡ is_asked those remark = λ (remark : Remark).
    ap (λ b. ((not (is_lint remark) || b) && (these.style || not (is_about_style remark))) && not (is_among these.ignored (code_of remark))) l
    ∙ ap (λ b. ((not (is_lint remark) || those.lint) && (b || not (is_about_style remark))) && not (is_among these.ignored (code_of remark))) s
    ∙ ap (λ b. ((not (is_lint remark) || those.lint) && (those.style || not (is_about_style remark))) && not b) (e (code_of remark)) in
    ap (λ ds. merged ds (filter (λ d. is_asked these d.remark) (comment_diagnostics file found ignores)))
    (same_filter (is_reported these ignores) (is_reported those ignores) found (λ d. ap (λ b. b && not (is_silenced ignores d)) (asked d.remark)))
    ∙ ap (merged (filter (is_reported those ignores) found))
    (same_filter (λ d. is_asked these d.remark) (λ d. is_asked those d.remark) (comment_diagnostics file found ignores) (λ d. asked d.remark))

-- what a line asks for, with its codes in a table
module _ (line : Line) (asked : Asked) (p : asked.profile ≡ line.profile) (a : asked.accounts ≡ accounts_by line) (s : asked.style ≡ line.style) (l : asked.lint ≡ line.lint) (e : (code : Text) → is_among asked.ignored code ≡ is_among (ignored_by line) code) where
  -- what is reported for a file, by tables
  one_file : (file : SourceFile) (found : List DiagnosticValue) → file_reported asked (file_text line file) (ignores_counted asked file) found ≡ reported_for line file found
  one_file file found =
      reported_alike asked (asked_by line) (file_text line file) (ignores_counted asked file) found l s e
      ∙ ap (λ b. file_reported (asked_by line) (file_text line file) (cond b (ignores_in asked.profile file) []) found) (e comments_word)
      ∙ ap (λ by. file_reported (asked_by line) (file_text line file) (cond (has_comments (ignored_by line)) (ignores_in by file) []) found) p

  -- what is found, by tables
  found_file : (file : SourceFile) → rules_found_by asked (read_by line file) ≡ rules_found line file
  found_file file =
      ap (λ by. found_with (file_text line file) (findings_as by asked.accounts file) (lints_counted asked file)) p
      ∙ ap (λ known. found_with (file_text line file) (findings_as line.profile known file) (lints_counted asked file)) a
      ∙ ap (λ b. found_with (file_text line file) (findings_of line file) (cond (b || has_comments asked.ignored) (placed_lints asked.profile file) [])) l
      ∙ ap (λ b. found_with (file_text line file) (findings_of line file) (cond (line.lint || b) (placed_lints asked.profile file) [])) (e comments_word)
      ∙ ap (λ by. found_with (file_text line file) (findings_of line file) (cond (line.lint || has_comments (ignored_by line)) (placed_lints by file) [])) p

  pub rules_file : (file : SourceFile) → rules_reported_by asked (read_by line file) ≡ rules_reported line file
  unfolding rules_reported
  rules_file file = ap (file_reported asked (file_text line file) (ignores_counted asked file)) (found_file file) ∙ one_file file (rules_found line file)

  -- what is found in a file of a database, by tables
  found_database : (file : SourceFile) → database_found_by asked (read_by line file) ≡ database_found line file
  found_database file =
      ap (λ b. database_found_with (file_text line file) (messages_of (file ∷ [])) (cond (b || has_comments asked.ignored) (database_lints file.bytes) [])) l
      ∙ ap (λ b. database_found_with (file_text line file) (messages_of (file ∷ [])) (cond (line.lint || b) (database_lints file.bytes) [])) (e comments_word)

  pub database_file : (file : SourceFile) → database_reported_by asked (read_by line file) ≡ database_reported line file
  unfolding database_reported
  database_file file = ap (file_reported asked (file_text line file) (ignores_counted asked file)) (found_database file) ∙ one_file file (database_found line file)

  -- rules files that are read, by tables
  pub files_by : (files : List SourceFile) → flat_map (rules_reported_by asked) (map (read_by line) files) ≡ flat_map (rules_reported line) files
  files_by [] = refl
  files_by (file ∷ files) =
      ap (λ ds. ds ++ flat_map (rules_reported_by asked) (map (read_by line) files)) (rules_file file)
      ∙ ap (λ ds. rules_reported line file ++ ds) (files_by files)

  -- files of a database that are read, by tables
  pub database_by : (files : List SourceFile) → flat_map (database_reported_by asked) (map (read_by line) files) ≡ flat_map (database_reported line) files
  database_by [] = refl
  database_by (file ∷ files) =
      ap (λ ds. ds ++ flat_map (database_reported_by asked) (map (read_by line) files)) (database_file file)
      ∙ ap (λ ds. database_reported line file ++ ds) (database_by files)

  -- what is reported for a .link file, by tables
  link_file : (files : List SourceFile) (file : SourceFile) → links_reported_by asked files (link_read_by line file) ≡ links_reported line files file
  unfolding links_reported
  link_file files file =
      let found : List DiagnosticValue = links_found (link_text line file) files file in
      reported_alike asked (asked_by line) (link_text line file) (ignores_counted asked file) found l s e
      ∙ ap (λ b. file_reported (asked_by line) (link_text line file) (cond b (ignores_in asked.profile file) []) found) (e comments_word)
      ∙ ap (λ by. file_reported (asked_by line) (link_text line file) (cond (has_comments (ignored_by line)) (ignores_in by file) []) found) p

  -- .link files that are read, by tables
  pub links_by : (all files : List SourceFile) → flat_map (links_reported_by asked all) (map (link_read_by line) files) ≡ flat_map (links_reported line all) files
  links_by all [] = refl
  links_by all (file ∷ files) =
      ap (λ ds. ds ++ flat_map (links_reported_by asked all) (map (link_read_by line) files)) (link_file all file)
      ∙ ap (λ ds. links_reported line all file ++ ds) (links_by all files)

pub checks_few : (line : Line) (files : List SourceFile) → tokens_in (set_of_as line.profile files).rules ≤ 2 ^ 24 → rules_checks line files ≡ checks_said line files (flat_map (rules_reported line) files)
unfolding rules_checks
checks_few line files w = ap (λ b. cond b (checks_said line files (flat_map (rules_reported line) files)) too_many_rules) (le-leb (tokens_in (set_of_as line.profile files).rules) (2 ^ 24) w)

pub checks_many : (line : Line) (files : List SourceFile) → 2 ^ 24 < tokens_in (set_of_as line.profile files).rules → rules_checks line files ≡ too_many_rules
unfolding rules_checks
checks_many line files h = ap (λ b. cond b (checks_said line files (flat_map (rules_reported line) files)) too_many_rules) (lt-leb (tokens_in (set_of_as line.profile files).rules) (2 ^ 24) h)

-- what `update` says of files within the bounds
pub updates_few : (line : Line) (files : List SourceFile) → WithinBounds files → database_checks line files ≡ entries_said line (flat_map (database_reported line) files) (entries_of files) (messages_of files)
unfolding database_checks
updates_few line files w = outcome_few (entries_said line (flat_map (database_reported line) files)) files w

-- what becomes of a fault of a database is what is said of its files
pub updates_refused : (line : Line) (files : List SourceFile) (fault : HwdbFault) → (fault ≡ hwdb.TooMany → WithinBounds files → ⊥) → IsSaid (refused_entries fault) (database_checks line files)
unfolding database_checks
updates_refused line files fault beyond = entries_refused (entries_said line (flat_map (database_reported line) files)) files fault beyond
