-- What `verify` and `update` say is a function of what their lines ask for, so that it computes.
use Rattle.std.proofs.Common.{◌≡◌, Bool, true, List, [], ◌∷◌, ◌++◌, length, map, flat_map, cond, refl, ap, ◌∙◌}
use Rattle.text_bytes.specs.FileOrder.{ordered}
use Rattle.text_bytes.specs.Kinds.{suffix_of}
use Rattle.text_bytes.specs.Lines.{numbered_lines}
use Rattle.text_bytes.specs.declared.profile.Profile.{Profile}
use Rattle.text_bytes.specs.declared.profile.Profile.TheVariants.{Manual, Udev}
use Rattle.text_bytes.specs.declared.source_file.FileKind.TheVariants.{Hwdb, Rules}
use Rattle.text_bytes.specs.declared.source_file.SourceFile.{SourceFile}
use Rattle.text_bytes.specs.Text.{Text}
use Rattle.hwdb_core.specs.Sources.{messages_of}
use Rattle.link_files.specs.Files as links
use Rattle.rule_core.specs.Ends.{file_as_read}
use Rattle.rule_core.specs.Rules.{set_of_as}
use Rattle.rule_remarks.specs.Findings.{findings_as}
use Rattle.engine_sessions.specs.Delivery.{RunOutcome}
use Rattle.engine_sessions.specs.Kinds.{names_files_of}
use Rattle.engine_sessions.specs.declared.line.Format.{Format}
use Rattle.engine_sessions.specs.declared.line.Line.{Line}
use Rattle.engine_reports.specs.Checks.{files_said}
use Rattle.engine_reports.specs.Outcomes.{database_outcome, hold_few_tokens, too_many_rules}
use Rattle.trie_build.specs.Image.{image}
use Rattle.engine_formats.specs.Diagnostics.{DiagnosticValue}
use Rattle.engine_formats.specs.Formats.{formatted}
use Rattle.engine_formats.specs.Paths.{path_in_folder}
use Rattle.engine_checks.specs.Files.{asked_by, database_found_with, database_lints_counted, database_reported, found_with, ignores_counted, lints_counted, rules_reported}
use Rattle.engine_checks.specs.Links.{links_found, links_outcome, links_reported}
use Rattle.engine_checks.specs.Outcomes.{database_checks, in_format, rules_checks, update_status, verify_outcome}
use Rattle.engine_checks.specs.Reported.{Asked, FileText, file_reported}
use Rattle.example_laws.specs.Checked.{Checks, ChecksDatabase, ChecksLinks, database_file, rules_file}

-- a named file as diagnostics show it
abbrev shown_file : SourceFile → FileText
shown_file file = record { name = file.name; path = file.name; lines = numbered_lines file.bytes }

-- what is reported for a named file by what is asked for
abbrev reported : Asked → SourceFile → List DiagnosticValue
reported asked file =
    file_reported asked (shown_file file) (ignores_counted asked file)
    (found_with (shown_file file) (findings_as asked.profile asked.accounts file) (lints_counted asked file))

-- what is said about it
abbrev said_about : Asked → Format → Bool → SourceFile → RunOutcome
said_about asked format summary file =
    cond (hold_few_tokens (set_of_as asked.profile (file ∷ [])).rules)
    (in_format format (files_said summary (file ∷ []) (map (λ d. d.name) (flat_map (reported asked) (file ∷ []))) (formatted format (flat_map (reported asked) (file ∷ [])))))
    too_many_rules

-- the same for a file as it is passed in
abbrev pub said_by : Asked → Format → Bool → Text → RunOutcome
said_by asked format summary rules = said_about asked format summary (file_as_read asked.profile (rules_file rules))

-- however its lines end, a file is of its kind
same_kind : (by : Profile) (rules : Text) → (file_as_read by (rules_file rules)).kind ≡ Rules
same_kind Manual rules = refl
same_kind Udev rules = refl

-- what a named file's line says, once the file is named
named_one : (rules : Text) (line : Line) → names_files_of line Rules ≡ true
    → verify_outcome line (rules_file rules ∷ []) ≡ said_by (asked_by line) line.format line.summary rules
unfolding rules_checks rules_reported
named_one rules line named =
    ap (λ b. rules_checks line (map (file_as_read line.profile) (cond b (rules_file rules ∷ []) (ordered (suffix_of Rules) (rules_file rules ∷ []))))) named
    ∙ ap (λ b. said_at (cond b file.name (path_in_folder line.root.now file))) (ap (names_files_of line) (same_kind line.profile rules) ∙ named)
  where
    file : SourceFile
    file = file_as_read line.profile (rules_file rules)

    shown_at : Text → FileText
    shown_at path = record { name = file.name; path = path; lines = numbered_lines file.bytes }

    reported_at : Text → List DiagnosticValue
    reported_at path =
        file_reported (asked_by line) (shown_at path) (ignores_counted (asked_by line) file)
        (found_with (shown_at path) (findings_as line.profile (asked_by line).accounts file) (lints_counted (asked_by line) file))

    said_at : Text → RunOutcome
    said_at path =
        cond (hold_few_tokens (set_of_as line.profile (file ∷ [])).rules)
        (in_format line.format (files_said line.summary (file ∷ []) (map (λ d. d.name) (flat_map (λ (f : SourceFile). reported_at path) (file ∷ []))) (formatted line.format (flat_map (λ (f : SourceFile). reported_at path) (file ∷ [])))))
        too_many_rules

-- so what it says is what it asks for
pub checked : (asked : Asked) (format : Format) (rules : Text) (outcome : RunOutcome) → said_by asked format true rules ≡ outcome → Checks asked format rules outcome
checked asked format rules outcome computes line is =
    named_one rules line is.named
    ∙ ap (λ a. said_by a line.format line.summary rules) is.asks
    ∙ ap (λ f. said_by asked f line.summary rules) is.writes
    ∙ ap (λ s. said_by asked format s rules) is.counts
    ∙ computes

-- a .link file as diagnostics show it, by whether it is named and by the root of its folder
abbrev pub shown_link : Bool → Text → SourceFile → FileText
shown_link named root file =
    record { name = file.name; path = cond named file.name (root ++ links.path_of file); lines = numbered_lines file.bytes }

-- what is reported for .link files by what is asked for
abbrev pub links_reported_by : Bool → Asked → Text → List SourceFile → List DiagnosticValue
links_reported_by named asked root files =
    flat_map (λ file. file_reported asked (shown_link named root file) (ignores_counted asked file) (links_found (shown_link named root file) files file)) files

-- what is said about them
abbrev pub links_said_by : Bool → Asked → Format → Bool → Text → List SourceFile → RunOutcome
links_said_by named asked format summary root files =
    in_format format
    (files_said summary files (map (λ d. d.name) (links_reported_by named asked root files)) (formatted format (links_reported_by named asked root files)))

-- so what `verify --links` says is what it asks for
pub checked_links : (asked : Asked) (format : Format) (files : List SourceFile) (outcome : RunOutcome)
    → ((root : Text) → links_said_by true asked format true root files ≡ outcome) → ChecksLinks asked format files outcome
unfolding links_outcome links_reported
checked_links asked format files outcome computes line is =
    ap (λ n. links_said_by n (asked_by line) line.format line.summary line.root.now files) is.named
    ∙ ap (λ a. links_said_by true a line.format line.summary line.root.now files) is.asks
    ∙ ap (λ f. links_said_by true asked f line.summary line.root.now files) is.writes
    ∙ ap (λ s. links_said_by true asked format s line.root.now files) is.counts
    ∙ computes line.root.now

-- what is reported for a file of a database that is shown so, by what is asked for
abbrev pub database_reported_by : Asked → FileText → SourceFile → List DiagnosticValue
database_reported_by asked shown file =
    file_reported asked shown (ignores_counted asked file) (database_found_with shown (messages_of (file ∷ [])) (database_lints_counted asked file))

-- the messages about it
abbrev pub database_told : Asked → Format → Bool → FileText → SourceFile → Text
database_told asked format strict shown file =
    (database_outcome (λ entries messages. in_format format (record {
      output = image entries;
      messages = formatted format (flat_map (database_reported_by asked shown) (file ∷ []));
      status = update_status strict (length (flat_map (database_reported_by asked shown) (file ∷ [])));
    })) (file ∷ [])).messages

-- so what `update` writes as messages is what it asks for
pub checked_database : (asked : Asked) (format : Format) (database messages : Text)
    → ((strict : Bool) → database_told asked format strict (shown_file (database_file database)) (database_file database) ≡ messages)
    → ChecksDatabase asked format database messages
unfolding database_checks database_reported
checked_database asked format database messages computes line is =
    ap (λ b. (database_checks line (cond b (file ∷ []) (ordered (suffix_of Hwdb) (file ∷ [])))).messages) is.named
    ∙ ap (λ b. told_at (cond b file.name (path_in_folder line.root.now file))) is.named
    ∙ ap (λ a. database_told a line.format line.strict (shown_file file) file) is.asks
    ∙ ap (λ f. database_told asked f line.strict (shown_file file) file) is.writes
    ∙ computes line.strict
  where
    file : SourceFile
    file = database_file database

    told_at : Text → Text
    told_at path = database_told (asked_by line) line.format line.strict (record { name = file.name; path = path; lines = numbered_lines file.bytes }) file
