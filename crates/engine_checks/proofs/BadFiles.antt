-- Files are bad for which something is told: what is reported for a file has its name.
use Rattle.std.proofs.Common.{◌≡◌, ℕ, ◌+◌, ◌^◌, ◌<◌, ◌≤◌, Bool, true, false, ◌||◌, cond, List, [], ◌∷◌, ◌++◌, All, filter, length, map, sum_by, Option, Some, None, option_map, refl, ap, sym, ◌∙◌, append-nil, arith}
use Rattle.std.specs.List.{cons_option, flat_map}
use Rattle.std.proofs.lemmas.Grind.{flat_map-append}
use Rattle.std.proofs.lemmas.List.{length-append, map-append}
use Rattle.std.proofs.lemmas.List.Elements.{All-cons, All-filter, All-head, All-map, All-nil, All-tail}
use Rattle.std.proofs.lemmas.List.Folds.{list_any-append}
use Rattle.std.proofs.lemmas.List.Sums.{sum_by-cons}
use Rattle.text_bytes.specs.Names.{newline}
use Rattle.text_bytes.specs.Text.{Text}
use Rattle.text_bytes.specs.Texts.{word_of}
use Rattle.text_bytes.specs.declared.source_file.SourceFile.{SourceFile}
use Rattle.text_tables.specs.Texts.{is_among, same_text}
use Rattle.rule_types.specs.Rules.{tokens_in}
use Rattle.rule_core.specs.Rules.{file_rules, set_of_as}
use Rattle.rule_core.proofs.TokensCounted.{all_tokens}
use Rattle.rule_remarks.specs.Findings.{findings_as}
use Rattle.engine_sessions.specs.Places.{place_of, word_part}
use Rattle.engine_sessions.specs.declared.line.Format.{Format}
use Rattle.engine_sessions.specs.declared.line.Format.TheVariants.{Plain}
use Rattle.engine_sessions.specs.declared.line.Line.{Line}
use Rattle.engine_sessions.specs.Delivery.{RunOutcome}
use Rattle.engine_reports.specs.Checks.{bad_count, files_said, summary_line, verify_status}
use Rattle.engine_formats.specs.Diagnostics.{DiagnosticValue}
use Rattle.engine_formats.specs.Formats.{formatted}
use Rattle.engine_formats.specs.Lines.{plain_line}
use Rattle.file_catalogue.specs.Catalogue.{remark_heading}
use Rattle.file_catalogue.specs.declared.remark.Remark.{Remark}
use Rattle.engine_checks.specs.Files.{accounts_by, file_text, ignored_by, ignores_counted, lint_diagnostic, lints_counted, rule_diagnostic, rules_reported}
use Rattle.engine_checks.specs.Ignores.{Ignore}
use Rattle.engine_checks.specs.Outcomes.{in_format, rules_checks}
use Rattle.engine_checks.specs.Reported.{Asked, FileText, comment_diagnostic, comment_diagnostics, file_reported, is_asked, is_reported, remark_on}
use Rattle.engine_checks.specs.Tables.{AsksLike, read_by, rules_found_by, rules_reported_by}
use Rattle.engine_checks.specs.Told.{reported_by}
use Rattle.engine_checks.proofs.Checking.{checks_few, files_by}
use Rattle.engine_checks.proofs.Merged.{both_hold}

abbrev IsNamed : Text → DiagnosticValue → Type 0
IsNamed name d = d.name ≡ name

comments_named : (file : FileText) (found : List DiagnosticValue) (ignores : List Ignore) → All (IsNamed file.name) (comment_diagnostics file found ignores)
comments_named file found [] = All-nil (IsNamed file.name)
comments_named file found (i ∷ ignores) = by (remark_on found i) (comments_named file found ignores)
  where
    by : (said : Option Remark) → All (IsNamed file.name) (comment_diagnostics file found ignores) → All (IsNamed file.name) (cons_option (option_map (comment_diagnostic file i) said) (comment_diagnostics file found ignores))
    by None more = more
    by (Some remark) more = All-cons (IsNamed file.name) (comment_diagnostic file i remark) (comment_diagnostics file found ignores) refl more

all_named : (asked : Asked) (line : Line) (f : SourceFile) → All (IsNamed f.name) (reported_by asked line f)
unfolding file_reported
all_named asked line f =
    let file : FileText = file_text line f in
    let found : List DiagnosticValue = rules_found_by asked (read_by line f) in
    let ignores : List Ignore = ignores_counted asked f in
    both_hold (IsNamed f.name) (filter (is_reported asked ignores) found) (filter (λ d. is_asked asked d.remark) (comment_diagnostics file found ignores))
    (All-filter (is_reported asked ignores) (IsNamed f.name) found
    (both_hold (IsNamed f.name) (map (rule_diagnostic file) (findings_as asked.profile asked.accounts f)) (map (lint_diagnostic file) (lints_counted asked f))
    (All-map (IsNamed f.name) (rule_diagnostic file) (findings_as asked.profile asked.accounts f) (λ k d h. refl))
    (All-map (IsNamed f.name) (lint_diagnostic file) (lints_counted asked f) (λ k d h. refl))))
    (All-filter (λ d. is_asked asked d.remark) (IsNamed f.name) (comment_diagnostics file found ignores) (comments_named file found ignores))

-- whether a name is among none besides
pub or_none : (b : Bool) → (b || false) ≡ b
or_none true = refl
or_none false = refl

-- under one name
one_name : (name other : Text) (d : DiagnosticValue) (ds : List DiagnosticValue) → All (IsNamed name) (d ∷ ds) → is_among (map (λ x. x.name) (d ∷ ds)) other ≡ same_text other name
one_name name other d [] h = ap (λ (n : Text). same_text other n || false) (All-head (IsNamed name) d [] h) ∙ or_none (same_text other name)
one_name name other d (e ∷ ds) h =
    ap (λ (n : Text). same_text other n || is_among (map (λ x. x.name) (e ∷ ds)) other) (All-head (IsNamed name) d (e ∷ ds) h)
    ∙ ap (λ (b : Bool). same_text other name || b) (one_name name other e ds (All-tail (IsNamed name) d (e ∷ ds) h))
    ∙ twice (same_text other name)
  where
    twice : (b : Bool) → (b || b) ≡ b
    twice true = refl
    twice false = refl

-- a plain line has a byte at least
some_bytes : (d : DiagnosticValue) (t : List ℕ) → 0 < length (plain_line d ++ t)
unfolding plain_line
some_bytes d t =
    let whole : length (plain_line d) ≡ length ((place_of d.name d.begins ++ remark_heading d.remark ++ word_part (word_of d.word)) ++ newline ∷ []) = refl in
    let one = length-append (plain_line d) t in
    let two = length-append (place_of d.name d.begins ++ remark_heading d.remark ++ word_part (word_of d.word)) (newline ∷ []) in
    omega (arith, whole, one, two)

named_some : (name other : Text) (ds : List DiagnosticValue) → All (IsNamed name) ds → 0 < length (flat_map plain_line ds) → is_among (map (λ d. d.name) ds) other ≡ same_text other name
named_some name other [] h g =
    let none : 0 < 0 = g in
    let no : ⊥ = omega (arith, none) in
    absurd no
named_some name other (d ∷ ds) h g = one_name name other d ds h

named_none : (other : Text) (ds : List DiagnosticValue) → length (flat_map plain_line ds) ≡ 0 → is_among (map (λ d. d.name) ds) other ≡ false
named_none other [] g = refl
named_none other (d ∷ ds) g =
    let some = some_bytes d (flat_map plain_line ds) in
    let none : length (plain_line d ++ flat_map plain_line ds) ≡ 0 = g in
    let no : ⊥ = omega (arith, some, none) in
    absurd no

pub bad_file : (asked : Asked) (line : Line) (f : SourceFile) (other : Text) → 0 < length (flat_map plain_line (reported_by asked line f)) → is_among (map (λ d. d.name) (reported_by asked line f)) other ≡ same_text other f.name
bad_file asked line f other h = named_some f.name other (reported_by asked line f) (all_named asked line f) h

pub good_file : (asked : Asked) (line : Line) (f : SourceFile) (other : Text) → length (flat_map plain_line (reported_by asked line f)) ≡ 0 → is_among (map (λ d. d.name) (reported_by asked line f)) other ≡ false
good_file asked line f other h = named_none other (reported_by asked line f) h

-- one more name
or_assoc : (a b c : Bool) → (a || (b || c)) ≡ ((a || b) || c)
or_assoc true b c = refl
or_assoc false b c = refl

pub among_pushed : {X : Type 0} (now : X → List ℕ) (xs : List X) (y : X) (name : List ℕ) → is_among (map now (xs ++ y ∷ [])) name ≡ (is_among (map now xs) name || same_text name (now y))
among_pushed now [] y name = or_none (same_text name (now y))
among_pushed now (x ∷ xs) y name =
    ap (λ (b : Bool). same_text name (now x) || b) (among_pushed now xs y name) ∙ or_assoc (same_text name (now x)) (is_among (map now xs) name) (same_text name (now y))

-- one more file
pub text_next : (asked : Asked) (line : Line) (files : List SourceFile) (f : SourceFile) → flat_map plain_line (flat_map (reported_by asked line) (files ++ f ∷ [])) ≡ flat_map plain_line (flat_map (reported_by asked line) files) ++ flat_map plain_line (reported_by asked line f)
text_next asked line files f =
    ap (flat_map plain_line) (flat_map-append (reported_by asked line) files (f ∷ []) ∙ ap (λ (ds : List DiagnosticValue). flat_map (reported_by asked line) files ++ ds) (append-nil (reported_by asked line f)))
    ∙ flat_map-append plain_line (flat_map (reported_by asked line) files) (reported_by asked line f)

pub names_next : (asked : Asked) (line : Line) (files : List SourceFile) (f : SourceFile) (other : Text)
    → is_among (map (λ d. d.name) (flat_map (reported_by asked line) (files ++ f ∷ []))) other ≡ (is_among (map (λ d. d.name) (flat_map (reported_by asked line) files)) other || is_among (map (λ d. d.name) (reported_by asked line f)) other)
names_next asked line files f other =
    ap (λ (ds : List DiagnosticValue). is_among (map (λ d. d.name) ds) other) (flat_map-append (reported_by asked line) files (f ∷ []) ∙ ap (λ (ds : List DiagnosticValue). flat_map (reported_by asked line) files ++ ds) (append-nil (reported_by asked line f)))
    ∙ ap (λ (ns : List Text). is_among ns other) (map-append (λ (d : DiagnosticValue). d.name) (flat_map (reported_by asked line) files) (reported_by asked line f))
    ∙ list_any-append (same_text other) (map (λ d. d.name) (flat_map (reported_by asked line) files)) (map (λ d. d.name) (reported_by asked line f))

-- what a line asks for, part by part
pub asks_alike : (line : Line) (asked : Asked) → asked.profile ≡ line.profile → asked.accounts ≡ accounts_by line → asked.style ≡ line.style → asked.lint ≡ line.lint
    → ((code : Text) → is_among asked.ignored code ≡ is_among (ignored_by line) code) → AsksLike line asked
asks_alike line asked p a s l i = record { profile = p; accounts = a; style = s; lint = l; ignored = i }

-- the tokens of all files
pub all_counted : (line : Line) (asked : Asked) (files : List SourceFile) → AsksLike line asked → sum_by (λ f. tokens_in (file_rules asked.profile f)) files ≡ tokens_in (set_of_as line.profile files).rules
all_counted line asked files same = ap (λ by. sum_by (λ f. tokens_in (file_rules by f)) files) same.profile ∙ sym (all_tokens line.profile files)

these_files : (line : Line) (asked : Asked) (files : List SourceFile) → flat_map (reported_by asked line) files ≡ flat_map (rules_reported_by asked) (map (read_by line) files)
these_files line asked [] = refl
these_files line asked (f ∷ files) = ap (λ (ds : List DiagnosticValue). reported_by asked line f ++ ds) (these_files line asked files)

-- files are as bad under names among which the same are
same_bad : (some others : List Text) → ((name : Text) → is_among some name ≡ is_among others name) → (files : List SourceFile) → bad_count files some ≡ bad_count files others
same_bad some others h [] = refl
same_bad some others h (f ∷ files) =
    sum_by-cons (λ (x : SourceFile). cond (is_among some x.name) 1 0) f files
    ∙ ap (λ (b : Bool). cond b 1 0 + bad_count files some) (h f.name)
    ∙ ap (λ (n : ℕ). cond (is_among others f.name) 1 0 + n) (same_bad some others h files)
    ∙ sym (sum_by-cons (λ (x : SourceFile). cond (is_among others x.name) 1 0) f files)

abbrev said_with : Bool → List SourceFile → List ℕ → ℕ → RunOutcome
said_with summary files lines bad = record { output = cond summary (summary_line (length files) bad) []; messages = lines; status = verify_status bad }

-- what is told of files is what is said about them
pub files_told : (line : Line) (asked : Asked) (files : List SourceFile) (text : List ℕ) (bad : List Text) → AsksLike line asked → line.format ≡ Plain → tokens_in (set_of_as line.profile files).rules ≤ 2 ^ 24
    → text ≡ flat_map plain_line (flat_map (reported_by asked line) files) → ((name : Text) → is_among bad name ≡ is_among (map (λ d. d.name) (flat_map (reported_by asked line) files)) name)
    → files_said line.summary files bad text ≡ rules_checks line files
files_told line asked files text bad same plain few t b =
    let all : List DiagnosticValue = flat_map (rules_reported line) files in
    let whole : flat_map (reported_by asked line) files ≡ all = these_files line asked files ∙ files_by line asked same.profile same.accounts same.style same.lint same.ignored files in
    ap (said_with line.summary files text) (same_bad bad (map (λ d. d.name) all) (λ name. b name ∙ ap (λ (ds : List DiagnosticValue). is_among (map (λ d. d.name) ds) name) whole) files)
    ∙ ap (files_said line.summary files (map (λ d. d.name) all)) (t ∙ ap (flat_map plain_line) whole)
    ∙ sym (checks_few line files few ∙ in_plain line.format plain)
  where
    in_plain : (format : Format) → format ≡ Plain → in_format format (files_said line.summary files (map (λ d. d.name) (flat_map (rules_reported line) files)) (formatted format (flat_map (rules_reported line) files)))
        ≡ files_said line.summary files (map (λ d. d.name) (flat_map (rules_reported line) files)) (flat_map plain_line (flat_map (rules_reported line) files))
    in_plain format e = ap (λ (f : Format). in_format f (files_said line.summary files (map (λ d. d.name) (flat_map (rules_reported line) files)) (formatted f (flat_map (rules_reported line) files)))) e
