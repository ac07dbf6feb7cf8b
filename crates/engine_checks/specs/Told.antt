-- Serves inner proofs only: what is told of files in plain lines, of rules line by line.
use Rattle.std.specs.Prelude.{ℕ, ◌^◌, Bool, true, false, not, ◌&&◌, nat_lt, if◌then◌else◌, List, [], ◌∷◌, ◌++◌, drop, flat_map, length, map, Option, Some, None, Result, is_some}
use Rattle.std.specs.List.{list_all}
use Rattle.text_bytes.specs.Text.{Text}
use Rattle.text_bytes.specs.declared.profile.Profile.{Profile}
use Rattle.text_bytes.specs.declared.profile.Profile.TheVariants.{Manual, Udev}
use Rattle.text_bytes.specs.declared.source_file.SourceFile.{SourceFile}
use Rattle.file_messages.specs.declared.message.Message.{Message}
use Rattle.file_messages.specs.declared.message.MessageKind.{MessageKind}
use Rattle.file_messages.specs.declared.message.MessageKind.TheVariants.{OpenAtEnd}
use Rattle.rule_types.specs.declared.jumps.Landing.{Landing}
use Rattle.rule_types.specs.declared.spot.Spot.{Spot}
use Rattle.rule_lints.specs.declared.lint.Lint.{Lint}
use Rattle.rule_core.specs.Drafts.{Draft}
use Rattle.rule_core.specs.Lines.{Joined, NumberedLine}
use Rattle.rule_core.specs.Rules.{Reading, landed, line_findings, reading_of}
use Rattle.rule_file_lints.specs.FileLints.{FileNames, RulesAbove}
use Rattle.rule_file_lints.specs.Steps.{above_after, names_in, nothing_above, spots_at}
use Rattle.rule_remarks.specs.Accounts.{Accounts}
use Rattle.rule_remarks.specs.Rules.{line_remarks}
use Rattle.engine_sessions.specs.declared.line.Format.{Format}
use Rattle.engine_sessions.specs.declared.line.Format.TheVariants.{Plain}
use Rattle.engine_sessions.specs.declared.line.Line.{Line}
use Rattle.engine_formats.specs.Diagnostics.{DiagnosticValue}
use Rattle.engine_formats.specs.Lines.{plain_line}
use Rattle.file_catalogue.specs.declared.remark.Remark.{Remark}
use Rattle.file_catalogue.specs.declared.remark.Remark.TheVariants as about
use Rattle.engine_checks.specs.Codes.{has_comments}
use Rattle.engine_checks.specs.Reported.{Asked, is_asked}
use Rattle.engine_checks.specs.Tables.{read_by, rules_reported_by}

-- what is reported for a rules file that a command line reads
abbrev pub reported_by : Asked → Line → SourceFile → List DiagnosticValue
reported_by asked line file = rules_reported_by asked (read_by line file)

-- a diagnostic as a plain line shows it, which has neither the path nor the place in the line
abbrev pub bare : Text → ℕ → Remark → Text → DiagnosticValue
bare name number remark word = record { name = name; path = []; source = []; begins = number; line = 0; column = 0; end = 0; remark = remark; word = word }

-- the plain line of a diagnostic, if it is asked for
abbrev pub line_told : Asked → DiagnosticValue → Text
line_told asked d = if is_asked asked d.remark then plain_line d else []

-- the plain lines of those diagnostics that are asked for
abbrev pub told : Asked → List DiagnosticValue → Text
told asked ds = flat_map (line_told asked) ds

-- what is found about a line
abbrev pub messages_said : Text → ℕ → List (Spot MessageKind) → List DiagnosticValue
messages_said name number spots = map (λ s. bare name number (about.Message s.kind) s.word) spots

-- the lints of a line
abbrev pub lints_said : Text → ℕ → List (Spot Lint) → List DiagnosticValue
lints_said name number spots = map (λ s. bare name number (about.Lint s.kind) s.word) spots

-- what udev reports about a line; by the manual nothing is
abbrev pub remarks_at : Profile → Accounts → Result Draft (Spot MessageKind) → List (Spot MessageKind)
remarks_at Manual accounts read = []
remarks_at Udev accounts read = line_remarks accounts read

-- what lints need to know of all lines of a file, if they are asked for
abbrev pub names_told : Asked → Text → List (Reading × Landing) → Option FileNames
names_told asked name lines = if asked.lint then Some (names_in name lines) else None

-- the lints of a line, if they are asked for
abbrev pub lints_at : Profile → Option FileNames → RulesAbove → Reading × Landing → List (Spot Lint)
lints_at profile None a x = []
lints_at profile (Some n) a x = spots_at profile n a x

-- what the rules above leave, after one more line, if lints are asked for
abbrev pub above_told : Option FileNames → RulesAbove → Reading × Landing → RulesAbove
above_told None a x = a
above_told (Some n) a x = above_after a x

-- what is said of a line: what is found about it, what udev reports about its rule, and then its lints
abbrev pub line_said : Asked → Text → List (Spot Lint) → Reading × Landing → List DiagnosticValue
line_said asked name lints x =
    messages_said name x.0.line (line_findings x.0.read x.1)
    ++ (messages_said name x.0.line (remarks_at asked.profile asked.accounts x.0.read)
    ++ lints_said name x.0.line lints)

-- whether something may be said of a line about which nothing is found: lints, or what udev reports
abbrev pub reads_silent : Profile → Option FileNames → Bool
reads_silent Manual names = is_some names
reads_silent Udev names = true

-- what is said of the first of some lines
abbrev pub first_said : Asked → Text → Option FileNames → RulesAbove → List (Reading × Landing) → List DiagnosticValue
first_said asked name names a [] = []
first_said asked name names a (x ∷ lines) = line_said asked name (lints_at asked.profile names a x) x

-- what the rules above leave, after the first of some lines
abbrev pub first_above : Option FileNames → RulesAbove → List (Reading × Landing) → RulesAbove
first_above names a [] = a
first_above names a (x ∷ lines) = above_told names a x

-- whether the first of some lines is passed over: it is silent, and so nothing is said of it
abbrev pub is_passed : Asked → Option FileNames → (is_silent : Bool) → Bool
is_passed asked names is_silent = is_silent && not (reads_silent asked.profile names)

-- what is told of the first of some lines, unless it is passed over
abbrev pub next_told : Asked → Text → Option FileNames → RulesAbove → (is_silent : Bool) → List (Reading × Landing) → Text
next_told asked name names a s lines = if is_passed asked names s then [] else told asked (first_said asked name names a lines)

-- what the rules above leave, after the first of some lines, unless it is passed over
abbrev pub next_above : Asked → Option FileNames → RulesAbove → (is_silent : Bool) → List (Reading × Landing) → RulesAbove
next_above asked names a s lines = if is_passed asked names s then a else first_above names a lines

-- what is told of lines, of which some are passed over
abbrev pub lines_told : Asked → Text → Option FileNames → RulesAbove → List Bool → List (Reading × Landing) → Text
lines_told asked name names a [] lines = []
lines_told asked name names a (s ∷ silent) lines =
    next_told asked name names a s lines ++ lines_told asked name names (next_above asked names a s lines) silent (drop 1 lines)

-- what is said of lines, below rules that leave something
abbrev pub lines_said : Asked → Text → Option FileNames → RulesAbove → List (Reading × Landing) → List DiagnosticValue
lines_said asked name names a [] = []
lines_said asked name names a (x ∷ lines) =
    line_said asked name (lints_at asked.profile names a x) x ++ lines_said asked name names (above_told names a x) lines

-- what is said of a line that is open at the end of its file
abbrev pub open_said : Text → Option ℕ → List DiagnosticValue
open_said name None = []
open_said name (Some number) = bare name number (about.Message OpenAtEnd) [] ∷ []

-- what is told of the joined lines of a file with a name
abbrev pub joined_told : Asked → Text → Joined → Text
joined_told asked name joined =
    let lines = landed (map (reading_of asked.profile) joined.lines) in
    told asked (lines_said asked name (names_told asked name lines) nothing_above lines) ++ told asked (open_said name joined.open_at)

-- a message about a database as a plain line shows it
abbrev pub database_said : Message → DiagnosticValue
database_said m = bare m.file m.line (about.Message m.kind) m.word

-- whether each of these files has fewer than 2^32 bytes, so that each of its lines has its number
abbrev pub are_short : List SourceFile → Bool
are_short files = list_all (λ f. nat_lt (length f.bytes) (2 ^ 32)) files

-- whether what is reported for files of a database is their messages: in plain lines, without lints, and where no comment counts
abbrev pub tells_messages : Asked → Format → List SourceFile → Bool
tells_messages asked Plain files = (not asked.lint && not (has_comments asked.ignored)) && are_short files
tells_messages asked format files = false

-- whether the number of an open line is greater than one
abbrev pub is_open_after : ℕ → Option ℕ → Bool
is_open_after last None = true
is_open_after last (Some number) = nat_lt last number

-- whether each line, and then the open one, has a greater number than the one before, of which the first follows this one
abbrev pub are_rising : ℕ → List NumberedLine → Option ℕ → Bool
are_rising last [] open_at = is_open_after last open_at
are_rising last (l ∷ lines) open_at = nat_lt last l.number && are_rising l.number lines open_at
