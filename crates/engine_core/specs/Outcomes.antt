-- What a run says: its outcome, as a function of the command line, of the files passed in, of what was found at paths of
-- the root, of the outcome of opening an index and of the input.
use Rattle.std.specs.Prelude.{Bool, true, false, not, ◌||◌, ◌&&◌, ◌==◌, if◌then◌else◌, List, codes, map, Option, Some, None, Result, Ok, Err, vec_len}
use Rattle.std.specs.Str.{bytes_eq}
use Rattle.text_bytes.specs.Text.{Text}
use Rattle.text_bytes.specs.declared.source_file.SourceFile.{SourceFile}
use Rattle.trie_build.specs.declared.index_fault.IndexFault.{IndexFault}
use Rattle.trie_build.specs.Contents.{Contents}
use Rattle.device_core.specs.Values.{EventValue}
use Rattle.engine_sessions.specs.declared.line.Format.{Format}
use Rattle.engine_sessions.specs.declared.line.Format.TheVariants.{Json}
use Rattle.engine_sessions.specs.declared.line.Line.{Line}
use Rattle.engine_sessions.specs.Readers.{is_for_people}
use Rattle.engine_sessions.specs.declared.line.Verb.{Verb}
use Rattle.engine_sessions.specs.declared.line.Verb.TheVariants.{Update, Query, Verify, Events, Mend}
use Rattle.engine_sessions.specs.Delivery.{RunOutcome}
use Rattle.engine_reports.specs.LookupDatabases.{lookups_by}
use Rattle.engine_reports.specs.Databases.{database}
use Rattle.engine_reports.specs.Openings.{OpeningValue, opening}
use Rattle.engine_reports.specs.Outcomes.{query_over, usage_error}
use Rattle.builtin_core.specs.Builtins.{known_by}
use Rattle.builtin_devices.specs.Knowledge.{FilesFound, Known}
use Rattle.engine_answers.specs.Answers.{answer_by}
use Rattle.engine_checks.specs.Outcomes.{update_outcome, verify_outcome}
use Rattle.engine_courses.specs.Asked.{unknown}
use Rattle.engine_formats.specs.Masked.{shown_in}
use Rattle.engine_core.specs.Mending.{mend_said}
use Rattle.engine_core.specs.Reported.{ReportedValue, reported_by}
use Rattle.engine_courses.specs.Questions.{question_answer}
use Rattle.engine_sessions.specs.Outcomes.{input_outcome}
use Rattle.engine_sessions.specs.Sessions.{answers_as}
use Rattle.engine_sessions.specs.Tallies.{events_of, with_said}
use Rattle.engine_sessions.specs.declared.following.Telling.{Telling}
use Rattle.engine_courses.specs.Unused.{unused_lines}

-- the texts of a line's `--why`
abbrev pub why_of : Line → List Text
why_of line = map (λ w. w.now) line.why.items

-- what is known beyond an event, by the .link files of a line, what was found at paths of the root, and the database of the
-- line's opening
abbrev pub known_for : Line → FilesFound → OpeningValue → Known
known_for line found opening = known_by (record { links = line.links.items; files = found; entries = opening.entries })

-- whether answers are objects of JSON
abbrev pub is_json : Format → Bool
is_json Json = true
is_json _ = false

-- what a line asks for in addition to the answers, and by what these are made
abbrev pub reported_for : Line → OpeningValue → ReportedValue
reported_for line opening = record {
  json = is_json line.format;
  sources = line.sources;
  why = why_of line;
  messages = opening.about_rules;
  rules = opening.rules;
}

-- whether a line asks for more than the answers, or for another format of them
abbrev pub asks_more : Line → Bool
asks_more line = (line.sources || not (vec_len line.why == 0)) || is_json line.format

-- the answer to an event by what an opening has: the questions of the rules if the line asks for these, otherwise the
-- outcome of the event with what else the line asks for
abbrev pub answer_by_line : Line → FilesFound → OpeningValue → EventValue → Text
answer_by_line line found opening =
    let known = known_for line found opening in
    if line.questions then question_answer opening.rules known
    else (if asks_more line then reported_by (reported_for line opening) known else answer_by opening.rules known)

-- the same, with rules evaluated by the line's profile
abbrev pub answer_with : Line → FilesFound → OpeningValue → EventValue → Text
answer_with line found opening = answers_as line.profile (answer_by_line line found opening)

-- the files that a line adds to those of the folders
abbrev pub added_of : Line → List Text
added_of line = map (λ f. f.now) line.added.items

-- what is said about the rules of an opening after the answers to an input: which of them no event of it met
abbrev pub unused_of : Line → FilesFound → OpeningValue → Text → Text
unused_of line found opening input = unused_lines (added_of line) opening.rules (known_for line found opening) (events_of line.profile input)

-- an opening, or what is said instead, as a format shows it, if the line asks for a rule that is not there
abbrev pub opening_unless : Format → Option Text → OpeningValue → Result OpeningValue RunOutcome
opening_unless format None opening = Ok opening
opening_unless format (Some line) opening = Err (usage_error (shown_in format opening.messages) (shown_in format line))

-- the same for the outcome of opening the files
abbrev pub asked_of : Format → List Text → Result OpeningValue RunOutcome → Result OpeningValue RunOutcome
asked_of format why (Ok opening) = opening_unless format (unknown why opening.about_rules opening.rules) opening
asked_of format why (Err said) = Err said

-- A command before it looks at its input: for `events` what comes before its first answer, or what is said instead;
-- for any other command what it says. Only `query` and `events` look at an index.
abbrev pub before_input : Verb → Line → List SourceFile → Option (Result Contents IndexFault) → Result OpeningValue RunOutcome
before_input Query line files opened = Err (query_over line files opened)
before_input Update line files opened = Err (update_outcome line files)
before_input Verify line files opened = Err (verify_outcome line files)
before_input Mend line files opened = Err (mend_said line files)
before_input Events line files opened = asked_of line.format (why_of line) (opening line files opened)

-- how a run of a line tells what is no answer: for people if its format is for them, and then and with `--all` also that its input has no
-- block
abbrev pub telling_of : Line → Telling
telling_of line = record { for_people = is_for_people line.format; no_block = line.all || is_for_people line.format }

-- the outcome of a run over an input: the messages of its opening, as the line's format shows them, and the answers to the blocks of the input, with the
-- rules that are unused after them if the line asks for that; or what is said without looking at the input
abbrev pub outcome_by : Line → FilesFound → Result OpeningValue RunOutcome → Text → RunOutcome
outcome_by line found (Ok opening) input =
    let answered = input_outcome (telling_of line) (shown_in line.format opening.messages) (answer_with line found opening) input in
    if line.unused then with_said (unused_of line found opening input) answered else answered
outcome_by line found (Err said) input = said

-- whether a verb is `query`
abbrev pub is_query : Verb → Bool
is_query Query = true
is_query _ = false

-- whether a line looks up the modaliases of its input, one a line: it is a `query` whose modalias is `-`
abbrev pub reads_modaliases : Line → Bool
reads_modaliases line = is_query line.verb && bytes_eq line.modalias.now (codes "-")

-- the outcome of a run over the files passed in, what was found at paths of the root, the outcome of opening an index and an
-- input
abbrev pub outcome : Line → List SourceFile → FilesFound → Option (Result Contents IndexFault) → Text → RunOutcome
outcome line files found opened input =
    if reads_modaliases line then lookups_by line (database line files opened) input
    else outcome_by line found (before_input line.verb line files opened) input
