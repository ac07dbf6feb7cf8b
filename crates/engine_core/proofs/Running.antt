-- From the steps of a run to what it serves.
use Rattle.std.proofs.Common.{◌≡◌, ◌∙◌, ℕ, Bool, true, false, cond, map, List, inl, inr, refl, ap, subst, sym, Option, Result, Ok, Err}
use Rattle.text_bytes.specs.declared.profile.Profile.{Profile}
use Rattle.text_bytes.specs.declared.source_file.SourceFile.{SourceFile}
use Rattle.text_bytes.specs.Text.{Text}
use Rattle.trie_nodes.specs.declared.entry.Entry.{Entry}
use Rattle.builtin_devices.specs.Knowledge.{FilesFound, Known}
use Rattle.rule_types.specs.Rules.{Rule}
use Rattle.device_core.specs.Values.{EventValue}
use Rattle.engine_sessions.specs.declared.line.Format.{Format}
use Rattle.engine_sessions.specs.declared.line.Line.{Line}
use Rattle.engine_sessions.specs.Streams.{Streams, outputs}
use Rattle.engine_sessions.specs.Delivery.{RunOutcome, Delivers, ReportsFailure, ReportsFaults, out_of_memory}
use Rattle.trie_build.specs.declared.index_fault.IndexFault.{IndexFault}
use Rattle.trie_build.specs.Contents.{Contents}
use Rattle.engine_formats.specs.Masked.{shown_in}
use Rattle.engine_reports.specs.LookupDatabases.{LooksUpBy, lookups_by}
use Rattle.engine_reports.specs.Databases.{DatabaseValue, database}
use Rattle.engine_reports.specs.Openings.{OpeningValue}
use Rattle.engine_reports.specs.Indexes.{refused_index}
use Rattle.engine_reports.specs.Outcomes.{too_many_entries, too_many_rules}
use Rattle.engine_reports.specs.Reports.{IsRefused, IsReport, IsSaid}
use Rattle.engine_reports.specs.declared.report.Report.{Report}
use Rattle.engine_reports.specs.declared.refusal.Refusal.{Refusal}
use Rattle.engine_reports.specs.declared.refusal.Refusal.TheVariants.{TooManyEntries, TooManyRules, Index, Memory}
use Rattle.engine_sessions.specs.Outcomes.{input_outcome}
use Rattle.engine_sessions.specs.Serves.{AnswersAll, Serves, StopsBefore}
use Rattle.engine_sessions.specs.Sessions.{answers_as}
use Rattle.engine_sessions.specs.Tallies.{SaysAll, events_of, with_said}
use Rattle.engine_sessions.proofs.Saying.{said_serve}
use Rattle.engine_courses.specs.Rows.{TallyValue, counted, unreached}
use Rattle.engine_courses.specs.Unused.{lines_by, rules_named, unused_lines}
use Rattle.engine_sessions.proofs.Serving.{answers_serve, reports_serve}
use Rattle.builtin_core.specs.Builtins.{Held, known_by}
use Rattle.engine_answers.specs.Answers.{answer_by}
use Rattle.engine_courses.specs.Questions.{question_answer}
use Rattle.engine_core.specs.Outcomes.{added_of, answer_by_line, answer_with, asked_of, asks_more, before_input, known_for, outcome, outcome_by, reads_modaliases, reported_for, telling_of, unused_of}
use Rattle.engine_core.specs.Runs.{AnswersBy, RunsBy}
use Rattle.engine_core.specs.Reported.{ReportedValue, reported_by}

-- the outcome of the answers of an opening to an input
abbrev answered : Line → FilesFound → OpeningValue → Text → RunOutcome
answered line found opening = input_outcome (telling_of line) (shown_in line.format opening.messages) (answer_with line found opening)

opening_serves : (line : Line) (found : FilesFound) (opening : OpeningValue) (status : ℕ) (before now : Streams) → AnswersBy line found opening status before now → Serves (outcome_by line found (Ok opening)) status before now
opening_serves line found opening status before now r = by line.unused refl
  where
    by : (v : Bool) → line.unused ≡ v → Serves (λ input. cond v (with_said (unused_of line found opening input) (answered line found opening input)) (answered line found opening input)) status before now
    by true e = said_serve (telling_of line) (shown_in line.format opening.messages) (answer_with line found opening) (unused_of line found opening) status before now (r.says e)
    by false e = answers_serve (telling_of line) (shown_in line.format opening.messages) (answer_with line found opening) status before now (r.answers e)

runs_serve : (line : Line) (found : FilesFound) (opened : Result OpeningValue RunOutcome) (status : ℕ) (before now : Streams) → RunsBy line found opened status before now → Serves (outcome_by line found opened) status before now
runs_serve line found (Ok opening) status before now r = opening_serves line found opening status before now r
runs_serve line found (Err said) status before now r = reports_serve (λ text. said) said status before now (λ text. refl) r

lookups_serve : (line : Line) (read : Result DatabaseValue RunOutcome) (status : ℕ) (before now : Streams) → LooksUpBy line read status before now → Serves (lookups_by line read) status before now
lookups_serve line (Ok database) status before now r = r.serves
lookups_serve line (Err said) status before now r = reports_serve (λ text. said) said status before now (λ text. refl) r

-- a run that looks up the modaliases of its input serves
pub look_ups_serve : (line : Line) (files : List SourceFile) (found : FilesFound) (opened : Option (Result Contents IndexFault)) (status : ℕ) (before now : Streams) → reads_modaliases line ≡ true → LooksUpBy line (database line files opened) status before now
    → Serves (outcome line files found opened) status before now
look_ups_serve line files found opened status before now e r =
    subst (λ (v : Bool). Serves (λ input. cond v (lookups_by line (database line files opened) input) (outcome_by line found (before_input line.verb line files opened) input)) status before now) (sym e)
    (lookups_serve line (database line files opened) status before now r)

-- any other run serves
pub others_serve : (line : Line) (files : List SourceFile) (found : FilesFound) (opened : Option (Result Contents IndexFault)) (status : ℕ) (before now : Streams) → reads_modaliases line ≡ false → RunsBy line found (before_input line.verb line files opened) status before now
    → Serves (outcome line files found opened) status before now
others_serve line files found opened status before now e r =
    subst (λ (v : Bool). Serves (λ input. cond v (lookups_by line (database line files opened) input) (outcome_by line found (before_input line.verb line files opened) input)) status before now) (sym e)
    (runs_serve line found (before_input line.verb line files opened) status before now r)

-- what is said without a look at the input
pub report_runs : (line : Line) (found : FilesFound) (begun : Result OpeningValue RunOutcome) (said : RunOutcome) (report : Result Report Refusal) (status : ℕ) (before now : Streams) → begun ≡ Err said → ((outcome : RunOutcome) → IsReport outcome report → Delivers outcome status (outputs before) (outputs now))
    → ReportsFaults status (outputs before) (outputs now) → IsReport said report → now.input ≡ before.input → RunsBy line found begun status before now
report_runs line found begun said report status before now e delivers faults is unread = rw e (record { delivers = delivers said is; faults = faults; unread = unread })

-- what there is to say if events can't be answered
pub refused_runs : (line : Line) (found : FilesFound) (refusal : Refusal) (opened : Result OpeningValue RunOutcome) (status : ℕ) (before now : Streams) → IsRefused refusal opened
    → ((outcome : RunOutcome) → IsSaid refusal outcome → Delivers outcome status (outputs before) (outputs now)) → ReportsFaults status (outputs before) (outputs now)
    → (refusal ≡ Memory → ReportsFailure out_of_memory 4 status before.err now.err × (now.out ≡ before.out)) → now.input ≡ before.input → RunsBy line found opened status before now
refused_runs line found TooManyEntries opened status before now is delivers faults memory unread = rw is (record { delivers = delivers too_many_entries refl; faults = faults; unread = unread })
refused_runs line found TooManyRules opened status before now is delivers faults memory unread = rw is (record { delivers = delivers too_many_rules refl; faults = faults; unread = unread })
refused_runs line found (Index fault) opened status before now is delivers faults memory unread = rw is (record { delivers = delivers (refused_index fault) refl; faults = faults; unread = unread })
refused_runs line found Memory (Ok opening) status before now is delivers faults memory unread =
    let stops : StopsBefore (shown_in line.format opening.messages) status before now = record { unread = unread; unanswered = (memory refl).1; reports = inr (memory refl).0 } in
    record { says = λ e. inl stops; answers = λ e. inl stops }
refused_runs line found Memory (Err said) status before now is delivers faults memory unread = record { delivers = delivers said tt; faults = faults; unread = unread }

-- what refuses an opening is said whatever is asked for
pub asked_refused : (refusal : Refusal) (format : Format) (why : List Text) (opened : Result OpeningValue RunOutcome) → IsRefused refusal opened → IsRefused refusal (asked_of format why opened)
asked_refused TooManyEntries format why opened is = ap (asked_of format why) is
asked_refused TooManyRules format why opened is = ap (asked_of format why) is
asked_refused (Index fault) format why opened is = ap (asked_of format why) is
asked_refused Memory format why opened is = tt

-- events that are answered by what the line asks for are answered as it asks, and what is said is what it asks for
answered_runs : (line : Line) (found : FilesFound) (opening : OpeningValue) (messages : Text) (answer : EventValue → Text) (says : Text → Text) (status : ℕ) (before now : Streams) → messages ≡ shown_in line.format opening.messages → answer ≡ answer_by_line line found opening → says ≡ unused_of line found opening
    → (line.unused ≡ true → SaysAll (telling_of line) messages (answers_as line.profile answer) says status before now)
    → (line.unused ≡ false → AnswersAll (telling_of line) messages (answers_as line.profile answer) status before now) → AnswersBy line found opening status before now
answered_runs line found opening messages answer says status before now m a u s h = record {
  says = λ e. subst (λ t. SaysAll (telling_of line) t (answer_with line found opening) (unused_of line found opening) status before now) m
      (subst (λ (f : EventValue → Text). SaysAll (telling_of line) messages (answers_as line.profile f) (unused_of line found opening) status before now) a
      (subst (λ (f : Text → Text). SaysAll (telling_of line) messages (answers_as line.profile answer) f status before now) u (s e)));
  answers = λ e. subst (λ t. AnswersAll (telling_of line) t (answer_with line found opening) status before now) m
      (subst (λ (f : EventValue → Text). AnswersAll (telling_of line) messages (answers_as line.profile f) status before now) a (h e));
}

-- what is said by rules and what is known
abbrev said_by : Line → List Rule → Held → Text → Text
said_by line rules held text = unused_lines (added_of line) rules (known_by held) (events_of line.profile text)

-- a line that asks for questions is answered with these
pub asked_runs : (line : Line) (found : FilesFound) (opening : OpeningValue) (messages : Text) (tables : List Rule × Held) (rules : List Rule) (held : Held) (status : ℕ) (before now : Streams) → line.questions ≡ true → messages ≡ shown_in line.format opening.messages
    → tables ≡ (opening.rules, record { links = line.links.items; files = found; entries = opening.entries }) → rules ≡ tables.0 → held ≡ tables.1
    → (line.unused ≡ true → SaysAll (telling_of line) messages (answers_as line.profile (question_answer tables.0 (known_by tables.1))) (said_by line rules held) status before now)
    → (line.unused ≡ false → AnswersAll (telling_of line) messages (answers_as line.profile (question_answer tables.0 (known_by tables.1))) status before now)
    → AnswersBy line found opening status before now
asked_runs line found opening messages tables rules held status before now q m t r k s h =
    let other : EventValue → Text = cond (asks_more line) (reported_by (reported_for line opening) (known_for line found opening)) (answer_by opening.rules (known_for line found opening)) in
    answered_runs line found opening messages (question_answer tables.0 (known_by tables.1)) (said_by line rules held) status before now m
    (ap (λ (t : List Rule × Held). question_answer t.0 (known_by t.1)) t ∙ ap (λ b. cond b (question_answer opening.rules (known_for line found opening)) other) (sym q))
    (ap (λ x. said_by line x held) r ∙ ap (said_by line tables.0) k ∙ ap (λ (t : List Rule × Held). said_by line t.0 t.1) t) s h

-- a line that asks for more is answered with that
pub reported_runs : (line : Line) (found : FilesFound) (opening : OpeningValue) (messages : Text) (tables : ReportedValue × Held) (rules : List Rule) (held : Held) (status : ℕ) (before now : Streams) → line.questions ≡ false → asks_more line ≡ true → messages ≡ shown_in line.format opening.messages
    → tables ≡ (reported_for line opening, record { links = line.links.items; files = found; entries = opening.entries }) → rules ≡ tables.0.rules → held ≡ tables.1
    → (line.unused ≡ true → SaysAll (telling_of line) messages (answers_as line.profile (reported_by tables.0 (known_by tables.1))) (said_by line rules held) status before now)
    → (line.unused ≡ false → AnswersAll (telling_of line) messages (answers_as line.profile (reported_by tables.0 (known_by tables.1))) status before now)
    → AnswersBy line found opening status before now
reported_runs line found opening messages tables rules held status before now q a m t r k s h =
    let asked : EventValue → Text = question_answer opening.rules (known_for line found opening) in
    let more : EventValue → Text = reported_by (reported_for line opening) (known_for line found opening) in
    let alone : EventValue → Text = answer_by opening.rules (known_for line found opening) in
    answered_runs line found opening messages (reported_by tables.0 (known_by tables.1)) (said_by line rules held) status before now m
    (ap (λ (t : ReportedValue × Held). reported_by t.0 (known_by t.1)) t
    ∙ ap (λ b. cond b more alone) (sym a)
    ∙ ap (λ b. cond b asked (cond (asks_more line) more alone)) (sym q))
    (ap (λ x. said_by line x held) r ∙ ap (said_by line tables.0.rules) k ∙ ap (λ (t : ReportedValue × Held). said_by line t.0.rules t.1) t) s h

-- any other line is answered alone
pub alone_runs : (line : Line) (found : FilesFound) (opening : OpeningValue) (messages : Text) (tables : List Rule × Held) (rules : List Rule) (held : Held) (status : ℕ) (before now : Streams) → line.questions ≡ false → asks_more line ≡ false → messages ≡ shown_in line.format opening.messages
    → tables ≡ (opening.rules, record { links = line.links.items; files = found; entries = opening.entries }) → rules ≡ tables.0 → held ≡ tables.1
    → (line.unused ≡ true → SaysAll (telling_of line) messages (answers_as line.profile (answer_by tables.0 (known_by tables.1))) (said_by line rules held) status before now)
    → (line.unused ≡ false → AnswersAll (telling_of line) messages (answers_as line.profile (answer_by tables.0 (known_by tables.1))) status before now)
    → AnswersBy line found opening status before now
alone_runs line found opening messages tables rules held status before now q a m t r k s h =
    let asked : EventValue → Text = question_answer opening.rules (known_for line found opening) in
    let more : EventValue → Text = reported_by (reported_for line opening) (known_for line found opening) in
    let alone : EventValue → Text = answer_by opening.rules (known_for line found opening) in
    answered_runs line found opening messages (answer_by tables.0 (known_by tables.1)) (said_by line rules held) status before now m
    (ap (λ (t : List Rule × Held). answer_by t.0 (known_by t.1)) t
    ∙ ap (λ b. cond b more alone) (sym a)
    ∙ ap (λ b. cond b asked (cond (asks_more line) more alone)) (sym q))
    (ap (λ x. said_by line x held) r ∙ ap (said_by line tables.0) k ∙ ap (λ (t : List Rule × Held). said_by line t.0 t.1) t) s h

-- what a tally of rules says
pub tally_says : {K : Type 0} (known : K → Known) (added : List Text) (rules : List Rule) (knowledge : K) (tally : TallyValue K) (profile : Profile)
    → tally ≡ record { names = rules_named added; rules = rules; knowledge = knowledge; rows = map unreached rules }
    → ◌≡◌ {A = Text → Text} (λ text. lines_by tally.names tally.rules (counted tally.rules (known tally.knowledge) tally.rows (events_of profile text)))
    (λ text. unused_lines added rules (known knowledge) (events_of profile text))
unfolding unused_lines
tally_says {K = K} known added rules knowledge tally profile e =
    let says : TallyValue K → Text → Text = λ t text. lines_by t.names t.rules (counted t.rules (known t.knowledge) t.rows (events_of profile text)) in
    ap says e
