-- From the steps of a comparison to what it serves.
use Rattle.std.proofs.Common.{◌≡◌, ℕ, Bool, List, inl, inr, refl, subst, Result, Ok, Err}
use Rattle.text_bytes.specs.Text.{Text}
use Rattle.engine_sessions.specs.Streams.{Streams, outputs}
use Rattle.engine_sessions.specs.declared.line.Line.{Line}
use Rattle.engine_sessions.specs.Delivery.{RunOutcome, Delivers, ReportsFailure, ReportsFaults, out_of_memory}
use Rattle.engine_formats.specs.Masked.{shown_in}
use Rattle.engine_reports.specs.Openings.{OpeningValue}
use Rattle.engine_reports.specs.Indexes.{refused_index}
use Rattle.engine_reports.specs.Outcomes.{too_many_entries, too_many_rules}
use Rattle.engine_reports.specs.Reports.{IsRefused, IsSaid}
use Rattle.engine_reports.specs.declared.refusal.Refusal.{Refusal}
use Rattle.engine_reports.specs.declared.refusal.Refusal.TheVariants.{TooManyEntries, TooManyRules, Index, Memory}
use Rattle.rule_types.specs.Rules.{Rule}
use Rattle.device_core.specs.Values.{EventValue}
use Rattle.builtin_core.specs.Builtins.{Held, known_by}
use Rattle.builtin_devices.specs.Knowledge.{FilesFound}
use Rattle.engine_sessions.specs.Findings.{FindsAll}
use Rattle.engine_sessions.specs.Serves.{Serves}
use Rattle.engine_sessions.specs.declared.following.Telling.{Telling}
use Rattle.engine_sessions.specs.Sessions.{answers_as}
use Rattle.engine_sessions.proofs.Serving.{reports_serve}
use Rattle.engine_sessions.proofs.FindServing.{finds_serve}
use Rattle.engine_answers.specs.Objects.{compared}
use Rattle.engine_core.specs.Comparing.{ComparesBy, both_messages, compare_outcome, compared_answer, differences_by}
use Rattle.engine_core.specs.Outcomes.{telling_of}

pub compares_serve : (old_line new_line : Line) (old_found new_found : FilesFound) (old new : Result OpeningValue RunOutcome) (status : ℕ) (before now : Streams)
    → ComparesBy old_line new_line old_found new_found old new status before now → Serves (compare_outcome old_line new_line old_found new_found old new) status before now
compares_serve old_line new_line old_found new_found (Ok old) (Ok new) status before now r =
    finds_serve (telling_of old_line) (shown_in old_line.format (both_messages old.messages new.messages)) (answers_as old_line.profile (differences_by old_line new_line old_found new_found old new)) status before now r
compares_serve old_line new_line old_found new_found (Ok old) (Err said) status before now r = reports_serve (λ text. said) said status before now (λ text. refl) r
compares_serve old_line new_line old_found new_found (Err said) new status before now r = reports_serve (λ text. said) said status before now (λ text. refl) r

-- what is delivered if one side can't be opened
pub record Refuses (refusal : Refusal) (status : ℕ) (before now : Streams) : Type 0 where
  pub delivers : (outcome : RunOutcome) → IsSaid refusal outcome → Delivers outcome status (outputs before) (outputs now)
  pub faults : ReportsFaults status (outputs before) (outputs now)
  pub memory : refusal ≡ Memory → ReportsFailure out_of_memory 4 status before.err now.err × (now.out ≡ before.out)
  pub unread : now.input ≡ before.input

-- the old side is refused
pub old_refused : (old_line new_line : Line) (old_found new_found : FilesFound) (refusal : Refusal) (old new : Result OpeningValue RunOutcome) (status : ℕ) (before now : Streams)
    → IsRefused refusal old → Refuses refusal status before now → ComparesBy old_line new_line old_found new_found old new status before now
old_refused old_line new_line old_found new_found TooManyEntries old new status before now is r =
    rw is (record { delivers = r.delivers too_many_entries refl; faults = r.faults; unread = r.unread })
old_refused old_line new_line old_found new_found TooManyRules old new status before now is r =
    rw is (record { delivers = r.delivers too_many_rules refl; faults = r.faults; unread = r.unread })
old_refused old_line new_line old_found new_found (Index fault) old new status before now is r =
    rw is (record { delivers = r.delivers (refused_index fault) refl; faults = r.faults; unread = r.unread })
old_refused old_line new_line old_found new_found Memory (Ok old) (Ok new) status before now is r =
    inl (record { unread = r.unread; unanswered = (r.memory refl).1; reports = inr (r.memory refl).0 })
old_refused old_line new_line old_found new_found Memory (Ok old) (Err said) status before now is r = record { delivers = r.delivers said tt; faults = r.faults; unread = r.unread }
old_refused old_line new_line old_found new_found Memory (Err said) new status before now is r = record { delivers = r.delivers said tt; faults = r.faults; unread = r.unread }

-- the new side is refused, if the old one is not
pub new_refused : (old_line new_line : Line) (old_found new_found : FilesFound) (refusal : Refusal) (old new : Result OpeningValue RunOutcome) (value : OpeningValue) (status : ℕ)
    (before now : Streams) → old ≡ Ok value → IsRefused refusal new → Refuses refusal status before now → ComparesBy old_line new_line old_found new_found old new status before now
new_refused old_line new_line old_found new_found TooManyEntries old new value status before now e is r =
    rw (e, is) (record { delivers = r.delivers too_many_entries refl; faults = r.faults; unread = r.unread })
new_refused old_line new_line old_found new_found TooManyRules old new value status before now e is r =
    rw (e, is) (record { delivers = r.delivers too_many_rules refl; faults = r.faults; unread = r.unread })
new_refused old_line new_line old_found new_found (Index fault) old new value status before now e is r =
    rw (e, is) (record { delivers = r.delivers (refused_index fault) refl; faults = r.faults; unread = r.unread })
new_refused old_line new_line old_found new_found Memory old new value status before now e is r = old_refused old_line new_line old_found new_found Memory old new status before now tt r

-- whether with sources, rules, and what the builtins hold
abbrev pub Tables : Type 0
Tables = Bool × (List Rule × Held)

-- whether in JSON, and two tables
abbrev pub Both : Type 0
Both = Bool × (Tables × Tables)

-- what comes and goes between two tables
abbrev pub reported_by : Both → EventValue → Text
reported_by both event =
    compared both.0 event (compared_answer both.1.0.0 both.1.0.1.0 (known_by both.1.0.1.1) event) (compared_answer both.1.1.0 both.1.1.1.0 (known_by both.1.1.1.1) event)

pub finds_both : (line : Line) (telling : Telling) (messages said : Text) (both tables : Both) (status : ℕ) (before now : Streams)
    → telling ≡ telling_of line → messages ≡ said → both ≡ tables → FindsAll telling messages (answers_as line.profile (reported_by both)) status before now
    → FindsAll (telling_of line) said (answers_as line.profile (reported_by tables)) status before now
finds_both line telling messages said both tables status before now p e f h =
    subst (λ b. FindsAll b said (answers_as line.profile (reported_by tables)) status before now) p
    (subst (λ m. FindsAll telling m (answers_as line.profile (reported_by tables)) status before now) e
    (subst (λ t. FindsAll telling messages (answers_as line.profile (reported_by t)) status before now) f h))
