-- Serves the contracts of the calls between this crate and `engine_core`; no reader of `serve` has to believe it.
-- What a report holds, as an outcome, and what is said if there is none.
use Rattle.std.specs.Prelude.{◌≡◌, IfOk, IfErr, List, Result, Err}
use Rattle.trie_nodes.specs.declared.entry.Entry.{Entry}
use Rattle.hwdb_core.specs.declared.fault.HwdbFault as hwdb
use Rattle.hwdb_core.specs.declared.fault.HwdbFault.TheVariants as database
use Rattle.rule_core.specs.declared.fault.RulesFault.{RulesFault}
use Rattle.rule_core.specs.declared.fault.RulesFault.TheVariants as rules
use Rattle.engine_sessions.specs.Delivery.{RunOutcome}
use Rattle.engine_reports.specs.Indexes.{refused_index}
use Rattle.engine_reports.specs.Outcomes.{too_many_entries, too_many_rules}
use Rattle.engine_reports.specs.Openings.{OpeningValue}
use Rattle.engine_reports.specs.declared.opening.RulesRead.{RulesRead}
use Rattle.engine_reports.specs.declared.report.Report.{Report}
use Rattle.engine_reports.specs.declared.refusal.Refusal.{Refusal}
use Rattle.engine_reports.specs.declared.refusal.Refusal.TheVariants.{TooManyEntries, TooManyRules, Index, Memory}

-- what a report says
abbrev pub said : Report → RunOutcome
said report = record { output = report.output.items; messages = report.messages.items; status = report.status }

-- what becomes of a fault of the database
abbrev pub refused_entries : hwdb.HwdbFault → Refusal
refused_entries database.TooMany = TooManyEntries
refused_entries database.Memory = Memory

-- what becomes of a fault of rules
abbrev pub refused_rules : RulesFault → Refusal
refused_rules rules.TooMany = TooManyRules
refused_rules rules.Memory = Memory

-- A refusal is what is to be said; about out of memory nothing is said here.
abbrev pub IsSaid : Refusal → RunOutcome → Type 0
IsSaid TooManyEntries outcome = outcome ≡ too_many_entries
IsSaid TooManyRules outcome = outcome ≡ too_many_rules
IsSaid (Index fault) outcome = outcome ≡ refused_index fault
IsSaid Memory outcome = Unit {0}

-- A report says this outcome, or its refusal does.
pub record IsReport (outcome : RunOutcome) (report : Result Report Refusal) : Type 0 where
  pub says : IfOk report (λ r. said r ≡ outcome)
  pub refused : IfErr report (λ e. IsSaid e outcome)

-- what a contract sees of what comes before the first answer, by the rules that were read and the entries beside them
abbrev pub shown_rules : RulesRead → List Entry → OpeningValue
shown_rules read entries = record { messages = read.messages.items; about_rules = read.rules.messages; rules = read.rules.rules; entries = entries }

-- A refusal is what is to be said instead of an opening; about out of memory nothing is said here.
abbrev pub IsRefused : {A : Type 0} → Refusal → Result A RunOutcome → Type 0
IsRefused Memory opening = Unit {0}
IsRefused TooManyEntries opening = opening ≡ Err too_many_entries
IsRefused TooManyRules opening = opening ≡ Err too_many_rules
IsRefused (Index fault) opening = opening ≡ Err (refused_index fault)
