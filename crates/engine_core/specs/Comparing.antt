-- What a comparison says: its outcome, as a function of the two command lines, the files passed in and what was found at
-- paths of the root for each, the outcome of opening an index, and the input.
use Rattle.std.specs.Prelude.{ℕ, Bool, if◌then◌else◌, List, ◌++◌, Option, Result, Ok, Err, codes}
use Rattle.text_bytes.specs.declared.source_file.SourceFile.{SourceFile}
use Rattle.text_bytes.specs.Text.{Text}
use Rattle.trie_build.specs.declared.index_fault.IndexFault.{IndexFault}
use Rattle.trie_build.specs.Contents.{Contents}
use Rattle.device_core.specs.Values.{EventValue}
use Rattle.builtin_devices.specs.Knowledge.{FilesFound, Known}
use Rattle.rule_types.specs.Rules.{Rule}
use Rattle.engine_answers.specs.Answers.{answer_by, sourced_lines}
use Rattle.engine_core.specs.Outcomes.{is_json, known_for, telling_of}
use Rattle.engine_sessions.specs.declared.line.Line.{Line}
use Rattle.engine_sessions.specs.Delivery.{RunOutcome}
use Rattle.engine_sessions.specs.Streams.{Streams}
use Rattle.engine_formats.specs.Masked.{shown_in}
use Rattle.engine_reports.specs.Indexes.{Opens}
use Rattle.engine_reports.specs.Openings.{OpeningValue, opening}
use Rattle.engine_sessions.specs.Findings.{FindsAll, found}
use Rattle.engine_sessions.specs.Outcomes.{input_outcome}
use Rattle.engine_sessions.specs.Serves.{Reports, Serves}
use Rattle.engine_sessions.specs.Sessions.{answers_as}
use Rattle.engine_answers.specs.Differences.{ShownAnswer, marked_text}
use Rattle.engine_answers.specs.Objects.{compared}

-- an answer to an event, and the answer as it is shown: with sources each line is after the place of the rule that it comes from
abbrev pub compared_answer : (sources : Bool) → List Rule → Known → EventValue → ShownAnswer
compared_answer sources rules known event =
    (answer_by rules known event, if sources then sourced_lines rules known event else answer_by rules known event)

-- what appears and disappears between the answers to an event by two lines and their openings, in the old line's format, and with
-- sources if that asks for them
abbrev pub differences_by : (old_line new_line : Line) → (old_found new_found : FilesFound) → (old new : OpeningValue) → EventValue → Text
differences_by old_line new_line old_found new_found old new event =
    compared (is_json old_line.format) event
    (compared_answer old_line.sources old.rules (known_for old_line old_found old) event)
    (compared_answer old_line.sources new.rules (known_for new_line new_found new) event)

-- the messages about both sides: those about the old rules, each line after `[OLD] `, and then those about the new ones, each
-- after `[NEW] `
abbrev pub both_messages : Text → Text → Text
both_messages old new = marked_text (codes "[OLD] ") old ++ marked_text (codes "[NEW] ") new

-- The outcome of a comparison over an input, by the two lines, what was found and the opening of both sides: rules are
-- evaluated by the old line's profile, and messages, differences and faulty blocks are in its format. It is the messages about the old and then about
-- the new rules, and for each block of the input what appears and disappears, which is a finding. If one side can't be
-- opened, what is said about that, about the old one first.
abbrev pub compare_outcome : (old_line new_line : Line) → (old_found new_found : FilesFound) → (old new : Result OpeningValue RunOutcome) → Text → RunOutcome
compare_outcome old_line new_line old_found new_found (Ok old) (Ok new) input =
    found (input_outcome (telling_of old_line) (shown_in old_line.format (both_messages old.messages new.messages))
    (answers_as old_line.profile (differences_by old_line new_line old_found new_found old new)) input)
compare_outcome old_line new_line old_found new_found (Ok old) (Err said) input = said
compare_outcome old_line new_line old_found new_found (Err said) new input = said

-- a comparison step by step, by the two lines, what was found and the opening of both sides
abbrev pub ComparesBy : (old_line new_line : Line) → (old_found new_found : FilesFound) → (old new : Result OpeningValue RunOutcome)
    → ℕ → Streams → Streams → Type 0
ComparesBy old_line new_line old_found new_found (Ok old) (Ok new) status before now =
    FindsAll (telling_of old_line) (shown_in old_line.format (both_messages old.messages new.messages))
    (answers_as old_line.profile (differences_by old_line new_line old_found new_found old new)) status before now
ComparesBy old_line new_line old_found new_found (Ok old) (Err said) status before now = Reports said status before now
ComparesBy old_line new_line old_found new_found (Err said) new status before now = Reports said status before now

-- A comparison with the outcome of opening the index, by the old line's profile: what is written and returned is one
-- function of the two lines, the files of each and what was found for each, the index and the input; and the same step by step.
pub record ComparesOver (old_line new_line : Line) (old_files new_files : List SourceFile) (old_found new_found : FilesFound) (index : Option Text) (status : ℕ)
    (before now : Streams) : Type 0 where
  pub opened : Option (Result Contents IndexFault)
  pub opens : Opens index opened
  pub serves : Serves (compare_outcome old_line new_line old_found new_found (opening old_line old_files opened) (opening new_line new_files opened))
      status before now
  pub steps : ComparesBy old_line new_line old_found new_found (opening old_line old_files opened) (opening new_line new_files opened)
      status before now
