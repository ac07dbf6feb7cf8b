-- A run step by step.
use Rattle.std.specs.Prelude.{◌≡◌, ℕ, true, false, List, Option, Result, Ok, Err}
use Rattle.text_bytes.specs.declared.source_file.SourceFile.{SourceFile}
use Rattle.text_bytes.specs.Text.{Text}
use Rattle.trie_build.specs.declared.index_fault.IndexFault.{IndexFault}
use Rattle.trie_build.specs.Contents.{Contents}
use Rattle.builtin_devices.specs.Knowledge.{FilesFound}
use Rattle.engine_sessions.specs.declared.line.Line.{Line}
use Rattle.engine_sessions.specs.Streams.{Streams}
use Rattle.engine_sessions.specs.Delivery.{RunOutcome}
use Rattle.engine_formats.specs.Masked.{shown_in}
use Rattle.engine_reports.specs.LookupDatabases.{LooksUpBy}
use Rattle.engine_reports.specs.Databases.{database}
use Rattle.engine_reports.specs.Indexes.{Opens}
use Rattle.engine_reports.specs.Openings.{OpeningValue}
use Rattle.engine_sessions.specs.Serves.{AnswersAll, Reports, Serves}
use Rattle.engine_sessions.specs.Tallies.{SaysAll}
use Rattle.engine_core.specs.Outcomes.{answer_with, before_input, outcome, reads_modaliases, telling_of, unused_of}

-- The messages of an opening, as the line's format shows them, the answers to an input after them, and, if the line asks for that,
-- the rules that are unused after these, step by step.
pub record AnswersBy (line : Line) (found : FilesFound) (opening : OpeningValue) (status : ℕ) (before now : Streams) : Type 0 where
  pub says : line.unused ≡ true
      → SaysAll (telling_of line) (shown_in line.format opening.messages) (answer_with line found opening) (unused_of line found opening) status before now
  pub answers : line.unused ≡ false
      → AnswersAll (telling_of line) (shown_in line.format opening.messages) (answer_with line found opening) status before now

-- a run of a line, by its outcome before it looks at its input
abbrev pub RunsBy : Line → FilesFound → Result OpeningValue RunOutcome → ℕ → Streams → Streams → Type 0
RunsBy line found (Ok opening) status before now = AnswersBy line found opening status before now
RunsBy line found (Err said) status before now = Reports said status before now

-- A run over the outcome of opening its index: what is written and answered is one function of the line, the files,
-- what was found at paths of the root, the index and the input, also step by step, whether it looks up the modaliases of its
-- input or not.
pub record RunsOver (line : Line) (files : List SourceFile) (found : FilesFound) (index : Option Text) (status : ℕ)
    (before now : Streams) : Type 0 where
  pub opened : Option (Result Contents IndexFault)
  pub opens : Opens index opened
  pub serves : Serves (outcome line files found opened) status before now
  pub looks_up : reads_modaliases line ≡ true → LooksUpBy line (database line files opened) status before now
  pub runs : reads_modaliases line ≡ false → RunsBy line found (before_input line.verb line files opened) status before now
