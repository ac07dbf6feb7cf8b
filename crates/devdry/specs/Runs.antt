-- What a run of the program does with its words, with a disk that may give these answers.
use Rattle.std.specs.Prelude.{◌≡◌, ℕ, ◌⊎◌, [], List, codes, max}
use Rattle.text_bytes.specs.Text.{Text}
use Rattle.engine_checks.specs.Links.{links_outcome}
use Rattle.engine_core.specs.Comparing.{ComparesOver}
use Rattle.engine_core.specs.Runs.{RunsOver}
use Rattle.engine_sessions.specs.Delivery.{Delivers, IsOutOfMemory, RunOutcome}
use Rattle.engine_sessions.specs.Sinks.{BreaksOff, HandsOn, SinkState}
use Rattle.engine_sessions.specs.Sources.{SourceState}
use Rattle.engine_sessions.specs.Streams.{Streams, outputs}
use Rattle.devdry_files.specs.Answers.{Answer}
use Rattle.devdry_gathering.specs.Gathers.{Gathers, IsLeft}
use Rattle.devdry_gathering.specs.declared.gathered.Gathered.{Gathered}
use Rattle.devdry_gathering.specs.declared.gathered.Work.{Work}
use Rattle.devdry_gathering.specs.declared.gathered.Work.TheVariants as work
use Rattle.devdry_gathering.specs.declared.terminals.Terminals.{Terminals}

-- what is reported if an argument is not UTF-8
abbrev pub not_text : Text
not_text = codes "error: an argument is not UTF-8\n\nFor more information, try '--help'.\n"

-- an outcome is written, and no input is read
abbrev pub Writes : RunOutcome → (status : ℕ) → (before now : Streams) → Type 0
Writes outcome status before now = Delivers outcome status (outputs before) (outputs now) × (now.input ≡ before.input)

-- what comes of the work that is left: its status, and what the streams were before it and are now
abbrev pub Does : Work → (status : ℕ) → (before now : Streams) → Type 0
Does work.Nothing status before now = (status ≡ 0) × (now ≡ before)
Does (work.Tell text) status before now = Writes (record { output = text; messages = []; status = 0 }) status before now
Does (work.CheckLinks line files) status before now = Writes (links_outcome line files.items) status before now
Does (work.Answer its) status before now = RunsOver its.line its.files.items its.found its.index status before now
Does (work.Compare old new) status before now =
    ComparesOver old.line new.line old.files.items new.files.items old.found new.found new.index status before now

-- The error output has what is reported, and the work goes on from there; the status is its own, or the least one if that is
-- greater.
pub record Proceeds (g : Gathered) (status : ℕ) (before now : Streams) : Type 0 where
  pub err : SinkState
  pub hands_on : HandsOn before.err g.report.lines.items err
  pub own : ℕ
  pub does : Does g.work own (record { input = before.input; out = before.out; err = err }) now
  pub status_is : status ≡ max own g.report.least

-- The error output failed at what is reported, and nothing else was done.
pub record FailsAtReport (g : Gathered) (status : ℕ) (before now : Streams) : Type 0 where
  pub status_is : status ≡ 3
  pub breaks_off : BreaksOff before.err g.report.lines.items now.err
  pub unread : now.input ≡ before.input
  pub untouched : now.out ≡ before.out

-- what comes of what was gathered: what is reported is written first, and the work follows
abbrev pub RunsGathered : Gathered → (status : ℕ) → (before now : Streams) → Type 0
RunsGathered g status before now = Proceeds g status before now ⊎ FailsAtReport g status before now

-- All that the words ask for was gathered, the input is as that left it, and what was gathered is run.
pub record RunsWords (terminals : Terminals) (may : Answer → Type 0) (words : List Text) (status : ℕ) (before now : Streams) : Type 0 where
  pub gathered : Gathered
  pub input : SourceState
  pub gathers : Gathers terminals may words before.input gathered input
  pub runs : RunsGathered gathered status (record { input = input; out = before.out; err = before.err }) now

-- Memory ran out before the run, and only that is reported. Nothing of the input was read, or some of it if the words name it as a
-- file.
pub record IsRefused (may : Answer → Type 0) (words : List Text) (status : ℕ) (before now : Streams) : Type 0 where
  pub refused : IsOutOfMemory status (outputs before) (outputs now)
  pub input : IsLeft may words before.input now.input

-- what words do, given which streams are terminals; memory may run out in place of that
abbrev pub Runs : Terminals → (Answer → Type 0) → List Text → (status : ℕ) → (before now : Streams) → Type 0
Runs terminals may words status before now = RunsWords terminals may words status before now ⊎ IsRefused may words status before now
