-- What `query -` does, by the database that it opens.
use Rattle.std.specs.Prelude.{ℕ, Result, Ok, Err}
use Rattle.text_bytes.specs.Text.{Text}
use Rattle.engine_sessions.specs.declared.line.Line.{Line}
use Rattle.engine_sessions.specs.Delivery.{RunOutcome}
use Rattle.engine_sessions.specs.Streams.{Streams}
use Rattle.engine_reports.specs.Databases.{DatabaseValue}
use Rattle.engine_sessions.specs.Serves.{Reports}
use Rattle.engine_reports.specs.LookupOutcomes.{answer_to, lines_outcome}
use Rattle.engine_reports.specs.Runs.{LooksUp}

-- the outcome of the lines of an input over a database, or what is said in place of the database
abbrev pub lookups_by : Line → Result DatabaseValue RunOutcome → Text → RunOutcome
lookups_by line (Ok database) input = lines_outcome database.messages (answer_to line.sources database.entries) input
lookups_by line (Err said) input = said

-- a run over the lines of an input: they are looked up in the database, or what is said in its place is delivered and no input is read
abbrev pub LooksUpBy : Line → Result DatabaseValue RunOutcome → ℕ → Streams → Streams → Type 0
LooksUpBy line (Ok database) status before now = LooksUp database.messages (answer_to line.sources database.entries) status before now
LooksUpBy line (Err said) status before now = Reports said status before now
