-- What comes of the words of a command line.
use Rattle.std.specs.Prelude.{◌≡◌, ℕ, List, []}
use Rattle.text_bytes.specs.Text.{Text}
use Rattle.engine_sessions.specs.Delivery.{Delivers, ReportsFailure, RunOutcome}
use Rattle.engine_sessions.specs.Streams.{Streams, outputs}
use Rattle.lsp_server.specs.Replies.{after, reply}
use Rattle.lsp_server.specs.Servers.{first}
use Rattle.lsp_server.specs.Runs.{ServesEditor}
use Rattle.lsp_server.specs.AnyServer.{acting}
use Rattle.devdry_lsp.specs.Words.{asked_of}
use Rattle.devdry_lsp.specs.declared.words.Asked.{Asked}
use Rattle.devdry_lsp.specs.declared.words.Asked.TheVariants.{Help, Serve, Unknown, Version}
use Rattle.devdry_lsp.specs.declared.running.TheConstants.{HELP, NOT_TEXT, UNKNOWN, VERSION}

-- what is said about a word that is not UTF-8
abbrev pub no_text : Text
no_text = NOT_TEXT.now

-- a text alone goes to the output, with status 0
abbrev pub alone : Text → RunOutcome
alone text = record { output = text; messages = []; status = 0 }

-- A text is written to the output, and nothing is read.
pub record Tells (text : Text) (status : ℕ) (before now : Streams) : Type 0 where
  pub delivers : Delivers (alone text) status (outputs before) (outputs now)
  pub unread : now.input ≡ before.input

-- A text is written to the error output with status 2, and nothing is read.
pub record Refuses (text : Text) (status : ℕ) (before now : Streams) : Type 0 where
  pub reports : ReportsFailure text 2 status before.err now.err
  pub untouched : now.out ≡ before.out
  pub unread : now.input ≡ before.input

-- what comes of what words ask for: a client is served by the server, from its first state on; or a text is written
abbrev pub RunsBy : Asked → ℕ → Streams → Streams → Type 0
RunsBy Serve status before now = ServesEditor [] (acting reply after first) status before now
RunsBy Help status before now = Tells HELP.now status before now
RunsBy Version status before now = Tells VERSION.now status before now
RunsBy Unknown status before now = Refuses UNKNOWN.now status before now

-- what comes of words
abbrev pub RunsWords : List Text → ℕ → Streams → Streams → Type 0
RunsWords words status before now = RunsBy (asked_of words) status before now
