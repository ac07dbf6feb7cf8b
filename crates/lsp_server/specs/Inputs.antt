-- For proofs only, no reader has to believe it: what is read of an input in turns, and how that ends.
use Rattle.std.specs.Prelude.{◌≡◌, ℕ, ◌⊎◌, true, false, List, Option, Some, None, Result, Ok, Err, length}
use Rattle.text_bytes.specs.Text.{Text}
use Rattle.engine_sessions.specs.Reported.{followed_by, led_by, NoneLeft}
use Rattle.engine_sessions.specs.Counts.{Counts}
use Rattle.engine_sessions.specs.Sources.{SourceFails, SourceState}
use Rattle.engine_sessions.specs.Sinks.{SinkState}
use Rattle.engine_sessions.specs.Delivery.{ReportsFailure, out_of_memory, write_failed}
use Rattle.engine_sessions.specs.Inputs.{BeforeReads, Devices, GoesOn, ReadsToFault, ReadsWell, UsesUp}
use Rattle.engine_sessions.specs.Serves.{WritesOut, read_failed}
use Rattle.engine_sessions.specs.Turns.{Reads, joined}
use Rattle.lsp_server.specs.AnyServer.{Server, said_of}
use Rattle.lsp_server.specs.Outcomes.{status_of}
use Rattle.lsp_server.specs.Runs.{HasReplied}
use Rattle.lsp_server.specs.Taking.{ExitsIn, GoesBy, Situation, StopsIn, opened}
use Rattle.lsp_server.specs.declared.replying.Exit.{Exit}
use Rattle.lsp_server.specs.declared.sending.SessionFault.{SessionFault}
use Rattle.lsp_server.specs.declared.sending.SessionFault.TheVariants.{Read, Write, Memory}
use Rattle.lsp_server.specs.declared.turning.Next.{Next}
use Rattle.lsp_server.specs.declared.turning.Next.TheVariants.{GoesOn as More, Ends}

-- A piece was read, and the client did not exit in it.
pub record Proceeds {A : Type 0} (old new : Situation A) (before now : Devices) : Type 0 where
  pub piece : Text
  pub reads : Reads true before.input piece now.input
  pub goes : GoesBy old piece new before.output now.output

-- A piece was read, and the client exited in it.
pub record Exits {A : Type 0} (exit : Exit) (old : Situation A) (before now : Devices) : Type 0 where
  pub piece : Text
  pub reads : Reads true before.input piece now.input
  pub exits : ExitsIn exit old piece before.output now.output

-- The input ends.
pub record InputEnds (before now : Devices) : Type 0 where
  pub piece : Text
  pub reads : Reads false before.input piece now.input
  pub untouched : now.output ≡ before.output

-- what a turn does, by what comes next
abbrev pub Turns : {A : Type 0} → Next → (old new : Situation A) → (before now : Devices) → Type 0
Turns More old new before now = Proceeds old new before now
Turns (Ends None) old new before now = InputEnds before now
Turns (Ends (Some exit)) old new before now = Exits exit old before now

-- A piece was read, and then it stops.
pub record FailsAfterRead {A : Type 0} (fault : SessionFault) (old : Situation A) (before now : Devices) : Type 0 where
  pub piece : Text
  pub reads : Reads true before.input piece now.input
  pub stops : StopsIn fault old piece before.output now.output

-- what a turn does if it fails: its read failed, or it stops after that
abbrev pub TurnFails : {A : Type 0} → SessionFault → (old : Situation A) → (before now : Devices) → Type 0
TurnFails Read old before now = SourceFails before.input now.input × (now.output ≡ before.output)
TurnFails fault old before now = FailsAfterRead fault old before now

-- All that is said to a text is written, and the client did not exit.
pub record IsReplied {A : Type 0} (server : Server A) (text : Text) (before now : SinkState) : Type 0 where
  pub stays : (said_of server text).exit ≡ None
  pub writes : WritesOut before (said_of server text).text now

-- how it ends, by the bytes read and those left
abbrev pub EndsBy : {A : Type 0} → Server A → Result (Option Exit) SessionFault → (text : Text) → (left : Option Text) → (before now : SinkState) → Type 0
EndsBy server (Ok None) text left before now = IsReplied server text before now × NoneLeft left
EndsBy server (Ok (Some exit)) text left before now = ExitsIn exit (opened server) text before now
EndsBy server (Err Read) text left before now = IsReplied server text before now
EndsBy server (Err fault) text left before now = StopsIn fault (opened server) text before now

-- whether a read failed, or all turns were used up
abbrev pub FaultsBy : Result (Option Exit) SessionFault → ℕ → (before now : SourceState) → Type 0
FaultsBy (Err Read) turns before now = Counts 1 before.faults now.faults ⊎ UsesUp turns before now
FaultsBy _ turns before now = now.faults ≡ before.faults

-- What is read of an input in pieces, what is said to it, and how it ends.
pub record ServesInput {A : Type 0} (server : Server A) (end : Result (Option Exit) SessionFault) (before now : Devices) : Type 0 where
  pub read : List Text
  pub pieces : now.input.pieces ≡ followed_by before.input.pieces read
  pub left : before.input.left ≡ led_by (joined read) now.input.left
  pub faults : FaultsBy end (length read) before.input now.input
  pub reads : ReadsWell (length read) before.input now.input ⊎ ReadsToFault (length read) before.input now.input
  pub goes_on : BeforeReads GoesOn read before.input now.input
  pub due : BeforeReads (λ pieces. HasReplied server pieces before.output now.output) read before.input now.input
  pub ends : EndsBy server end (joined read) now.input.left before.output now.output

-- how that is reported: by its status alone, or by one line and its status
abbrev pub Concludes : Result (Option Exit) SessionFault → ℕ → SinkState → SinkState → Type 0
Concludes (Ok exit) status err err_now = (status ≡ status_of exit) × (err_now ≡ err)
Concludes (Err Read) status err err_now = ReportsFailure read_failed 3 status err err_now
Concludes (Err Write) status err err_now = ReportsFailure write_failed 3 status err err_now
Concludes (Err Memory) status err err_now = ReportsFailure out_of_memory 4 status err err_now
