-- What a session reads, writes and returns.
use Rattle.std.specs.Prelude.{◌≡◌, ℕ, ◌<◌, ◌⊎◌, List, None, length}
use Rattle.text_bytes.specs.Text.{Text}
use Rattle.engine_sessions.specs.Sinks.{HandsOn, SinkState}
use Rattle.engine_sessions.specs.Streams.{Streams}
use Rattle.engine_sessions.specs.Counts.{Counts}
use Rattle.engine_sessions.specs.Delivery.{ReportsFailure, out_of_memory, write_failed}
use Rattle.engine_sessions.specs.Inputs.{BeforeReads, GoesOn, ReadsToFault, ReadsWell, UsesUp}
use Rattle.engine_sessions.specs.Serves.{HasFlushed, Serves, StopsBefore, read_failed}
use Rattle.engine_sessions.specs.Turns.{joined}
use Rattle.lsp_server.specs.AnyServer.{Server, said_of}
use Rattle.lsp_server.specs.Outcomes.{session_outcome}

-- The replies to all items that are complete in these pieces are flushed, and the client exits at none of them.
pub record HasReplied {A : Type 0} (server : Server A) (read : List Text) (before now : SinkState) : Type 0 where
  pub stays : (said_of server (joined read)).exit ≡ None
  pub flushed : HasFlushed before (said_of server (joined read)).text now

-- How a session ended after so many reads is told behind the messages. Under 3 nothing is said. Otherwise one line says what failed: the
-- input, which also means that it did not end within its turns, the output, or memory, without a fault of either.
abbrev pub SaysWhy : (turns status : ℕ) → (after : SinkState) → (before now : Streams) → Type 0
SaysWhy turns status after before now =
    ((status < 3) × (now.err ≡ after))
    ⊎ ((Counts 1 before.input.faults now.input.faults ⊎ UsesUp turns before.input now.input) × ReportsFailure read_failed 3 status after now.err)
    ⊎ (Counts 1 before.out.faults now.out.faults × ReportsFailure write_failed 3 status after now.err)
    ⊎ ((now.input.faults ≡ before.input.faults) × (now.out.faults ≡ before.out.faults) × ReportsFailure out_of_memory 4 status after now.err)

-- The messages are written first, and then it is told how the session ended.
pub record WritesMessages (messages : Text) (turns status : ℕ) (before now : Streams) : Type 0 where
  pub after : SinkState
  pub says : HandsOn before.err messages after
  pub concludes : SaysWhy turns status after before now

-- These pieces are read, step by step. Nothing is read or replied if the messages could not be written. Each read gives a piece, except one
-- that fails. Before each read the input went on, the client had not exited, and the replies to all items that were complete were flushed.
pub record Replies {A : Type 0} (messages : Text) (server : Server A) (read : List Text) (status : ℕ) (before now : Streams) : Type 0 where
  pub order : StopsBefore messages status before now ⊎ WritesMessages messages (length read) status before now
  pub reads : ReadsWell (length read) before.input now.input ⊎ ReadsToFault (length read) before.input now.input
  pub goes_on : BeforeReads GoesOn read before.input now.input
  pub due : BeforeReads (λ pieces. HasReplied server pieces before.out now.out) read before.input now.input

-- What is written and returned is the outcome of the input, also step by step.
pub record ServesEditor {A : Type 0} (messages : Text) (server : Server A) (status : ℕ) (before now : Streams) : Type 0 where
  pub serves : Serves (session_outcome messages server) status before now
  pub steps : Replies messages server serves.read status before now
