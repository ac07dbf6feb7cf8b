-- For proofs only, no reader has to believe it: how bytes are taken, and what is said to the items that they complete.
use Rattle.std.specs.Prelude.{◌≡◌, ◌++◌, Option, Some, None}
use Rattle.text_bytes.specs.Text.{Text}
use Rattle.engine_sessions.specs.Sinks.{BreaksOff, SinkState}
use Rattle.engine_sessions.specs.Serves.{WritesOut}
use Rattle.lsp_server.specs.Held.{Held, start}
use Rattle.lsp_server.specs.Items.{items_after}
use Rattle.lsp_server.specs.AnyServer.{IsFirstOf, Said, Server, led, said_to}
use Rattle.lsp_server.specs.declared.replying.Exit.{Exit}
use Rattle.lsp_server.specs.declared.sending.SessionFault.{SessionFault}
use Rattle.lsp_server.specs.declared.sending.SessionFault.TheVariants.{Read, Write, Memory}

-- what is held of the frames, and the server
pub record Situation (A : Type 0) : Type 0 where
  pub held : Held
  pub server : Server A

abbrev pub situation : {A : Type 0} → Held → Server A → Situation A
situation held server = record { held = held; server = server }

-- at an input's start
abbrev pub opened : {A : Type 0} → Server A → Situation A
opened server = situation start server

-- what is said to the bytes that follow
abbrev pub said_by : {A : Type 0} → Situation A → Text → Said
said_by now text = said_to now.server (items_after now.held text)

-- Some bytes were taken, the replies to the items that they complete are written, and the client did not exit.
pub record GoesBy {A : Type 0} (old : Situation A) (part : Text) (now : Situation A) (before sink : SinkState) : Type 0 where
  pub said : Text
  pub leads : (later : Text) → said_by old (part ++ later) ≡ led said (said_by now later)
  pub writes : WritesOut before said sink

-- The client exited in these bytes, and all that is said until then is written.
pub record ExitsIn {A : Type 0} (exit : Exit) (old : Situation A) (part : Text) (before sink : SinkState) : Type 0 where
  pub said : Text
  pub leads : (later : Text) → said_by old (part ++ later) ≡ record { text = said; exit = Some exit }
  pub writes : WritesOut before said sink

-- bytes were taken, and the client exited in them or not
abbrev pub TakesBy : {A : Type 0} → Option Exit → (old : Situation A) → (part : Text) → (now : Situation A) → (before sink : SinkState) → Type 0
TakesBy None old part now before sink = GoesBy old part now before sink
TakesBy (Some exit) old part now before sink = ExitsIn exit old part before sink

-- how a reply fails: in the output, or because memory runs out
abbrev pub StopsInReply : SessionFault → Text → SinkState → SinkState → Type 0
StopsInReply Read text before now = ⊥
StopsInReply Write text before now = BreaksOff before text now
StopsInReply Memory text before now = now ≡ before

-- It stops in these bytes: some replies are written, and it stops in the next one.
pub record StopsIn {A : Type 0} (fault : SessionFault) (old : Situation A) (part : Text) (before now : SinkState) : Type 0 where
  pub said : Text
  pub after : SinkState
  pub writes : WritesOut before said after
  pub next : Text
  pub leads : (later : Text) → IsFirstOf (said ++ next) (said_by old (part ++ later)).text
  pub stops : StopsInReply fault next after now
