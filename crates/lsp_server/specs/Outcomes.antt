-- The outcome of a session.
use Rattle.std.specs.Prelude.{ℕ, Option, Some, None}
use Rattle.text_bytes.specs.Text.{Text}
use Rattle.engine_sessions.specs.Delivery.{RunOutcome}
use Rattle.lsp_server.specs.AnyServer.{Said, Server, said_of}
use Rattle.lsp_server.specs.declared.replying.Exit.{Exit}
use Rattle.lsp_server.specs.declared.replying.Exit.TheVariants.{AfterShutdown, WithoutShutdown}

-- the status by how the client exits; it is 1 if the input ends and the client has not
abbrev pub status_of : Option Exit → ℕ
status_of None = 1
status_of (Some AfterShutdown) = 0
status_of (Some WithoutShutdown) = 1

-- the outcome of what is said, after messages
abbrev pub outcome_of : Text → Said → RunOutcome
outcome_of messages said = record { output = said.text; messages = messages; status = status_of said.exit }

-- the outcome of an input, after messages
abbrev pub session_outcome : {A : Type 0} → Text → Server A → Text → RunOutcome
session_outcome messages server input = outcome_of messages (said_of server input)
