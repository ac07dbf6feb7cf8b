-- What is held of frames between two bytes.
use Rattle.std.specs.Prelude.{ℕ, []}
use Rattle.text_bytes.specs.Text.{Text}
use Rattle.lsp_server.specs.declared.frames.FramePart.{FramePart}
use Rattle.lsp_server.specs.declared.frames.FramePart.TheVariants as phase

-- The bytes of a header part that has not ended; how many bytes of a content are still to come, and those that came; how many bytes are
-- still to be passed over.
pub data Held : Type 0 where
  Header : Text → Held
  Content : ℕ → Text → Held
  Passing : ℕ → Held

-- nothing yet
abbrev pub start : Held
start = Header []

-- what is held, by the phase and the bytes
abbrev pub held_in : FramePart → Text → Held
held_in phase.Header bytes = Header bytes
held_in (phase.Content missing) bytes = Content missing bytes
held_in (phase.Passing left) bytes = Passing left
