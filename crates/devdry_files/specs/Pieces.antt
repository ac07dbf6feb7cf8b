-- For proofs only, no reader has to believe it: what one read adds to a text.
use Rattle.std.specs.Prelude.{◌≡◌, ◌++◌, Bool, false, []}
use Rattle.text_bytes.specs.Text.{Text}
use Rattle.engine_sessions.specs.Reported.{NoneLeft}
use Rattle.engine_sessions.specs.Sources.{Gives, SourceFails, SourceState}
use Rattle.devdry_files.specs.declared.input_reading.InputFault.{InputFault}
use Rattle.devdry_files.specs.declared.input_reading.InputFault.TheVariants.{Memory, Read}

-- One piece was read and is added to the text; if the input goes on no more, it is empty and none was left.
pub record Adds (more : Bool) (old new : Text) (before now : SourceState) : Type 0 where
  pub piece : Text
  pub gives : Gives before piece now
  pub added : new ≡ old ++ piece
  pub ends : more ≡ false → (piece ≡ []) × NoneLeft before.left

-- what one read comes to if its piece is not added: the read failed, or one piece was read
abbrev pub AddsNot : InputFault → SourceState → SourceState → Type 0
AddsNot Read before now = SourceFails before now
AddsNot Memory before now = (piece : Text) × Gives before piece now
