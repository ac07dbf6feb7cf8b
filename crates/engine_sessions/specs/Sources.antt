-- What a source shows, and what a read changes.
use Rattle.std.specs.Prelude.{◌≡◌, ℕ, Option, None, List, [], ◌∷◌}
use Rattle.text_bytes.specs.Text.{Text}
use Rattle.engine_sessions.specs.Reported.{followed_by, led_by}
use Rattle.engine_sessions.specs.Counts.{Counts}

-- the pieces read and the bytes still to come, if a source reports them, how many reads were made of it, and how many
-- of these failed
pub record SourceState : Type 0 where
  pub pieces : Option (List Text)
  pub left : Option Text
  pub reads : ℕ
  pub faults : ℕ

-- what a source that does not report its bytes shows
abbrev pub unreported_source : ℕ → ℕ → SourceState
unreported_source reads faults = record { pieces = None; left = None; reads = reads; faults = faults }

-- One read was made, and it gave a piece, the first of the bytes still to come.
pub record Gives (before : SourceState) (piece : Text) (now : SourceState) : Type 0 where
  pub pieces : now.pieces ≡ followed_by before.pieces (piece ∷ [])
  pub left : before.left ≡ led_by piece now.left
  pub reads : Counts 1 before.reads now.reads
  pub well : now.faults ≡ before.faults

-- One read was made, and it failed: it gave no piece and removed no byte.
pub record SourceFails (before now : SourceState) : Type 0 where
  pub pieces : now.pieces ≡ before.pieces
  pub left : now.left ≡ before.left
  pub reads : Counts 1 before.reads now.reads
  pub failed : Counts 1 before.faults now.faults
