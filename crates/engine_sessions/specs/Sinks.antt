-- What a sink shows, and what its calls change.
use Rattle.std.specs.Prelude.{◌≡◌, ℕ, ◌≤◌, Option, None, length, take}
use Rattle.text_bytes.specs.Text.{Text}
use Rattle.engine_sessions.specs.Reported.{followed_by}
use Rattle.engine_sessions.specs.Counts.{Counts}

-- the bytes that a sink took and those that it flushed, if it reports them, and how many of its calls failed
pub record SinkState : Type 0 where
  pub taken : Option Text
  pub flushed : Option Text
  pub faults : ℕ

-- what a sink that does not report its bytes shows
abbrev pub unreported_sink : ℕ → SinkState
unreported_sink faults = record { taken = None; flushed = None; faults = faults }

-- The sink took these bytes; nothing more was flushed, and no call failed.
pub record Takes (before : SinkState) (bytes : Text) (now : SinkState) : Type 0 where
  pub taken : now.taken ≡ followed_by before.taken bytes
  pub flushed : now.flushed ≡ before.flushed
  pub well : now.faults ≡ before.faults

-- The sink flushed all that it had taken, and no call failed.
pub record Flushes (before now : SinkState) : Type 0 where
  pub taken : now.taken ≡ before.taken
  pub flushed : now.flushed ≡ before.taken
  pub well : now.faults ≡ before.faults

-- A call failed: nothing more was taken or flushed.
pub record SinkFails (before now : SinkState) : Type 0 where
  pub taken : now.taken ≡ before.taken
  pub flushed : now.flushed ≡ before.flushed
  pub failed : Counts 1 before.faults now.faults

-- The sink took a whole text and flushed all that it took, and no call failed.
pub record HandsOn (before : SinkState) (text : Text) (now : SinkState) : Type 0 where
  pub taken : now.taken ≡ followed_by before.taken text
  pub flushed : now.flushed ≡ now.taken
  pub well : now.faults ≡ before.faults

-- The sink took a first part of a text, perhaps all of it or nothing.
abbrev pub HasBegun : SinkState → Text → SinkState → Type 0
HasBegun before text now = (n : ℕ) × (n ≤ length text) × (now.taken ≡ followed_by before.taken (take n text))

-- The sink took a first part of a text, and then a call failed; nothing more was flushed.
pub record BreaksOff (before : SinkState) (text : Text) (now : SinkState) : Type 0 where
  pub taken : HasBegun before text now
  pub flushed : now.flushed ≡ before.flushed
  pub failed : Counts 1 before.faults now.faults
