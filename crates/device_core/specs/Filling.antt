-- Serves inner proofs only: what filling a room with a piece's bytes leaves.
use Rattle.std.specs.Prelude.{◌≡◌, ℕ, ◌==◌, ◌+◌, ◌-◌, ◌<◌, ◌&&◌, ◌||◌, Bool, false, [], ◌∷◌, ◌++◌, drop, get_or, length, take, if◌then◌else◌}
use Rattle.text_bytes.specs.Text.{Text}
use Rattle.text_bytes.specs.Names.{newline}
use Rattle.device_core.specs.Runs.{complete_runs, rest_of}
use Rattle.device_core.specs.Holding.{IsPending}
use Rattle.device_core.specs.declared.filling.Filled.{Filled}
use Rattle.device_core.specs.declared.filling.Stop.{Stop}
use Rattle.device_core.specs.declared.filling.Stop.TheVariants.{Used, Whole, Full}

-- whether a byte and the first of the bytes after it are two newlines, so that the line between them is empty
abbrev pub ends_run : ℕ → Text → Bool
ends_run byte text = byte == newline && get_or text 0 0 == newline

-- a text up to the first newline that another follows, with the first of the two
abbrev pub first_run : Text → Text
first_run [] = []
first_run (byte ∷ text) = if ends_run byte text then byte ∷ [] else byte ∷ first_run text

-- whether a newline is followed by another
abbrev pub has_empty_line : Text → Bool
has_empty_line [] = false
has_empty_line (byte ∷ text) = ends_run byte text || has_empty_line text

-- the bytes of a piece from a place up to another
abbrev pub taken : Text → ℕ → ℕ → Text
taken piece start end = take (end - start) (drop start piece)

-- The whole piece was put after what was held before, and no run is complete.
pub record UsesAll (before piece : Text) (used : ℕ) (begins : Bool) (held : Text) : Type 0 where
  pub all : used ≡ length piece
  pub none : complete_runs (before ++ take used piece) ≡ []
  pub rest : rest_of (before ++ take used piece) ≡ held
  pub pending : IsPending held begins

-- What is held is a complete run.
pub record Completes (before piece : Text) (used : ℕ) (held : Text) : Type 0 where
  pub has_byte : 0 < length held
  pub run : complete_runs (before ++ take used piece) ≡ held ∷ []
  pub rest : rest_of (before ++ take used piece) ≡ []
  pub moves : 0 < used

-- A room of this size is full, and the run goes on with the next byte of the piece.
pub record Overflows (before piece : Text) (used : ℕ) (held : Text) (room : ℕ) : Type 0 where
  pub within : used < length piece
  pub full : length held ≡ room
  pub byte : ℕ
  pub none : complete_runs (before ++ take (used + 1) piece) ≡ []
  pub rest : rest_of (before ++ take (used + 1) piece) ≡ held ++ byte ∷ []

-- how many bytes of a piece were used, if those to be held end at a place: the newline after a complete run is, too
abbrev pub used_by : Stop → ℕ → ℕ
used_by Used end = end
used_by Whole end = end + 1
used_by Full end = end

-- the outcome of filling, by why it stopped
abbrev pub FillsBy : Stop → Text → Text → ℕ → Bool → Text → ℕ → Type 0
FillsBy Used before piece used begins held room = UsesAll before piece used begins held
FillsBy Whole before piece used begins held room = Completes before piece used held
FillsBy Full before piece used begins held room = Overflows before piece used held room

-- the outcome of filling a room with a piece's bytes
abbrev pub Fills : Text → Text → Filled → Text → Type 0
Fills before piece filled room = FillsBy filled.stop before piece filled.used filled.at_start (take filled.len room) (length room)
