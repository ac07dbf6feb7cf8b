-- Serves inner proofs only: how a splitter's fields depend on one another.
use Rattle.std.specs.Prelude.{◌≡◌, ℕ, ◌==◌, ◌<◌, ◌≤◌, Bool, true, false, [], ◌∷◌, length, take}
use Rattle.text_bytes.specs.Text.{Text}
use Rattle.text_bytes.specs.Names.{newline}
use Rattle.device_core.specs.Runs.{complete_runs, rest_of}
use Rattle.device_core.specs.RunBlocks.{most_bytes}
use Rattle.device_core.specs.Splits.{Split}

-- whether a line begins after the text, if one does before it or not
abbrev pub begins_after : Bool → Text → Bool
begins_after start [] = start
begins_after start (byte ∷ text) = begins_after (byte == newline) text

-- what is held is a run that is not complete, and it is known whether a line begins after it
pub record IsPending (held : Text) (at_start : Bool) : Type 0 where
  pub none : complete_runs held ≡ []
  pub rest : rest_of held ≡ held
  pub begins : at_start ≡ begins_after true held

-- the splitter whose room holds these bytes: a complete block, or pending bytes
abbrev pub split_of : Bool → Text → Bool → Split
split_of true held ended = record { pending = []; block = held; ended = ended }
split_of false held ended = record { pending = held; block = []; ended = ended }

-- The room has its size. A complete block has at least one byte; without one, what is held is pending, or nothing
-- once the input has ended.
pub record IsSplitter (room : Text) (len : ℕ) (at_start is_complete ended : Bool) : Type 0 where
  pub sized : length room ≡ most_bytes
  pub within : len ≤ most_bytes
  pub some : is_complete ≡ true → 0 < len
  pub pending : is_complete ≡ false → ended ≡ false → IsPending (take len room) at_start
  pub nothing : is_complete ≡ false → ended ≡ true → len ≡ 0
