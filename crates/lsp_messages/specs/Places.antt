-- The places of a text that positions name.
use Rattle.std.specs.Prelude.{◌≡◌, ◌≢◌, ℕ, ◌-◌, ◌<◌, ◌≤◌, false, length, slice_index}
use Rattle.text_bytes.specs.Names.{carriage_return, newline}
use Rattle.text_bytes.specs.Text.{Text}
use Rattle.lsp_messages.specs.Units.{is_within}

-- A place of a text: not within a character, and not between a carriage return and its newline.
pub record IsPlace (text : Text) (offset : ℕ) : Type 0 where
  pub inside : offset ≤ length text
  pub whole : is_within (slice_index text offset) ≡ false
  pub apart : 0 < offset → slice_index text (offset - 1) ≡ carriage_return → slice_index text offset ≢ newline
