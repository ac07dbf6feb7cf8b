-- Where the rows of a text begin.
use Rattle.std.specs.Prelude.{ℕ, suc, ◌==◌, Bool, not, ◌&&◌, ◌||◌, List, [], ◌∷◌, if◌then◌else◌}
use Rattle.text_bytes.specs.Names.{carriage_return, newline}
use Rattle.text_bytes.specs.Texts.{begins_with}
use Rattle.text_bytes.specs.Text.{Text}

-- whether a row ends after a byte: a newline, or a carriage return that no newline follows
abbrev pub ends_row : ℕ → (following : Text) → Bool
ends_row b following = b == newline || (b == carriage_return && not (begins_with newline following))

-- where rows begin after the first one, in a text that itself begins at a place
abbrev pub starts_from : ℕ → Text → List ℕ
starts_from at [] = []
starts_from at (b ∷ text) = if ends_row b text then suc at ∷ starts_from (suc at) text else starts_from (suc at) text

-- where rows begin after the first one
abbrev pub starts : Text → List ℕ
starts text = starts_from 0 text
