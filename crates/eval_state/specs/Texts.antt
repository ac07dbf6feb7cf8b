-- Texts that may be absent.
use Rattle.std.specs.Prelude.{[], ◌∷◌, Option, Some, None, unwrap_or}
use Rattle.text_bytes.specs.Text.{Text}

-- a text, empty if there is none
abbrev pub or_empty : Option Text → Text
or_empty text = unwrap_or text []

-- a text that is there and has a byte
abbrev pub filled : Option Text → Option Text
filled None = None
filled (Some []) = None
filled (Some (b ∷ t)) = Some (b ∷ t)
