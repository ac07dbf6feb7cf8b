-- What holds for courses, by the outcome of their rules.
use Rattle.std.specs.Prelude.{List, [], ◌∷◌, Option, Some, None}
use Rattle.text_bytes.specs.Text.{Text}

-- the last of texts, if there is one
abbrev pub last_of : List Text → Option Text
last_of [] = None
last_of (text ∷ []) = Some text
last_of (text ∷ other ∷ more) = last_of (other ∷ more)
