-- Texts as the lines of `--why` show them, and several of them in one line.
use Rattle.std.specs.Prelude.{ℕ, Bool, ◌||◌, nat_lt, if◌then◌else◌, List, [], ◌∷◌, ◌++◌, length, take, codes, decimal, flat_map}
use Rattle.text_bytes.specs.Escapes.{escape_text}
use Rattle.text_bytes.specs.Names.{double_quote, space}
use Rattle.text_bytes.specs.Texts.{begins_with, ends_in, is_empty}
use Rattle.text_bytes.specs.Text.{Text}

-- the most bytes of a text that are shown
abbrev pub most_shown : ℕ
most_shown = 200

-- after the start of a text how many bytes the text has
unfoldable pub size_note : ℕ → Text
size_note size = codes ".. (" ++ decimal size ++ codes " bytes)"

-- a text of a rule as it is between the quotes of its key: escaped, of a long one the start and how many bytes it has
abbrev pub shortened : Text → Text
shortened text = if nat_lt most_shown (length text) then escape_text (take most_shown text) ++ size_note (length text) else escape_text text

-- whether a text is shown between quotes: it is empty, begins or ends with a space, which could not be seen, or begins
-- with a quote, by which it would seem to be between quotes
abbrev pub is_quoted : Text → Bool
is_quoted text = is_empty text || (begins_with space text || (ends_in space text || begins_with double_quote text))

-- a text that is shown whole: escaped, and between quotes only if it has to be
unfoldable pub marked : Text → Text
marked text = if is_quoted text then double_quote ∷ escape_text text ++ double_quote ∷ [] else escape_text text

-- a text as it is shown: whole, or if it is long its start, and then how many bytes it has
unfoldable pub shown : Text → Text
shown text = if nat_lt most_shown (length text) then marked (take most_shown text) ++ size_note (length text) else marked text

-- texts with commas between them
abbrev pub joined : List Text → Text
joined [] = []
joined (text ∷ more) = text ++ flat_map (λ next. codes ", " ++ next) more
