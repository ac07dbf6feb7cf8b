-- The line with which what is said of an event begins.
use Rattle.std.specs.Prelude.{[], ◌∷◌, ◌++◌, codes}
use Rattle.text_bytes.specs.Text.{Text}
use Rattle.text_bytes.specs.Names.{space, newline}
use Rattle.text_bytes.specs.Escapes.{escape_text}

-- what happened, and to which device
unfoldable pub event_line : Text → Text → Text
event_line action path = codes "event" ++ space ∷ (escape_text action ++ space ∷ escape_text path) ++ newline ∷ []
