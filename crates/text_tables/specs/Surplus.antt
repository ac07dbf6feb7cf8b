-- Texts that one list has more often than another.
use Rattle.std.specs.Prelude.{ℕ, if◌then◌else◌, nat_lt, List, [], ◌∷◌, ◌++◌, count_by}
use Rattle.text_bytes.specs.Text.{Text}
use Rattle.text_tables.specs.Texts.{same_text}

-- how many times a text is in a list
abbrev pub times : Text → List Text → ℕ
times text texts = count_by (same_text text) texts

-- something that a text stands for, if those in front of it have the text as often as another list, or more often; else nothing
abbrev pub unless_fewer : {A : Type 0} → List Text → Text → A → List Text → List A
unless_fewer before text item others = if nat_lt (times text before) (times text others) then [] else item ∷ []

-- those of some items whose texts are more than another list has, if they follow others
abbrev pub surplus_after : {A : Type 0} → (A → Text) → List Text → List A → List Text → List A
surplus_after text before [] others = []
surplus_after text before (item ∷ items) others =
    unless_fewer before (text item) item others ++ surplus_after text (before ++ text item ∷ []) items others

-- The items whose texts a list has more often than another, in its order: each whose text is preceded by at least as many
-- equal ones as the other list has in all. So of items with equal texts the last ones are the surplus.
abbrev pub surplus_by : {A : Type 0} → (A → Text) → List A → List Text → List A
surplus_by text items others = surplus_after text [] items others

-- a line of a text, and what is shown for it
abbrev pub ShownLine : Type 0
ShownLine = Text × Text

-- the line itself
abbrev pub line_of : ShownLine → Text
line_of shown = shown.0

-- the texts that a list has more often than another, in its order
abbrev pub surplus : List Text → List Text → List Text
surplus texts others = surplus_by (λ text. text) texts others
