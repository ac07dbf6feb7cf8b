-- The words of a token: the texts that it compares with or assigns, each once.
use Rattle.std.specs.Prelude.{Bool, if◌then◌else◌, List, [], ◌∷◌, Option, Some, None, fold}
use Rattle.std.specs.List.{slice_split}
use Rattle.text_bytes.specs.Texts.{is_empty}
use Rattle.text_core.specs.Choices.{is_bar}
use Rattle.text_bytes.specs.Text.{Text}
use Rattle.text_tables.specs.Texts.{with_text}

-- words, and one more unless it is empty
abbrev pub with_word : List Text → Text → List Text
with_word words part = if is_empty part then words else with_text words part

-- the texts between bars that are not empty, each once
abbrev pub parts_of : Text → List Text
parts_of text = fold with_word [] (slice_split is_bar text)

-- the words of a text, if there is one: those between bars, or the whole
unfoldable pub words_of : Bool → Option Text → List Text
words_of between_bars None = []
words_of between_bars (Some text) = if between_bars then parts_of text else text ∷ []
