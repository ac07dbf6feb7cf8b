-- A text as one word.
use Rattle.std.specs.Prelude.{not, List, filter}
use Rattle.std.specs.List.{join_with_byte, slice_split}
use Rattle.text_bytes.specs.Text.{Text}
use Rattle.text_bytes.specs.Names.{underscore, is_whitespace}
use Rattle.text_bytes.specs.Texts.{is_empty}

-- the words of a text: its longest runs of bytes that are not whitespace
abbrev pub words : Text → List Text
words text = filter (λ word. not (is_empty word)) (slice_split is_whitespace text)

-- the words of a text with `_` between each two, and no whitespace at its ends
unfoldable pub underscored : Text → Text
underscored text = join_with_byte underscore (words text)
