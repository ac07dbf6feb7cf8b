-- Where something is, and a word about it, as lines report them.
use Rattle.std.specs.Prelude.{ℕ, ◌==◌, if◌then◌else◌, [], ◌∷◌, ◌++◌, length, codes, decimal}
use Rattle.text_bytes.specs.Text.{Text}
use Rattle.text_bytes.specs.Names.{colon}
use Rattle.text_bytes.specs.Escapes.{escape_text}

-- where something is, `FILE:LINE: `, the file's name escaped and the line's number in decimal
abbrev pub place_of : Text → ℕ → Text
place_of file line = escape_text file ++ colon ∷ decimal line ++ codes ": "

-- a word after a text, escaped; an empty word is left out with its colon
abbrev pub word_part : Text → Text
word_part word = if length word == 0 then [] else codes ": " ++ escape_text word
