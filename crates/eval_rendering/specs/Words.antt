-- The words of a program's result, and what else substitutions take from a text.
use Rattle.std.specs.Prelude.{ℕ, zero, suc, not, List, [], ◌∷◌, ◌++◌, drop, take, flat_map}
use Rattle.std.specs.List.{prefix_len}
use Rattle.text_bytes.specs.Names.{space, is_whitespace}
use Rattle.text_bytes.specs.Text.{Text}
use Rattle.text_bytes.specs.Texts.{skip_while}

-- how many bytes the word at the start of a text has
abbrev pub word_len : Text → ℕ
word_len text = prefix_len (λ b. not (is_whitespace b)) text

-- a text from its word with a number on; the first word has the number 0
abbrev pub from_word : ℕ → Text → Text
from_word zero text = skip_while is_whitespace text
from_word (suc number) text = skip_while is_whitespace (drop (word_len (from_word number text)) (from_word number text))

-- the word with a number
abbrev pub word_at : ℕ → Text → Text
word_at number text = take (word_len (from_word number text)) (from_word number text)

-- texts joined by spaces
abbrev pub spaced : List Text → Text
spaced [] = []
spaced (text ∷ texts) = text ++ flat_map (λ other. space ∷ other) texts
