-- Serves inner proofs only: what the bytes that are left still add to a text's words.
use Rattle.std.specs.Prelude.{ℕ, Bool, true, false, if◌then◌else◌, List, [], ◌∷◌, ◌++◌, flat_map, not, ◌&&◌}
use Rattle.text_bytes.specs.Text.{Text}
use Rattle.text_bytes.specs.Names.{underscore, is_whitespace}
use Rattle.text_bytes.specs.Texts.{is_empty}
use Rattle.text_bytes.specs.Underscores.{words}
use Rattle.text_bytes.specs.declared.underscores.Word.{Word}

-- words after others, each with `_` before it
abbrev pub further : List Text → Text
further ws = flat_map (λ word. underscore ∷ word) ws

-- what is added if a word goes on
abbrev pub within : Text → Text
within [] = []
within (b ∷ text) = if is_whitespace b then further (words text) else b ∷ within text

-- what is added, by whether no word comes before and whether whitespace does
abbrev pub added : Bool → Bool → Text → Text
added true gap [] = []
added true gap (b ∷ text) = if is_whitespace b then added true gap text else b ∷ within text
added false true text = further (words text)
added false false text = within text

-- a byte after a word, unless it is whitespace; after a gap with `_` before it
abbrev pub with_byte : Text → Bool → ℕ → Text
with_byte word gap b =
    if is_whitespace b then word
    else (if gap && not (is_empty word) then word ++ underscore ∷ [] else word) ++ b ∷ []

-- the word that a word becomes when so much of the text is left
abbrev pub grown : Word → Text → Text
grown word left = word.bytes.items ++ added (is_empty word.bytes.items) word.gap left
