-- The lines of a .link file: without comments, and with those put together that a backslash continues.
use Rattle.std.specs.Prelude.{ℕ, ◌-◌, ◌%◌, ◌==◌, ◌||◌, Bool, List, [], ◌∷◌, ◌++◌, length, take, if◌then◌else◌}
use Rattle.std.specs.List.{suffix_len}
use Rattle.text_bytes.specs.Names.{backslash, carriage_return, hash, is_blank, newline, space}
use Rattle.text_bytes.specs.Texts.{begins_with, ends_in, skip_while, without_last}
use Rattle.text_bytes.specs.Text.{Text}

-- a space, a tab, a newline or a carriage return
abbrev pub is_space : ℕ → Bool
is_space b = is_blank b || (b == newline || b == carriage_return)

-- a text without such bytes at its start
abbrev pub from_start : Text → Text
from_start text = skip_while is_space text

-- a text without such bytes at its ends
unfoldable pub stripped : Text → Text
stripped text = let begun = from_start text in take (length begun - suffix_len is_space begun) begun

-- a line without a carriage return at its end
abbrev pub bare : Text → Text
bare line = if ends_in carriage_return line then without_last line else line

-- whether a line is a comment: the first byte that is no such byte is `#` or `;`
unfoldable pub is_comment : Text → Bool
is_comment line = let text = from_start line in begins_with hash text || begins_with 59 text

-- whether a line goes on in the next one: it ends in an odd number of backslashes
abbrev pub is_continued : Text → Bool
is_continued line = suffix_len (λ b. b == backslash) line % 2 == 1

-- Lines put together after what is held of a line that goes on. Comments are left out, also between lines that belong
-- together; a space takes the place of the last backslash of a line that goes on; the last line may go on in none.
unfoldable pub joined_from : (held : Text) → List Text → List Text
joined_from held [] = held ∷ []
joined_from held (line ∷ lines) =
    if is_comment line then joined_from held lines
    else if is_continued (bare line) then joined_from ((held ++ without_last (bare line)) ++ space ∷ []) lines
    else (held ++ bare line) ∷ joined_from [] lines

-- lines put together
abbrev pub joined : List Text → List Text
joined lines = joined_from [] lines
