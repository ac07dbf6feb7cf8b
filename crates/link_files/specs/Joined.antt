-- The lines of a .link file with their places.
use Rattle.std.specs.Prelude.{ℕ, List, [], ◌∷◌, ◌++◌, length, Option, Some, None, option_to_list, if◌then◌else◌}
use Rattle.text_bytes.specs.Lines.{NumberedLine, numbered_lines}
use Rattle.text_bytes.specs.Names.{space}
use Rattle.text_bytes.specs.Texts.{without_last}
use Rattle.text_bytes.specs.Text.{Text}
use Rattle.link_files.specs.Lines.{bare, is_comment, is_continued}
use Rattle.link_files.specs.Settings.{unmarked}

-- A line that may be put together from several: the number of the first of these, how many bytes that has, and the text.
pub record JoinedLine : Type 0 where
  pub number : ℕ
  pub width : ℕ
  pub text : Text

-- what is held of a line that goes on, with a part of the next one; or the part alone
abbrev pub with_part : Option JoinedLine → NumberedLine → (part : Text) → JoinedLine
with_part None l part = record { number = l.number; width = length l.text; text = part }
with_part (Some held) l part = record { number = held.number; width = held.width; text = held.text ++ part }

-- a line that goes on: a space takes the place of its backslash
abbrev pub with_space : JoinedLine → JoinedLine
with_space l = record { number = l.number; width = l.width; text = l.text ++ space ∷ [] }

-- Lines put together after what is held of a line that goes on, as `joined_from` does that with their texts.
unfoldable pub joined_after : Option JoinedLine → List NumberedLine → List JoinedLine
joined_after held [] = option_to_list held
joined_after held (l ∷ ls) =
    if is_comment l.text then joined_after held ls
    else if is_continued (bare l.text) then joined_after (Some (with_space (with_part held l (without_last (bare l.text))))) ls
    else with_part held l (bare l.text) ∷ joined_after None ls

-- the lines of a file; those of a first line that begins with the mark of UTF-8 are counted behind it
unfoldable pub joined_lines : Text → List JoinedLine
joined_lines bytes = joined_after None (numbered_lines (unmarked bytes))
