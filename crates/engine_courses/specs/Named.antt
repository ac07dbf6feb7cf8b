-- What a text of `--why` and the name of a file are compared as.
use Rattle.std.specs.Prelude.{Bool, ◌-◌, ◌==◌, if◌then◌else◌, is_some, length, position, take}
use Rattle.std.specs.Bool.{beq}
use Rattle.std.specs.List.{suffix_len}
use Rattle.text_bytes.specs.Names.{colon, slash}
use Rattle.text_bytes.specs.Numbers.{is_digit}
use Rattle.text_bytes.specs.Texts.{ends_in, without_last}
use Rattle.text_bytes.specs.Kernels.{last_component}
use Rattle.text_bytes.specs.Text.{Text}

-- whether a path leads through a folder
abbrev pub has_folder : Text → Bool
has_folder path = is_some (position (λ b. b == slash) path)

-- A text and the name of a file as they are compared: as they stand if both have folders or neither has, and otherwise by what
-- follows the last slash. So a path names the file that is read under its name alone, and a name the one that is read by its path.
unfoldable pub alike : Text → Text → Text × Text
alike text file =
    if beq (has_folder text) (has_folder file) then (text, file) else (last_component text, last_component file)

-- the file that a text names: what comes before `:` and digits at its end, if it ends so, or else all of it
abbrev pub file_in : Text → Text
file_in text =
    let front = take (length text - suffix_len is_digit text) text in
    if ends_in colon front then without_last front else text
