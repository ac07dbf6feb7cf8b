-- The file that a text of `--why` may mean, if it names none of those that were read.
use Rattle.std.specs.Prelude.{Bool, List, Option, None, find, if◌then◌else◌, length, map, nat_lt, option_and_then}
use Rattle.std.specs.Option.{option_or}
use Rattle.text_bytes.specs.Kernels.{last_component}
use Rattle.text_bytes.specs.Text.{Text}
use Rattle.text_tables.specs.Texts.{same_text}
use Rattle.engine_formats.specs.Near as near
use Rattle.engine_courses.specs.Named.{file_in}
use Rattle.engine_courses.specs.Nearest.{Place}

-- the name of a place's file without its folder
abbrev pub file_name : Place → Text
file_name place = last_component place.0

-- the first place of a file with this name, in whatever folder it is
abbrev pub place_called : List Place → Text → Option Place
place_called places name = find (λ place. same_text (file_name place) name) places

-- the first place of the file whose name is nearest to a name, if one is near it
abbrev pub place_near : List Place → Text → Option Place
place_near places name = option_and_then (place_called places) (near.nearest (map file_name places) name)

-- The first place of the file that a text may mean, by what follows the last slash of the file that it names: of a file with
-- this name in another folder, or of that with the nearest name. No file has a name of more than 255 bytes.
unfoldable pub meant_file : Text → List Place → Option Place
meant_file text places =
    let name = last_component (file_in text) in
    if nat_lt 255 (length name) then None else option_or (place_called places name) (place_near places name)
