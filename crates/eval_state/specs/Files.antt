-- The files and folders of a device in sysfs, as far as the names of its attributes show them. A name is a path below
-- the device's own folder.
use Rattle.std.specs.Prelude.{ℕ, ◌+◌, ◌-◌, Bool, false, not, ◌==◌, ◌||◌, ◌&&◌, nat_eq, if◌then◌else◌, List, [], ◌∷◌}
use Rattle.std.specs.Prelude.{◌++◌, length, take, drop, slice_index, Option, Some, None, is_some, option_map, position}
use Rattle.std.specs.List.{list_any, prefix_len, range_with_len, starts_with}
use Rattle.std.specs.Option.{option_and_then, option_or}
use Rattle.text_bytes.specs.Names.{dot, slash, star}
use Rattle.text_bytes.specs.Texts.{begins_with, following, is_empty}
use Rattle.text_bytes.specs.Text.{Text}
use Rattle.text_tables.specs.Pairs.{names}
use Rattle.device_core.specs.Values.{DeviceValue}

-- whether a whole component `*` is at a place of a name, and a slash after it
abbrev pub is_star : Text → ℕ → Bool
is_star name place = starts_with nat_eq (drop place name) (star ∷ slash ∷ []) && (place == 0 || slice_index name (place - 1) == slash)

-- the place of the first such component
unfoldable pub star_place : Text → Option ℕ
star_place name = position (is_star name) (range_with_len 0 (length name))

-- the first component of a path: what comes before its first slash
abbrev pub first_component : Text → Text
first_component path = take (prefix_len (λ b. not (b == slash)) path) path

-- what follows that
abbrev pub after_component : Text → Text
after_component path = drop (prefix_len (λ b. not (b == slash)) path) path

-- whether a component is a folder that `*` may stand for: there is one, and it does not begin with a dot
abbrev pub is_folder : Text → Bool
is_folder component = not (is_empty component) && not (begins_with dot component)

-- whether a path ends here, or goes on with a slash
abbrev pub is_end : Option Text → Bool
is_end None = false
is_end (Some rest) = is_empty rest || begins_with slash rest

-- whether a path is this one, or that of something in a folder of this path
abbrev pub lies_at : Text → Text → Bool
lies_at path other = is_end (following path other)

-- the folder that a path begins with, if `*` may stand for it and a path is after it
abbrev pub folder_before : Text → Text → Option Text
folder_before rest path =
    if is_folder (first_component path) && lies_at rest (after_component path) then Some (first_component path) else None

-- the folder that is in a name between two texts
abbrev pub folder_between : Text → Text → Text → Option Text
folder_between prefix rest name = option_and_then (folder_before rest) (following prefix name)

-- the folder of the first of these names that has one between two texts
abbrev pub first_folder : Text → Text → List Text → Option Text
first_folder prefix rest [] = None
first_folder prefix rest (name ∷ others) = option_or (folder_between prefix rest name) (first_folder prefix rest others)

-- a name with a folder instead of the `*` at a place, if a device has one there
abbrev pub starred_at : Option ℕ → DeviceValue → Text → Option Text
starred_at None device name = Some name
starred_at (Some place) device name =
    option_map (λ folder. take place name ++ folder ++ drop (place + 1) name)
    (first_folder (take place name) (drop (place + 1) name) (names device.attrs))

-- a name as udev looks it up: its first component `*` that is not its last stands for the first folder in which the
-- rest is there; none if there is no such folder
abbrev pub starred : DeviceValue → Text → Option Text
starred device name = starred_at (star_place name) device name

-- whether a device has a file or a folder of a name; the empty name is the device's own folder
abbrev pub has_name : DeviceValue → Text → Bool
has_name device name = is_empty name || list_any (lies_at name) (names device.attrs)

-- whether a name was found, and the device has it
abbrev pub has_found : DeviceValue → Option Text → Bool
has_found device None = false
has_found device (Some name) = has_name device name

-- whether udev finds a file or a folder of a device by a name
abbrev pub has_file : DeviceValue → Text → Bool
has_file device name = has_found device (starred device name)

-- whether a path is that of something in the folder before it and this rest, which ends in a slash
abbrev pub is_in_any : Text → Option Text → Bool
is_in_any rest None = false
is_in_any rest (Some path) = is_folder (first_component path) && is_some (following rest (after_component path))

-- whether a path is that of something in a folder, whose own path ends in a slash; a `*` at a place of that stands for any
-- folder
abbrev pub is_in : Option ℕ → Text → Text → Bool
is_in None folder path = is_some (following folder path)
is_in (Some place) folder path = is_in_any (drop (place + 1) folder) (following (take place folder) path)

-- whether something is in a folder of a device, whose path ends in a slash
abbrev pub has_in : DeviceValue → Text → Bool
has_in device folder = list_any (is_in (star_place folder) folder) (names device.attrs)

-- whether udev finds a folder of a device by a name: something is in it; the empty name is the device's own folder
abbrev pub has_folder : DeviceValue → Text → Bool
has_folder device name = is_empty name || has_in device (name ++ slash ∷ [])
