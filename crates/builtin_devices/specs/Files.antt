-- Files that a block describes by constants: the name is a path below /sys, and the value what the file says.
use Rattle.std.specs.Prelude.{◌-◌, ◌&&◌, List, [], Option, Some, None, filter_map, option_map, length, take, drop, nat_eq, if◌then◌else◌, codes}
use Rattle.std.specs.List.{ends_with, starts_with}
use Rattle.text_bytes.specs.Names.{slash}
use Rattle.text_bytes.specs.Texts.{begins_with}
use Rattle.text_bytes.specs.Text.{Text}
use Rattle.text_tables.specs.Pairs.{Pair, value_of, with_values}
use Rattle.device_core.specs.Values.{DeviceValue, EventValue, described}

-- what the file with a path says; for a link, the path to which it leads
abbrev pub file_at : EventValue → (path : Text) → Option Text
file_at event path = value_of event.constants path

-- what is in a path after that of a folder and a slash
unfoldable pub name_below : (folder path : Text) → Option Text
name_below folder path =
    let following = drop (length folder) path in
    if starts_with nat_eq path folder && begins_with slash following then Some (drop 1 following) else None

-- a file below a folder, by what follows the folder's path
abbrev pub file_below : (folder : Text) → Pair → Option Pair
file_below folder file = option_map (λ name. (name, file.1)) (name_below folder file.0)

-- the files below a folder, by what follows its path, in the order of the block
abbrev pub files_below : EventValue → (folder : Text) → List Pair
files_below event folder = filter_map (file_below folder) event.constants

-- what follows the path of a device in the name of the file that gives its subsystem
abbrev pub subsystem_file : Text
subsystem_file = codes "/subsystem"

-- the device with a path and a subsystem, with the files in its folder as attributes
abbrev pub described_at : EventValue → (path subsystem : Text) → DeviceValue
described_at event path subsystem = described path subsystem (with_values [] (files_below event path))

-- the device whose subsystem a constant gives
abbrev pub described_by : EventValue → Pair → Option DeviceValue
described_by event file =
    if ends_with nat_eq file.0 subsystem_file then Some (described_at event (take (length file.0 - length subsystem_file) file.0) file.1) else None

-- the devices that the block describes by paths, in its order
unfoldable pub described_devices : EventValue → List DeviceValue
described_devices event = filter_map (described_by event) event.constants
