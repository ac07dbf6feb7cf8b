-- Virtual functions, whose names are those of the physical one.
use Rattle.std.specs.Prelude.{◌&&◌, [], ◌++◌, codes, Option, Some, None, option_map, option_and_then}
use Rattle.std.specs.Bool.{then_some}
use Rattle.std.specs.Option.{option_map_or}
use Rattle.text_bytes.specs.Numbers.{is_decimal}
use Rattle.text_bytes.specs.Text.{Text}
use Rattle.text_tables.specs.Texts.{same_text}
use Rattle.text_tables.specs.Pairs.{Pair}
use Rattle.device_core.specs.Values.{DeviceValue, EventValue}
use Rattle.builtin_devices.specs.Devices.{device_by}
use Rattle.builtin_devices.specs.Files.{files_below}
use Rattle.text_bytes.specs.Texts.{following}
use Rattle.builtin_net.specs.Words.{file_of, first_given}

-- a function by which an interface is named, and what follows them: the number of the virtual function
abbrev pub Named : Type 0
Named = DeviceValue × Text

-- the number of a virtual function, if a link of its physical one leads to it: what follows `virtfn` in its name
unfoldable pub number_leading : (path : Text) → Pair → Option Text
number_leading path file =
    option_and_then (λ digits. then_some (is_decimal digits && same_text file.1 path) digits) (following (codes "virtfn") file.0)

-- the number of a virtual function among those of its physical one
unfoldable pub virtual_number : EventValue → (physical path : Text) → Option Text
virtual_number event physical path = first_given (number_leading path) (files_below event physical)

-- the physical function if it has the virtual one, and else the function itself
abbrev pub by_number : (pci physical : DeviceValue) → (number : Option Text) → Named
by_number pci physical None = (pci, [])
by_number pci physical (Some digits) = (physical, codes "v" ++ digits)

-- the function by which an interface is named, by the link to a physical one; nothing if the block does not describe that
unfoldable pub named_function : EventValue → DeviceValue → Option Named
named_function event pci =
    option_map_or (λ path.
    option_map (λ physical. by_number pci physical (virtual_number event physical.path pci.path)) (device_by event path))
    (file_of event pci (codes "/physfn")) (Some (pci, []))
