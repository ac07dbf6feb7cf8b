-- The slot that a function is in.
use Rattle.std.specs.Prelude.{ℕ, ◌==◌, ◌&&◌, ◌||◌, not, Bool, false, true, List, find, length, nat_eq, codes, Option, Some, None, option_map}
use Rattle.std.specs.Prelude.{option_and_then, is_some, if◌then◌else◌}
use Rattle.std.specs.Bool.{then_some}
use Rattle.std.specs.Char.{is_ascii_hexdigit, is_ascii_uppercase}
use Rattle.std.specs.List.{after_last, list_all, list_any, starts_with}
use Rattle.std.specs.Option.{option_map_or, option_or}
use Rattle.text_bytes.specs.Names.{slash}
use Rattle.text_bytes.specs.Texts.{is_empty, split_once}
use Rattle.text_bytes.specs.Text.{Text}
use Rattle.text_tables.specs.Texts.{same_text}
use Rattle.text_tables.specs.Pairs.{Pair}
use Rattle.device_core.specs.Values.{DeviceValue, EventValue}
use Rattle.builtin_devices.specs.Devices.{above, is_of, kernel_of, parents_of}
use Rattle.builtin_devices.specs.Files.{file_at, files_below}
use Rattle.builtin_devices.specs.Numbers.{is_number, number_in}
use Rattle.builtin_devices.specs.declared.numbers.Base.TheVariants.{AsWritten, Hexadecimal}
use Rattle.builtin_net.specs.Allowed.{number, read}
use Rattle.builtin_net.specs.Function.{is_several}
use Rattle.builtin_net.specs.Words.{first_given, most_number, positive}
use Rattle.builtin_net.specs.declared.allowed.Attribute.TheVariants.{Sun, FunctionId, Modalias}
use Rattle.builtin_net.specs.declared.slots.Slot.{Slot}

-- the number of a slot that the firmware gives for a device
abbrev pub firmware_number : DeviceValue → Option ℕ
firmware_number pci = positive (number pci Sun)

-- whether a device is a bridge, by its modalias: it is of PCI, and the last `s` in it is followed by `c04`
unfoldable pub is_bridge : DeviceValue → Bool
is_bridge pci =
    option_map_or (λ alias. starts_with nat_eq alias (codes "pci:") && starts_with nat_eq (after_last (λ b. b == 115) alias) (codes "c04"))
    (read pci Modalias) false

-- the nearest device of PCI above another
abbrev pub pci_above : EventValue → DeviceValue → Option DeviceValue
pci_above event device = above event (codes "pci") None device.path

-- what the firmware gives for the device above a function: that of a bridge counts only for a function that is one of
-- several
abbrev pub number_of_above : (several : Bool) → Option DeviceValue → Option ℕ
number_of_above several None = None
number_of_above several (Some pci) = if is_bridge pci && not several then None else firmware_number pci

-- the number that the firmware gives for a function, or else for the device above
unfoldable pub number_by_firmware : EventValue → DeviceValue → Option ℕ
number_by_firmware event pci = option_or (firmware_number pci) (number_of_above (is_several event pci) (pci_above event pci))

-- the folder of all slots
abbrev pub slots_folder : Text
slots_folder = codes "/bus/pci/slots"

-- the files in the folder of all slots
abbrev pub slot_files : EventValue → List Pair
slot_files event = files_below event slots_folder

-- whether a block describes a folder, perhaps as empty
unfoldable pub is_described : EventValue → (folder : Text) → Bool
is_described event folder = is_some (file_at event folder) || not (is_empty (files_below event folder))

-- the name of the slot whose file `NAME/address` says what is in it
unfoldable pub slot_name : (path : Text) → Option Text
slot_name path = option_and_then (λ parts. then_some (same_text parts.1 (codes "address")) parts.0) (split_once slash path)

-- the number of a slot by its name, if its file says that it holds the device with this name: its address is the
-- beginning of the device's name
unfoldable pub number_holding : (kernel : Text) → Pair → Option ℕ
number_holding kernel file =
    if starts_with nat_eq kernel file.1 then positive (option_and_then (number_in AsWritten most_number) (slot_name file.0)) else None

-- the number of the slot that holds a device
unfoldable pub number_by_place : EventValue → DeviceValue → Option ℕ
number_by_place event pci = first_given (number_holding (kernel_of pci)) (slot_files event)

-- whether a file is that of the slot whose name is this number in eight hexadecimal digits with lower case letters
unfoldable pub is_slot_of : ℕ → Pair → Bool
is_slot_of n file =
    option_map_or (λ name.
    length name == 8 && list_all is_ascii_hexdigit name && not (list_any is_ascii_uppercase name)
    && is_number n (number_in Hexadecimal most_number name))
    (slot_name file.0) false

-- the slot of a function of System z, whose number has a slot of its own; a name by it leaves the domain out
unfoldable pub slot_by_identity : EventValue → Text → Option Slot
slot_by_identity event identity =
    option_and_then (λ n. then_some (list_any (is_slot_of n) (slot_files event)) (record { number = n; drops_domain = true }))
    (positive (number_in AsWritten most_number identity))

-- whether the search for a slot of the bus ends at a device: it is a function of System z, or a slot holds it
unfoldable pub ends_search : EventValue → DeviceValue → Bool
ends_search event pci = is_some (read pci FunctionId) || is_some (number_by_place event pci)

-- whether it ends at a device, which has to be of PCI
abbrev pub ends_search_in_pci : EventValue → DeviceValue → Bool
ends_search_in_pci event device = is_of (codes "pci") None device && ends_search event device

-- the device at which the search that begins at a function and goes on above it ends
unfoldable pub search_end : EventValue → DeviceValue → Option DeviceValue
search_end event pci =
    if ends_search event pci then Some pci
    else find (ends_search_in_pci event) (parents_of event pci.path)

-- the slot of the device at which the search ends; a bridge has none
abbrev pub slot_at_end : EventValue → DeviceValue → (identity : Option Text) → Option Slot
slot_at_end event pci None =
    if is_bridge pci then None else option_map (λ n. record { number = n; drops_domain = false }) (number_by_place event pci)
slot_at_end event pci (Some identity) = slot_by_identity event identity

-- the slot of a function by the slots of the bus
unfoldable pub slot_by_bus : EventValue → DeviceValue → Option Slot
slot_by_bus event pci = option_and_then (λ found. slot_at_end event found (read found FunctionId)) (search_end event pci)

-- the slot of a function: by the firmware, or else by the slots of the bus
unfoldable pub slot_of : EventValue → DeviceValue → Option Slot
slot_of event pci = option_or (option_map (λ n. record { number = n; drops_domain = false }) (number_by_firmware event pci)) (slot_by_bus event pci)
