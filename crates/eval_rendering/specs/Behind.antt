-- The link `device` that the kernel puts into the folder of a device of a class, and what a block tells behind it and in folders.
use Rattle.std.specs.Prelude.{ℕ, ◌==◌, ◌&&◌, ◌||◌, Bool, true, false, not, if◌then◌else◌, length, Option, None, is_none, is_some, position, codes}
use Rattle.std.specs.List.{list_any, range_with_len, slice_split}
use Rattle.std.specs.Option.{option_and_then, option_map_or}
use Rattle.text_bytes.specs.Names.{slash, space}
use Rattle.text_bytes.specs.Texts.{begins_with, following, split_once}
use Rattle.text_bytes.specs.Text.{Text}
use Rattle.text_tables.specs.Texts.{same_text}
use Rattle.text_tables.specs.Pairs.{names, value_of}
use Rattle.device_core.specs.Values.{DeviceValue, EventValue, chain}
use Rattle.eval_state.specs.Chains.{device_at}
use Rattle.eval_state.specs.Texts.{or_empty}

-- whether a path leads into a folder
abbrev pub lies_in : (folder path : Text) → Bool
lies_in folder path = begins_with slash (or_empty (following folder path))

-- whether a device of this subsystem is of a class: that is none of the buses that the event names, with spaces between them, the
-- device has no driver, and it has no file `device` either
abbrev pub is_of_class : EventValue → DeviceValue → Text → Bool
is_of_class event device subsystem =
    not (list_any (λ word. same_text word subsystem) (slice_split (λ b. b == space) (or_empty (value_of event.constants (codes "bus")))))
    && (is_none device.driver && is_none (value_of device.attrs (codes "device")))

-- whether the kernel puts a link to the next device above into the folder of a device: that of a class, but not of a part of a disk
abbrev pub links_up : EventValue → DeviceValue → Bool
links_up event device =
    option_map_or (is_of_class event device) device.subsystem false && not (same_text (or_empty (value_of device.env (codes "DEVTYPE"))) (codes "partition"))

-- whether there is a device, and a path leads into its folder
abbrev pub is_above : Text → Option DeviceValue → Bool
is_above path device = option_map_or (λ d. lies_in d.path path) device false

-- the place in the chain of the next device above a path
unfoldable pub place_above : Text → EventValue → Option ℕ
place_above path event = position (λ place. is_above path (device_at event place)) (range_with_len 0 (length (chain event)))

-- the next device above a device
abbrev pub next_above : EventValue → DeviceValue → Option DeviceValue
next_above event device = option_and_then (device_at event) (place_above device.path event)

-- what a name asks for behind the link, if it leads through it
abbrev pub rest_behind : Text → Option Text
rest_behind name = following (codes "device/") name

-- the device that the link of a device leads to, if the block has it
abbrev pub linked_device : EventValue → DeviceValue → Option DeviceValue
linked_device event device = if links_up event device then next_above event device else None

-- the attribute that a name asks for behind the link of a device
abbrev pub value_behind : EventValue → DeviceValue → Text → Option Text
value_behind event device name =
    option_and_then (λ rest. option_and_then (λ above. value_of above.attrs rest) (linked_device event device)) (rest_behind name)

-- whether a name is that of a file of devices on PCI that has no value of one line
abbrev pub is_long_of_pci : Text → Bool
is_long_of_pci name = same_text name (codes "resource") || same_text name (codes "config")

-- whether a name leads into a folder of which the block shows nothing
abbrev pub leads_into_hidden : DeviceValue → Text → Bool
leads_into_hidden device name = option_map_or (λ cut. not (list_any (lies_in cut.0) (names device.attrs))) (split_once slash name) false

-- whether the block does not tell what a name of a device stands for: it is none of its attributes, and may be there nevertheless,
-- as a file that has no value of one line, or in a folder of which the block shows nothing
abbrev pub is_untold : DeviceValue → Text → Bool
is_untold device name =
    is_none (value_of device.attrs name)
    && ((same_text name (codes "uevent") || (is_long_of_pci name && same_text (or_empty device.subsystem) (codes "pci"))) || leads_into_hidden device name)

-- whether there may be something of which a block tells nothing under a name that is no path
abbrev pub may_be_untold : Text → Bool
may_be_untold name = (same_text name (codes "uevent") || is_long_of_pci name) || is_some (split_once slash name)

-- the same behind the link of a device; one that is below no other has no such link
abbrev pub is_untold_behind : EventValue → DeviceValue → Text → Bool
is_untold_behind event device rest =
    option_map_or (λ above. is_untold above rest) (next_above event device) (is_none (following (codes "/devices/virtual/") device.path))

-- the same of a name of a device, by what it asks for behind the device's link
abbrev pub is_untold_by : EventValue → DeviceValue → Text → (rest : Option Text) → Bool
is_untold_by event device name rest =
    is_untold device name && option_map_or (λ behind. links_up event device && is_untold_behind event device behind) rest true
