-- The devices of a block, and what is above one.
use Rattle.std.specs.Prelude.{ℕ, nat_lt, ◌==◌, ◌&&◌, Bool, true, false, List, Option, Some, None, filter_map}
use Rattle.std.specs.Prelude.{length, take, slice_index, reverse, if◌then◌else◌, codes}
use Rattle.std.specs.List.{find, range_with_len}
use Rattle.std.specs.Option.{option_or}
use Rattle.text_bytes.specs.Names.{slash}
use Rattle.text_bytes.specs.Texts.{is_empty}
use Rattle.text_bytes.specs.Text.{Text}
use Rattle.text_tables.specs.Texts.{same_text}
use Rattle.text_tables.specs.Pairs.{value_of}
use Rattle.device_core.specs.Values.{DeviceValue, EventValue, chain}
use Rattle.text_bytes.specs.Kernels.{kernel_name}
use Rattle.builtin_devices.specs.Files.{described_devices}

-- the kernel's name of a device
abbrev pub kernel_of : DeviceValue → Text
kernel_of device = kernel_name device.path

-- whether a device has this path
abbrev pub is_at : (path : Text) → DeviceValue → Bool
is_at path device = same_text path device.path

-- a device that is not of the chain, and that the block describes by its path
abbrev pub outside : EventValue → (path : Text) → Option DeviceValue
outside event path = find (is_at path) (described_devices event)

-- the device with a path: of the chain, or else one outside of it
abbrev pub device_by : EventValue → (path : Text) → Option DeviceValue
device_by event path = option_or (find (is_at path) (chain event)) (outside event path)

-- the device whose path ends before a slash at this place of a path, if it is not the first
unfoldable pub device_before : EventValue → Text → ℕ → Option DeviceValue
device_before event path place = if nat_lt 0 place && slice_index path place == slash then device_by event (take place path) else None

-- the devices above a path, the nearest first
unfoldable pub parents_of : EventValue → (path : Text) → List DeviceValue
parents_of event path = filter_map (device_before event path) (reverse (range_with_len 0 (length path)))

-- whether a text is there, and the same
abbrev pub is_text : Text → Option Text → Bool
is_text text None = false
is_text text (Some other) = same_text text other

-- an attribute of a device
abbrev pub attribute : DeviceValue → (name : Text) → Option Text
attribute device name = value_of device.attrs name

-- what the kernel calls the type of a device
abbrev pub type_of : DeviceValue → Option Text
type_of device = value_of device.env (codes "DEVTYPE")

-- whether a device has the type that is asked for, if any is
abbrev pub has_type : Option Text → DeviceValue → Bool
has_type None device = true
has_type (Some kind) device = is_text kind (type_of device)

-- whether a device is of a subsystem, and of the type that is asked for, if any is
abbrev pub is_of : (subsystem : Text) → (kind : Option Text) → DeviceValue → Bool
is_of subsystem kind device = is_text subsystem device.subsystem && has_type kind device

-- the nearest device above a path that is of a subsystem and, if one is asked for, of a type
abbrev pub above : EventValue → (subsystem : Text) → (kind : Option Text) → (path : Text) → Option DeviceValue
above event subsystem kind path = find (is_of subsystem kind) (parents_of event path)

-- a text, unless it is empty
abbrev pub some_text : Option Text → Option Text
some_text None = None
some_text (Some text) = if is_empty text then None else Some text
