-- What the block would have to report for a builtin that goes up from the event device: the devices that paths show.
use Rattle.std.specs.Prelude.{◌&&◌, ◌||◌, not, nat_eq, Bool, true, false, is_none, is_some, List, [], ◌∷◌, ◌++◌, flat_map, Option, Some, None}
use Rattle.std.specs.Prelude.{option_and_then, if◌then◌else◌, codes}
use Rattle.std.specs.List.{list_any, starts_with}
use Rattle.std.specs.Option.{option_map_or}
use Rattle.text_bytes.specs.Text.{Text}
use Rattle.text_tables.specs.Texts.{same_text}
use Rattle.text_tables.specs.Pairs.{value_of}
use Rattle.text_bytes.specs.Kernels.{last_component}
use Rattle.device_core.specs.Values.{DeviceValue, EventValue, chain}
use Rattle.builtin_devices.specs.Devices.{attribute, device_by, is_text, type_of}
use Rattle.builtin_devices.specs.Files.{described_devices, file_at}
use Rattle.builtin_devices.specs.Numbers.{bytes_of}
use Rattle.builtin_devices.specs.Outcomes.{needs_of}
use Rattle.builtin_core.specs.Paths.{is_usb, kind_at, shown_paths}
use Rattle.builtin_core.specs.declared.asking.Asker.{Asker}
use Rattle.builtin_core.specs.declared.asking.Asker.TheVariants as asker
use Rattle.builtin_core.specs.declared.kinds.Kind.{Kind}
use Rattle.builtin_core.specs.declared.kinds.Kind.TheVariants as kind

-- Whether a builtin looks at devices of a kind: usb_id at what belongs to a USB device, path_id at all but input
-- devices, input_id at these alone, and net_id at what gives an interface its names.
abbrev pub asks : Asker → Kind → Bool
asks asker.UsbId kind.UsbDevice = true
asks asker.UsbId kind.UsbInterface = true
asks asker.UsbId kind.ScsiDevice = true
asks asker.UsbId other = false
asks asker.PathId kind.Input = false
asks asker.PathId other = true
asks asker.InputId kind.Input = true
asks asker.InputId other = false
asks asker.NetId kind.Function = true
asks asker.NetId kind.UsbInterface = true
asks asker.NetId kind.Virtio = true
asks asker.NetId other = false

-- whether the block gives a device with a path, and its subsystem
abbrev pub is_given : EventValue → (path : Text) → Bool
is_given event path = is_some (option_and_then (λ device. device.subsystem) (device_by event path))

-- the name of the device with a path, if a builtin asks for it and the block does not give it
abbrev pub missing : EventValue → Asker → (path : Text) → List Text
missing event who path =
    if option_map_or (asks who) (kind_at path) false && not (is_given event path) then last_component path ∷ [] else []

-- the same for all devices that a path shows
abbrev pub missing_above : EventValue → Asker → (path : Text) → List Text
missing_above event who path = flat_map (missing event who) (shown_paths path)

-- the same for the event's own path, and for those of devices outside of its chain, which the block describes
abbrev pub missing_everywhere : EventValue → Asker → List Text
missing_everywhere event who =
    missing_above event who event.device.path ++ flat_map (λ device. missing_above event who device.path) (described_devices event)

-- of the devices with these paths, those that usb_id asks for, up to the first USB device and with that one
abbrev pub missing_to_usb : EventValue → (paths : List Text) → List Text
missing_to_usb event [] = []
missing_to_usb event (path ∷ paths) = missing event asker.UsbId path ++ (if is_usb (kind_at path) then [] else missing_to_usb event paths)

-- what usb_id asks for: the devices up to the USB device that the event device belongs to; none if it is one itself
abbrev pub usb_words : EventValue → List Text
usb_words event =
    if is_text (codes "usb_device") (type_of event.device) then [] else missing_to_usb event (shown_paths event.device.path)

-- what input_id asks for: the input device above, unless the event device reports its kinds of events itself
abbrev pub input_words : EventValue → List Text
input_words event =
    if is_some (attribute event.device (codes "capabilities/ev")) then [] else missing_above event asker.InputId event.device.path

-- what the file of a device says, by its name after a slash
abbrev pub file_of : EventValue → DeviceValue → (name : Text) → Option Text
file_of event device name = file_at event (device.path ++ name)

-- whether a device is a virtual function of PCI, by its configuration, in which maker and model are all ones, and the block does not
-- say of which physical one
unfoldable pub lacks_physical : EventValue → DeviceValue → Bool
lacks_physical event device =
    option_map_or (λ config. starts_with nat_eq config (255 ∷ 255 ∷ 255 ∷ 255 ∷ [])) (option_and_then bytes_of (file_of event device (codes "/config"))) false
    && is_none (file_of event device (codes "/physfn"))

-- the word for the link to a physical function
abbrev pub physical_words : EventValue → List Text
physical_words event = if list_any (lacks_physical event) (chain event) then codes "physfn" ∷ [] else []

-- the word for a naming scheme that the block gives and that is not known: names by it are not those of v257
abbrev pub other_scheme : Option Text → List Text
other_scheme None = []
other_scheme (Some scheme) = if same_text scheme (codes "v257") || same_text scheme (codes "latest") then [] else (codes "scheme " ++ scheme) ∷ []

-- the same by the constant `scheme`
abbrev pub scheme_words : EventValue → List Text
scheme_words event = other_scheme (value_of event.constants (codes "scheme"))

-- what the block would have to report for usb_id about devices, each once
unfoldable pub usb_needs : EventValue → List Text
usb_needs event = needs_of (usb_words event)

-- what it would have to report for path_id
unfoldable pub path_needs : EventValue → List Text
path_needs event = needs_of (missing_everywhere event asker.PathId)

-- what it would have to report for input_id
unfoldable pub input_needs : EventValue → List Text
input_needs event = needs_of (input_words event)

-- what it would have to report for net_id
unfoldable pub net_needs : EventValue → List Text
net_needs event = needs_of (missing_everywhere event asker.NetId ++ physical_words event ++ scheme_words event)
