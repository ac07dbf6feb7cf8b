-- The outcome of the builtin usb_id of udev 257.
use Rattle.std.specs.Prelude.{Bool, ◌||◌, List, [], ◌∷◌, ◌++◌, ℕ, Option, Some, None, is_none, unwrap_or, codes, if◌then◌else◌}
use Rattle.std.specs.Option.{option_and_then}
use Rattle.text_bytes.specs.Text.{Text}
use Rattle.text_tables.specs.Pairs.{Pair}
use Rattle.device_core.specs.Values.{DeviceValue, EventValue}
use Rattle.builtin_devices.specs.Devices.{attribute}
use Rattle.builtin_devices.specs.Files.{file_at}
use Rattle.builtin_devices.specs.Numbers.{bytes_of}
use Rattle.builtin_devices.specs.Outcomes.{OutcomeValue, failing, succeeding, needs_of}
use Rattle.builtin_usb.specs.Interfaces.{packed}
use Rattle.builtin_usb.specs.Kinds.{reported_kind}
use Rattle.builtin_usb.specs.Subjects.{device_of, interface_of, unit_of}
use Rattle.builtin_usb.specs.Units.{UnitValue, unit_texts, unit_words}
use Rattle.builtin_usb.specs.Identities.{IdentityValue, KnownValue, identity_of, named, rows, unless_empty}
use Rattle.builtin_usb.specs.Needs.{interface_words, type_words}

-- what is known about the USB device, if there is one
abbrev pub known : (interface device : Option DeviceValue) → UnitValue → KnownValue
known interface None texts = record { identity = None; needs = [] }
known interface (Some device) texts = identity_of device texts (reported_kind interface texts.kind)

-- the bytes of the file of descriptors of a device, which the block gives in hexadecimal digits
abbrev pub descriptors_at : EventValue → DeviceValue → Option (List ℕ)
descriptors_at event device = option_and_then bytes_of (file_at event (device.path ++ codes "/descriptors"))

-- the interfaces of a USB device, if there is one
abbrev pub interfaces_text : EventValue → (device : Option DeviceValue) → Text
interfaces_text event None = []
interfaces_text event (Some device) = packed (unwrap_or (descriptors_at event device) [])

-- the word for the file of descriptors
abbrev pub descriptors_words : EventValue → (device : Option DeviceValue) → List Text
descriptors_words event None = []
descriptors_words event (Some device) = if is_none (descriptors_at event device) then codes "descriptors" ∷ [] else []

-- what comes only after ID_USB_
unfoldable pub rows_apart : (interfaces : Text) → (number driver : Option Text) → List (Text × Option Text)
rows_apart interfaces number driver =
    (codes "INTERFACES", unless_empty interfaces)
    ∷ (codes "INTERFACE_NUM", number)
    ∷ (codes "DRIVER", driver)
    ∷ []

-- the same by the number and the driver of an interface, as far as there is one, and the interfaces of the USB device
abbrev pub own_rows : (interface : Option DeviceValue) → (interfaces : Text) → List (Text × Option Text)
own_rows interface interfaces =
    rows_apart interfaces (option_and_then (λ i. attribute i (codes "bInterfaceNumber")) interface) (option_and_then (λ i. i.driver) interface)

-- the bus, and what is reported after ID_ if no bus was reported before
abbrev pub bus_properties : IdentityValue → List Pair
bus_properties i = (codes "ID_BUS", codes "usb") ∷ named (codes "ID_") (rows i)

-- the properties of a device that is known
unfoldable pub properties : (interface : Option DeviceValue) → (interfaces : Text) → IdentityValue → (is_bus_set : Bool) → List Pair
properties interface interfaces i is_bus_set =
    (if is_bus_set then [] else bus_properties i)
    ++ named (codes "ID_USB_") (rows i)
    ++ named (codes "ID_USB_") (own_rows interface interfaces)

-- the outcome of the builtin by what is known: it fails if nothing is
abbrev pub outcome : (interface : Option DeviceValue) → (interfaces : Text) → (needs : List Text) → Option IdentityValue → (is_bus_set : Bool) → OutcomeValue
outcome interface interfaces needs None is_bus_set = failing needs
outcome interface interfaces needs (Some i) is_bus_set = succeeding (properties interface interfaces i is_bus_set) needs

-- the same by the interface, the USB device and the SCSI device, and whether a search was unsure
unfoldable pub usb_id_by : EventValue → (interface device unit : Option DeviceValue) → (is_unsure is_bus_set : Bool) → OutcomeValue
usb_id_by event interface device unit is_unsure is_bus_set =
    let so_far = type_words event is_unsure ++ interface_words interface ++ unit_words unit ++ descriptors_words event device in
    let all = known interface device (unit_texts unit) in
    outcome interface (interfaces_text event device) (needs_of (so_far ++ all.needs)) all.identity is_bus_set

-- the outcome of usb_id over an event, given whether ID_BUS was set before
unfoldable pub usb_id : EventValue → (is_bus_set : Bool) → OutcomeValue
usb_id event is_bus_set =
    let interface = interface_of event in
    let device = device_of event interface.device in
    let unit = unit_of event interface.device device.device in
    usb_id_by event interface.device device.device unit.device (interface.is_unsure || device.is_unsure || unit.is_unsure) is_bus_set
