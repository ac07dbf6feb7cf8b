-- USB: the port of a device or an interface, and the revision of its root hub.
use Rattle.std.specs.Prelude.{ℕ, ◌==◌, ◌||◌, false, true, List, [], ◌∷◌, ◌++◌, codes, if◌then◌else◌, is_some, Option, Some, None}
use Rattle.std.specs.Prelude.{unwrap_or, slice_get}
use Rattle.std.specs.Option.{option_and_then, option_map_or}
use Rattle.text_bytes.specs.Names.{minus}
use Rattle.text_bytes.specs.Texts.{split_once}
use Rattle.text_bytes.specs.Text.{Text}
use Rattle.text_tables.specs.Texts.{same_text}
use Rattle.text_bytes.specs.Kernels.{kernel_name}
use Rattle.device_core.specs.Values.{DeviceValue}
use Rattle.builtin_devices.specs.Devices.{attribute, is_text, type_of}
use Rattle.builtin_devices.specs.Numbers.{is_number, number_in}
use Rattle.builtin_devices.specs.declared.numbers.Base.TheVariants.{Hexadecimal}
use Rattle.builtin_path.specs.Members.{row}
use Rattle.builtin_path.specs.Stops.{absent, adding, passing}
use Rattle.builtin_path.specs.declared.stops.Stop.{Stop}
use Rattle.builtin_path.specs.declared.usb.Revision.{Revision}
use Rattle.builtin_path.specs.declared.usb.Revision.TheVariants.{One, Two, Three}

-- the last of the devices of USB above one another: the root hub
abbrev pub root : DeviceValue → List DeviceValue → DeviceValue
root m above = unwrap_or (slice_get (m ∷ above) (row (codes "usb") above)) m

-- the revision of a root hub whose protocol is 0
abbrev pub by_speed : Option Text → Option Revision
by_speed None = None
by_speed (Some speed) = if same_text speed (codes "480") then Some Two else Some One

-- the number of a root hub's protocol: a byte in hexadecimal digits
abbrev pub protocol_of : DeviceValue → Option ℕ
protocol_of m = option_and_then (number_in Hexadecimal 255) (attribute m (codes "bDeviceProtocol"))

-- the revision of a root hub, if it reports one: by the number of its protocol, and its speed
unfoldable pub revision_of : DeviceValue → Option Revision
revision_of m =
    option_and_then (λ protocol.
    if protocol == 0 then by_speed (attribute m (codes "speed"))
    else if protocol == 1 || protocol == 2 then Some Two
    else if protocol == 3 then Some Three
    else None)
    (protocol_of m)

-- what the revision of a root hub is read from, and is absent: the protocol, or the speed of a hub whose protocol is 0
unfoldable pub revision_needs : DeviceValue → List Text
revision_needs m =
    if is_some (attribute m (codes "bDeviceProtocol")) then
    (if is_number 0 (protocol_of m) then absent (codes "speed") (attribute m (codes "speed")) else [])
    else codes "bDeviceProtocol" ∷ []

-- how the part of a port begins: the number of the bus does not count
abbrev pub port_start : Option Revision → Text
port_start None = codes "usb-0:"
port_start (Some One) = codes "usbv1-0:"
port_start (Some Two) = codes "usbv2-0:"
port_start (Some Three) = codes "usbv3-0:"

-- what a device with a port adds; the devices of USB right above it are skipped
abbrev pub port_stop : (port : Text) → DeviceValue → List DeviceValue → Stop
port_stop port m above =
    let hub = root m above in
    record (adding (port_start (revision_of hub) ++ port) true false (row (codes "usb") above)) { needs = revision_needs hub }

-- what a device of subsystem usb adds: one of USB or an interface adds the ports, which its name has after the number of
-- the bus and a `-`; a root hub has none
unfoldable pub usb_stop : DeviceValue → List DeviceValue → Stop
usb_stop m above =
    if is_text (codes "usb_device") (type_of m) || is_text (codes "usb_interface") (type_of m) then
    option_map_or (λ cut. port_stop cut.1 m above) (split_once minus (kernel_name m.path)) (passing true)
    else passing true
