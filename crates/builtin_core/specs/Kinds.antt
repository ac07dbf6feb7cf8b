-- What the name of a folder in the path of a device says that it is, by the names that the kernel gives its devices.
use Rattle.std.specs.Prelude.{ℕ, ◌==◌, ◌&&◌, ◌||◌, nat_le, Bool, false, is_some, length, Option, Some, None, if◌then◌else◌, codes}
use Rattle.std.specs.Char.{is_ascii_hexdigit}
use Rattle.std.specs.List.{list_all, slice_split}
use Rattle.std.specs.Option.{option_map_or}
use Rattle.text_bytes.specs.Names.{colon, dot, minus}
use Rattle.text_bytes.specs.Numbers.{is_decimal}
use Rattle.text_bytes.specs.Texts.{following, split_once}
use Rattle.text_bytes.specs.Text.{Text}
use Rattle.builtin_devices.specs.Addresses.{address_of}
use Rattle.builtin_core.specs.declared.kinds.Kind.{Kind}
use Rattle.builtin_core.specs.declared.kinds.Kind.TheVariants as kind

-- whether a text is a number after a start
abbrev pub is_numbered : (start text : Text) → Bool
is_numbered start text = option_map_or is_decimal (following start text) false

-- whether a text is two numbers with a byte between them
abbrev pub are_two : (byte : ℕ) → Text → Bool
are_two byte text = option_map_or (λ cut. is_decimal cut.0 && is_decimal cut.1) (split_once byte text) false

-- whether a text is ports: numbers with a dot between each two
abbrev pub are_ports : Text → Bool
are_ports text = list_all is_decimal (slice_split (λ b. b == dot) text)

-- whether a name is that of a USB device at a port: `BUS-PORTS`, numbers, with a dot between the ports
unfoldable pub is_at_port : (name : Text) → Bool
is_at_port name = option_map_or (λ cut. is_decimal cut.0 && are_ports cut.1) (split_once minus name) false

-- whether a name is that of an interface of such a device: `BUS-PORTS:CONFIGURATION.INTERFACE`
unfoldable pub is_interface : (name : Text) → Bool
is_interface name = option_map_or (λ cut. is_at_port cut.0 && are_two dot cut.1) (split_once colon name) false

-- whether a text is so many hexadecimal digits
abbrev pub are_digits : (count : ℕ) → Text → Bool
are_digits count text = length text == count && list_all is_ascii_hexdigit text

-- whether a text is `SLOT.FUNCTION`, in hexadecimal digits
unfoldable pub is_in_slot : Text → Bool
is_in_slot text = option_map_or (λ cut. are_digits 2 cut.0 && are_digits 1 cut.1) (split_once dot text) false

-- the same after `BUS:`
unfoldable pub is_on_bus : Text → Bool
is_on_bus text = option_map_or (λ cut. are_digits 2 cut.0 && is_in_slot cut.1) (split_once colon text) false

-- whether a name is that of a function of PCI: `DOMAIN:BUS:SLOT.FUNCTION`, where a domain has four digits or more
unfoldable pub is_function : (name : Text) → Bool
is_function name =
    option_map_or (λ cut. nat_le 4 (length cut.0) && list_all is_ascii_hexdigit cut.0 && is_on_bus cut.1) (split_once colon name) false

-- whether a text is `HOST:BUS:TARGET`, numbers
unfoldable pub is_place : Text → Bool
is_place text = option_map_or (λ cut. is_decimal cut.0 && are_two colon cut.1) (split_once colon text) false

-- whether a name is that of a target of SCSI: `target` and such a place
abbrev pub is_target : (name : Text) → Bool
is_target name = option_map_or is_place (following (codes "target") name) false

-- the kind of device that a name says: a root hub is `usbN`, an NVMe controller `nvmeN`, and an NVMe subsystem `nvme-subsysN`
unfoldable pub kind_of : (name : Text) → Option Kind
kind_of name =
    if is_function name then Some kind.Function
    else if is_numbered (codes "usb") name || is_at_port name then Some kind.UsbDevice
    else if is_interface name then Some kind.UsbInterface
    else if is_numbered (codes "host") name || is_target name then Some kind.ScsiParent
    else if is_some (address_of name) then Some kind.ScsiDevice
    else if is_numbered (codes "nvme") name || is_numbered (codes "nvme-subsys") name then Some kind.Nvme
    else if is_numbered (codes "virtio") name then Some kind.Virtio
    else if is_numbered (codes "serio") name then Some kind.Serio
    else if is_numbered (codes "input") name then Some kind.Input
    else None
