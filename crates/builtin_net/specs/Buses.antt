-- What names say about buses other than PCI and USB.
use Rattle.std.specs.Prelude.{ℕ, ◌^◌, ◌-◌, ◌==◌, ◌&&◌, ◌||◌, not, Bool, false, ◌++◌, codes, decimal, drop, find, length, map, nat_le}
use Rattle.std.specs.Prelude.{slice_get, take, Option, None, option_map, option_and_then, is_some, if◌then◌else◌}
use Rattle.std.specs.Bool.{then_some}
use Rattle.std.specs.Char.{is_ascii_digit, is_ascii_hexdigit, is_ascii_uppercase, to_ascii_lowercase}
use Rattle.std.specs.List.{list_all, list_any, prefix_len}
use Rattle.text_bytes.specs.Names.{colon, digit_zero, slash}
use Rattle.text_bytes.specs.Numbers.{decimal_below}
use Rattle.text_bytes.specs.Texts.{begins_with, following, split_once, up_to}
use Rattle.text_bytes.specs.Text.{Text}
use Rattle.text_tables.specs.Texts.{same_text}
use Rattle.device_core.specs.Values.{DeviceValue, EventValue}
use Rattle.builtin_devices.specs.Devices.{above, is_of, kernel_of, parents_of, some_text}
use Rattle.builtin_devices.specs.Numbers.{name_number, number_in}
use Rattle.builtin_devices.specs.declared.numbers.Base.TheVariants.{AsWritten, Hexadecimal}
use Rattle.builtin_net.specs.Allowed.{read}
use Rattle.builtin_net.specs.Words.{is_printable, most_number}
use Rattle.builtin_net.specs.declared.allowed.Attribute.TheVariants.{PhysPortName}

-- the device right above the event device
abbrev pub parent : EventValue → Option DeviceValue
parent event = slice_get (parents_of event event.device.path) 0

-- the nearest device above the event device that is not of virtio
abbrev pub parent_after_virtio : EventValue → Option DeviceValue
parent_after_virtio event = find (λ device. not (is_of (codes "virtio") None device)) (parents_of event event.device.path)

-- the component after a folder in the path of the event device, if the device right above is of this subsystem
unfoldable pub component : EventValue → (subsystem folder : Text) → Option Text
component event subsystem folder =
    option_and_then (λ device. if is_of subsystem None device then option_map (up_to slash) (following folder event.device.path) else None) (parent event)

-- a text without the bytes at its start that are among some marks; if all are, the last one stays
abbrev pub trimmed : (marks text : Text) → Text
trimmed marks text =
    let count = prefix_len (λ b. list_any (λ mark. mark == b) marks) text in
    if count == length text then drop (length text - 1) text else drop count text

-- by the device above, if it is of ccw: its name of eight or nine bytes, without zeros and dots at its start
unfoldable pub by_ccw : EventValue → Option Text
by_ccw event =
    option_and_then (λ device.
    let kernel = kernel_of device in
    then_some ((is_of (codes "ccwgroup") None device || is_of (codes "ccw") None device) && nat_le 8 (length kernel) && nat_le (length kernel) 9)
    (codes "c" ++ trimmed (codes "0.") kernel))
    (parent_after_virtio event)

-- by vio: the number of the last four of eight hexadecimal digits
unfoldable pub by_vio : EventValue → Option Text
by_vio event =
    option_and_then (λ name.
    if length name == 8 && list_all is_ascii_hexdigit name then option_map (λ n. codes "v" ++ decimal n) (number_in Hexadecimal most_number (drop 4 name))
    else None)
    (component event (codes "vio") (codes "/devices/vio/"))

-- whether a byte is a capital letter or a digit
abbrev pub is_vendor_byte : ℕ → Bool
is_vendor_byte b = is_ascii_uppercase b || is_ascii_digit b

-- whether a text names a maker of platform devices: three capital letters, or four capital letters and digits
unfoldable pub is_vendor : Text → Bool
is_vendor text =
    if length text == 3 then list_all is_ascii_uppercase text else if length text == 4 then list_all is_vendor_byte text else false

-- maker, model and instance of a platform device: the model in lower case digits without leading zeros, the instance
-- in decimal
abbrev pub acpi_text : (vendor model : Text) → ℕ → Text
acpi_text vendor model instance =
    codes "a" ++ map to_ascii_lowercase vendor ++ map to_ascii_lowercase (trimmed (codes "0") model) ++ codes "i" ++ decimal instance

-- a maker, a model of hexadecimal digits and a hexadecimal instance of two bytes
unfoldable pub with_instance : (vendor model instance : Text) → Option Text
with_instance vendor model instance =
    if is_vendor vendor && list_all is_ascii_hexdigit model && length instance == 2
    then option_map (acpi_text vendor model) (number_in Hexadecimal most_number instance)
    else None

-- by the name of a platform device: a maker, a model of four bytes, a colon and an instance
unfoldable pub by_platform : EventValue → Option Text
by_platform event =
    option_and_then (λ name.
    option_and_then (λ parts.
    let place = length parts.0 - 4 in
    with_instance (take place parts.0) (drop place parts.0) parts.1)
    (split_once colon name))
    (component event (codes "platform") (codes "/devices/platform/"))

-- by Xen: `vif-N`, where the number has 32 bits and no zeros before it
unfoldable pub by_xen : EventValue → Option Text
by_xen event =
    option_and_then (λ name.
    option_and_then (λ n.
    then_some (not (begins_with digit_zero n && not (same_text n (codes "0"))) && is_some (decimal_below (2 ^ 32) n)) (codes "X" ++ n))
    (following (codes "vif-") name))
    (component event (codes "xen") (codes "/devices/"))

-- by the nearest device of netdevsim above: the number that its name ends in, and what the interface says about its port
unfoldable pub by_netdevsim : EventValue → (interface : DeviceValue) → Option Text
by_netdevsim event interface =
    option_and_then (λ device.
    option_and_then (λ n.
    option_and_then (λ port. then_some (is_printable port) (codes "i" ++ decimal n ++ codes "n" ++ port))
    (some_text (read interface PhysPortName)))
    (option_and_then (number_in AsWritten most_number) (name_number (kernel_of device))))
    (above event (codes "netdevsim") None event.device.path)
