-- The names of an interface.
use Rattle.std.specs.Prelude.{ℕ, ◌^◌, ◌==◌, ◌&&◌, ◌||◌, true, false, not, List, [], ◌∷◌, ◌++◌, codes, decimal, length, nat_le, nat_lt}
use Rattle.std.specs.Prelude.{Option, Some, None, option_map, option_and_then, is_some, if◌then◌else◌}
use Rattle.std.specs.Bool.{then_some}
use Rattle.std.specs.Option.{option_map_or, option_or}
use Rattle.text_bytes.specs.Names.{colon, dot, minus}
use Rattle.text_bytes.specs.Texts.{is_empty}
use Rattle.text_bytes.specs.Text.{Text}
use Rattle.text_tables.specs.Pairs.{Pair}
use Rattle.device_core.specs.Values.{DeviceValue, EventValue}
use Rattle.builtin_devices.specs.Devices.{above, is_of, kernel_of}
use Rattle.builtin_devices.specs.Numbers.{is_number}
use Rattle.builtin_devices.specs.Fields.{marked_digits}
use Rattle.builtin_net.specs.Allowed.{number, read}
use Rattle.builtin_net.specs.Buses.{by_ccw, by_netdevsim, by_platform, by_vio, by_xen, parent_after_virtio}
use Rattle.builtin_net.specs.Function.{domain_text, function, is_several}
use Rattle.builtin_net.specs.Needs.{address_needs, config_needs, port_needs, slot_needs, tree_needs}
use Rattle.builtin_net.specs.Port.{port_text}
use Rattle.builtin_net.specs.Prefixes.{is_infiniband, prefix_text}
use Rattle.builtin_net.specs.Slots.{pci_above, slot_of}
use Rattle.builtin_net.specs.Trees.{by_tree}
use Rattle.builtin_net.specs.Usb.{bcma_suffix, usb_suffix}
use Rattle.builtin_net.specs.Virtual.{Named, named_function}
use Rattle.builtin_net.specs.Words.{is_printable}
use Rattle.builtin_net.specs.declared.allowed.Attribute.TheVariants.{AcpiIndex, AddrAssignType, Address, Index, Label}
use Rattle.builtin_net.specs.declared.carriers.Bus.{Bus}
use Rattle.builtin_net.specs.declared.carriers.Bus.TheVariants.{Usb, Bcma}
use Rattle.builtin_net.specs.declared.functions.Function.{Function}
use Rattle.builtin_net.specs.declared.prefixes.Prefix.{Prefix}
use Rattle.builtin_net.specs.declared.slots.Slot.{Slot}

-- What one side of an interface gives: properties, and words for what the block would have to report for more.
pub record Given : Type 0 where
  pub properties : List Pair
  pub needs : List Text

-- properties alone
abbrev pub giving : List Pair → Given
giving properties = record { properties = properties; needs = [] }

-- words alone
abbrev pub needing : List Text → Given
needing needs = record { properties = []; needs = needs }

-- what one side gives, and then another
abbrev pub both : Given → Given → Given
both a b = record { properties = a.properties ++ b.properties; needs = a.needs ++ b.needs }

-- a property of a prefix and the text after it, if there is one, and both together have at most 127 bytes
unfoldable pub prefixed : (key prefix : Text) → Option Text → List Pair
prefixed key prefix None = []
prefixed key prefix (Some text) = if nat_le (length (prefix ++ text)) 127 then (key, prefix ++ text) ∷ [] else []

-- The twelve lower case digits of an address of six bytes: six fields of one or two digits with `:` or with `-` in
-- between, or three of one to four digits with `.`.
abbrev pub address_digits : Text → Option Text
address_digits text = option_or (marked_digits colon 6 2 text) (option_or (marked_digits minus 6 2 text) (marked_digits dot 3 4 text))

-- the digits of an address that stays, for an interface that is not of InfiniBand
unfoldable pub lasting_address : Prefix → (interface : DeviceValue) → Option Text
lasting_address prefix interface =
    if is_infiniband prefix || not (is_number 0 (number interface AddrAssignType)) then None
    else option_and_then address_digits (read interface Address)

-- the name by an address
abbrev pub by_address : Prefix → (interface : DeviceValue) → Option Text
by_address prefix interface = option_map (λ digits. codes "x" ++ digits) (lasting_address prefix interface)

-- what follows the place or the slot of a function: the function, unless it is the first and the only one, the port and a
-- suffix
abbrev pub tail : EventValue → (pci : DeviceValue) → Function → (port suffix : Text) → Text
tail event pci f port suffix = (if f.function == 0 && not (is_several event pci) then [] else codes "f" ++ decimal f.function) ++ port ++ suffix

-- the name by the place of a function
abbrev pub path_text : Function → (tail : Text) → Text
path_text f tail = domain_text f ++ codes "p" ++ decimal f.bus ++ codes "s" ++ decimal f.slot ++ tail

-- the name by the slot of a function
abbrev pub slot_text : Function → (tail : Text) → Slot → Text
slot_text f tail slot = (if slot.drops_domain then [] else domain_text f) ++ codes "s" ++ decimal slot.number ++ tail

-- the names of a function with what follows: by its place, and by its slot if it is in one
abbrev pub with_tail : EventValue → Prefix → (pci : DeviceValue) → Function → (tail : Text) → Given
with_tail event prefix pci f tail = record {
  properties =
      prefixed (codes "ID_NET_NAME_PATH") (prefix_text prefix) (Some (path_text f tail))
      ++ prefixed (codes "ID_NET_NAME_SLOT") (prefix_text prefix) (option_map (slot_text f tail) (slot_of event pci));
  needs = slot_needs event pci;
}

-- what a function gives: no names if it has no port
abbrev pub of_function : EventValue → Prefix → (interface pci : DeviceValue) → (suffix : Text) → Function → Given
of_function event prefix interface pci suffix f =
    let port = port_text prefix interface true in
    both (needing (config_needs event pci f (is_some port) ++ port_needs prefix interface true))
    (option_map_or (λ text. with_tail event prefix pci f (tail event pci f text suffix)) port (giving []))

-- what a device gives, if it is a function
unfoldable pub by_function : EventValue → Prefix → (interface pci : DeviceValue) → (suffix : Text) → Given
by_function event prefix interface pci suffix = option_map_or (of_function event prefix interface pci suffix) (function pci) (giving [])

-- the number of a function on board: by ACPI, else by the table of the firmware; it has 16 bits
unfoldable pub board_number : DeviceValue → Option ℕ
board_number pci = option_and_then (λ n. then_some (nat_lt n (2 ^ 16)) n) (option_or (number pci AcpiIndex) (number pci Index))

-- the name by the number on board
unfoldable pub board_text : Prefix → (interface pci : DeviceValue) → (suffix : Text) → Option Text
board_text prefix interface pci suffix =
    option_and_then (λ n. option_map (λ port. codes "o" ++ decimal n ++ port ++ suffix) (port_text prefix interface false))
    (board_number pci)

-- the device of PCI that an interface belongs to
abbrev pub own_pci : EventValue → Option DeviceValue
own_pci event = option_and_then (λ device. then_some (is_of (codes "pci") None device) device) (parent_after_virtio event)

-- the label of a function, if it may be part of a name, unless the function is a virtual one
abbrev pub label_of : (pci : DeviceValue) → (suffix : Text) → Option Text
label_of pci suffix = option_and_then (λ text. then_some (is_empty suffix && is_printable text) text) (read pci Label)

-- the label of a function, and the name by its number on board
abbrev pub on_board : Prefix → (interface pci : DeviceValue) → (suffix : Text) → Given
on_board prefix interface pci suffix = record {
  properties =
      prefixed (codes "ID_NET_LABEL_ONBOARD") [] (label_of pci suffix)
      ++ prefixed (codes "ID_NET_NAME_ONBOARD") (prefix_text prefix) (board_text prefix interface pci suffix);
  needs = if is_some (board_number pci) then port_needs prefix interface false else [];
}

-- what the function gives by which an interface of PCI is named; the block may not describe it
abbrev pub of_named : EventValue → Prefix → (interface : DeviceValue) → Option Named → Given
of_named event prefix interface None = needing (codes "physfn" ∷ [])
of_named event prefix interface (Some own) = both (on_board prefix interface own.0 own.1) (by_function event prefix interface own.0 own.1)

-- what the device of PCI gives that an interface belongs to
unfoldable pub by_pci : EventValue → Prefix → (interface : DeviceValue) → Given
by_pci event prefix interface = option_map_or (λ pci. of_named event prefix interface (named_function event pci)) (own_pci event) (giving [])

-- the nearest device of a bus above the event device
abbrev pub carrier : Bus → EventValue → Option DeviceValue
carrier Usb event = above event (codes "usb") (Some (codes "usb_interface")) event.device.path
carrier Bcma event = above event (codes "bcma") None event.device.path

-- the end of names by the name of such a device
abbrev pub suffix_of : Bus → (name : Text) → Option Text
suffix_of Usb name = usb_suffix name
suffix_of Bcma name = bcma_suffix name

-- the name by the end alone, which only an interface of USB has
abbrev pub alone : Bus → Prefix → (suffix : Text) → List Pair
alone Usb prefix suffix = prefixed (codes "ID_NET_NAME_PATH") (prefix_text prefix) (Some suffix)
alone Bcma prefix suffix = []

-- what an interface with this end is given: by the function above, or else by the end alone
abbrev pub with_suffix : Bus → EventValue → Prefix → (interface : DeviceValue) → (pci : Option DeviceValue) → (suffix : Option Text) → Given
with_suffix bus event prefix interface pci None = giving []
with_suffix bus event prefix interface None (Some suffix) = giving (alone bus prefix suffix)
with_suffix bus event prefix interface (Some pci) (Some suffix) = by_function event prefix interface pci suffix

-- what an interface of USB or a core of bcma gives, of which an interface is
unfoldable pub by_carrier : Bus → EventValue → Prefix → (interface : DeviceValue) → Given
by_carrier bus event prefix interface =
    option_map_or (λ device. with_suffix bus event prefix interface (pci_above event device) (suffix_of bus (kernel_of device)))
    (carrier bus event) (giving [])

-- the names by the name of the device above
unfoldable pub by_kernels : EventValue → (prefix : Text) → List Pair
by_kernels event prefix =
    prefixed (codes "ID_NET_NAME_PATH") prefix (by_ccw event)
    ++ prefixed (codes "ID_NET_NAME_SLOT") prefix (by_vio event)
    ++ prefixed (codes "ID_NET_NAME_PATH") prefix (by_platform event)

-- the names by buses whose devices have no functions of PCI
unfoldable pub by_buses : EventValue → (prefix : Text) → (interface : DeviceValue) → List Pair
by_buses event prefix interface =
    by_kernels event prefix
    ++ prefixed (codes "ID_NET_NAME_PATH") prefix (by_netdevsim event interface)
    ++ prefixed (codes "ID_NET_NAME_SLOT") prefix (by_xen event)

-- the names by the interface itself and by buses whose devices have no functions of PCI
abbrev pub own_names : EventValue → Prefix → (interface : DeviceValue) → List Pair
own_names event prefix interface =
    (codes "ID_NET_NAMING_SCHEME", codes "v257") ∷ []
    ++ prefixed (codes "ID_NET_NAME_MAC") (prefix_text prefix) (by_address prefix interface)
    ++ prefixed (codes "ID_NET_NAME_ONBOARD") (prefix_text prefix) (by_tree event prefix)
    ++ by_buses event (prefix_text prefix) interface

-- All names in the order in which they are set, and what the block would have to report for more. If a name is given
-- twice, the later one counts.
unfoldable pub all_names : EventValue → Prefix → (interface : DeviceValue) → Given
all_names event prefix interface =
    let needs = address_needs prefix interface ++ tree_needs event prefix in
    let own : Given = record { properties = own_names event prefix interface; needs = needs } in
    both (both (both own (by_pci event prefix interface)) (by_carrier Usb event prefix interface)) (by_carrier Bcma event prefix interface)
