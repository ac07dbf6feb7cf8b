-- What a block would have to report for the names of an interface: what net_id asks for and each such device has.
use Rattle.std.specs.Prelude.{◌==◌, ◌||◌, ◌&&◌, Bool, false, not, List, [], ◌∷◌, ◌++◌, codes, None, is_some, if◌then◌else◌}
use Rattle.std.specs.Option.{option_map_or}
use Rattle.text_bytes.specs.Text.{Text}
use Rattle.text_tables.specs.Pairs.{value_of}
use Rattle.device_core.specs.Values.{DeviceValue, EventValue}
use Rattle.builtin_devices.specs.Devices.{is_of, some_text}
use Rattle.builtin_devices.specs.Numbers.{is_number}
use Rattle.builtin_net.specs.Allowed.{lacks, number, read}
use Rattle.builtin_net.specs.Function.{config}
use Rattle.builtin_net.specs.Identity.{index, is_alone}
use Rattle.builtin_net.specs.Prefixes.{is_ethernet, is_infiniband}
use Rattle.builtin_net.specs.Slots.{firmware_number, is_bridge, is_described, number_by_firmware, pci_above, search_end, slots_folder}
use Rattle.builtin_net.specs.Trees.{aliases_folder, node_link}
use Rattle.builtin_net.specs.declared.allowed.Attribute.TheVariants.{Iflink, Hardware, AddrAssignType, Address, PhysPortName, DevPort, DevId}
use Rattle.builtin_net.specs.declared.allowed.Attribute.TheVariants.{FunctionId, Modalias}
use Rattle.builtin_net.specs.declared.functions.Function.{Function}
use Rattle.builtin_net.specs.declared.prefixes.Prefix.{Prefix}

-- a word, under a condition
abbrev pub when : Bool → Text → List Text
when holds word = if holds then word ∷ [] else []

-- for the index, the hardware and the address
abbrev pub own_needs : EventValue → (interface : DeviceValue) → List Text
own_needs event interface =
    when (is_of (codes "net") None event.device && not (is_some (value_of event.device.env (codes "IFINDEX")))) (codes "IFINDEX")
    ++ when (is_some (index event) && lacks interface Iflink) (codes "iflink")
    ++ when (is_alone event interface && lacks interface Hardware) (codes "type")

-- for the address
abbrev pub address_needs : Prefix → (interface : DeviceValue) → List Text
address_needs prefix interface =
    when (not (is_infiniband prefix) && lacks interface AddrAssignType) (codes "addr_assign_type")
    ++ when (not (is_infiniband prefix) && is_number 0 (number interface AddrAssignType) && lacks interface Address) (codes "address")

-- for the aliases
abbrev pub tree_needs : EventValue → Prefix → List Text
tree_needs event prefix =
    when (is_ethernet prefix && is_some (node_link event) && not (is_described event aliases_folder)) (codes "aliases")

-- for the port
abbrev pub port_needs : Prefix → (interface : DeviceValue) → (by_id : Bool) → List Text
port_needs prefix interface by_id =
    let is_named = is_some (some_text (read interface PhysPortName)) in
    when (not is_named && lacks interface DevPort) (codes "dev_port")
    ++ when (not is_named && is_number 0 (number interface DevPort) && by_id && is_infiniband prefix && lacks interface DevId) (codes "dev_id")

-- whether what the firmware says about the slot of a function is asked of a bridge above it
abbrev pub asks_bridge : EventValue → (pci : DeviceValue) → Bool
asks_bridge event pci = not (is_some (firmware_number pci)) && option_map_or is_bridge (pci_above event pci) false

-- for the configuration: it says whether a function with the number 0 is the only one, and whether the slot of a
-- bridge is its own
abbrev pub config_needs : EventValue → (pci : DeviceValue) → Function → (has_port : Bool) → List Text
config_needs event pci f has_port =
    let is_asked = f.function == 0 || has_port && asks_bridge event pci in
    when (is_asked && not (is_some (config event pci))) (codes "config")

-- for what the firmware gives: what says whether the device above is a bridge
abbrev pub firmware_needs : EventValue → (pci : DeviceValue) → List Text
firmware_needs event pci =
    when (not (is_some (firmware_number pci)) && option_map_or (λ above. lacks above Modalias) (pci_above event pci) false) (codes "modalias")

-- for the slots of the bus: what says whether the device at which the search ends is a bridge, unless it is a function of
-- System z, and the slots
abbrev pub bus_needs : EventValue → (pci : DeviceValue) → List Text
bus_needs event pci =
    when (option_map_or (λ end. lacks end Modalias && not (is_some (read end FunctionId))) (search_end event pci) false) (codes "modalias")
    ++ when (not (is_described event slots_folder)) (codes "slots")

-- for the slot: the slots of the bus are asked if the firmware gives none
abbrev pub slot_needs : EventValue → (pci : DeviceValue) → List Text
slot_needs event pci = firmware_needs event pci ++ (if is_some (number_by_firmware event pci) then [] else bus_needs event pci)
