-- The attributes that names of interfaces are made from, and which of them they may use.
use Rattle.std.specs.Prelude.{ℕ, Bool, true, not, ◌&&◌, List, ◌++◌, codes, map, Option, None, option_and_then, is_some, if◌then◌else◌}
use Rattle.std.specs.Char.{to_ascii_uppercase}
use Rattle.std.specs.Option.{option_map_or, option_or}
use Rattle.text_bytes.specs.Text.{Text}
use Rattle.text_tables.specs.Pairs.{Pair, value_of}
use Rattle.device_core.specs.Values.{DeviceValue, EventValue}
use Rattle.link_files.specs.Booleans.{is_yes}
use Rattle.builtin_devices.specs.Numbers.{number_in}
use Rattle.builtin_devices.specs.declared.numbers.Base.TheVariants.{AsWritten}
use Rattle.builtin_net.specs.Words.{most_number}
use Rattle.builtin_net.specs.declared.allowed.Attribute.{Attribute}
use Rattle.builtin_net.specs.declared.allowed.Attribute.TheVariants.{Iflink, Hardware, AddrAssignType, Address, PhysPortName, DevPort, DevId}
use Rattle.builtin_net.specs.declared.allowed.Attribute.TheVariants.{AriEnabled, AcpiIndex, Index, Label, Sun, FunctionId, Modalias}

-- where an attribute is below the folder of its device
abbrev pub attribute_name : Attribute → Text
attribute_name Iflink = codes "iflink"
attribute_name Hardware = codes "type"
attribute_name AddrAssignType = codes "addr_assign_type"
attribute_name Address = codes "address"
attribute_name PhysPortName = codes "phys_port_name"
attribute_name DevPort = codes "dev_port"
attribute_name DevId = codes "dev_id"
attribute_name AriEnabled = codes "ari_enabled"
attribute_name AcpiIndex = codes "acpi_index"
attribute_name Index = codes "index"
attribute_name Label = codes "label"
attribute_name Sun = codes "firmware_node/sun"
attribute_name FunctionId = codes "function_id"
attribute_name Modalias = codes "modalias"

-- the property that says whether names may use any attribute
abbrev pub permission_of_all : Text
permission_of_all = codes "ID_NET_NAME_ALLOW"

-- the property that says it for one attribute
abbrev pub permission : Attribute → Text
permission attribute = codes "ID_NET_NAME_ALLOW_" ++ map to_ascii_uppercase (attribute_name attribute)

-- whether names may use an attribute, by a word for it alone, or else by one for all attributes; without either it is
-- allowed
abbrev pub permits : (own all : Option Text) → Bool
permits own all = option_map_or is_yes (option_or own all) true

-- whether, by properties, names may use an attribute
unfoldable pub is_allowed : List Pair → Attribute → Bool
is_allowed env attribute = permits (value_of env (permission attribute)) (value_of env permission_of_all)

-- an attribute of a device, unless names may not use it
unfoldable pub read : DeviceValue → Attribute → Option Text
read device attribute = if is_allowed device.env attribute then value_of device.attrs (attribute_name attribute) else None

-- the number that an attribute gives
unfoldable pub number : DeviceValue → Attribute → Option ℕ
number device attribute = option_and_then (number_in AsWritten most_number) (read device attribute)

-- whether a device lacks an attribute that names may use
unfoldable pub lacks : DeviceValue → Attribute → Bool
lacks device attribute = is_allowed device.env attribute && not (is_some (value_of device.attrs (attribute_name attribute)))

-- the event device with its current properties, which say what names may use of it
abbrev pub interface : EventValue → List Pair → DeviceValue
interface event env = record event.device { env = env }
