-- W5 and W26: what a rule asks one device for is of different devices, or of network devices.
use Rattle.std.specs.Prelude.{ℕ, Bool, true, false, not, ◌&&◌, ◌==◌, nat_eq, if◌then◌else◌, List, [], ◌∷◌, Option, Some, None, codes, unwrap_or}
use Rattle.std.specs.Bool.{then_some}
use Rattle.std.specs.List.{list_any, starts_with}
use Rattle.text_bytes.specs.Text.{Text}
use Rattle.text_bytes.specs.Names.{bar, colon, minus}
use Rattle.rule_types.specs.declared.part.Part.{Part}
use Rattle.rule_types.specs.declared.part.Part.TheVariants as part
use Rattle.rule_types.specs.declared.roles.PlainKey.{PlainKey}
use Rattle.rule_types.specs.declared.roles.PlainKey.TheVariants as plain
use Rattle.rule_types.specs.declared.roles.UpKey.{UpKey}
use Rattle.rule_types.specs.declared.roles.UpKey.TheVariants as up
use Rattle.text_tables.specs.Texts.{is_among, same_text}
use Rattle.rule_tokens.specs.Grammar.{Placed}
use Rattle.rule_types.specs.Tokens.{WrittenPart}
use Rattle.rule_lints.specs.declared.devices.Group.{Group}
use Rattle.rule_lints.specs.declared.devices.Group.TheVariants.{UsbDevice, UsbInterface, Input, Pci, Tty, Net, Block, Hidraw, Sound, Video}
use Rattle.rule_lints.specs.declared.devices.Side.{Side}
use Rattle.rule_lints.specs.declared.devices.Side.TheVariants.{Event, Chain}
use Rattle.rule_lints.specs.Parts.{is_equal}
use Rattle.rule_lints.specs.Texts.{has_byte, rest_after_first}

-- attributes of a USB device, and of none of its interfaces
abbrev pub usb_device_names : List Text
usb_device_names =
    codes "idVendor" ∷ codes "idProduct" ∷ codes "bcdDevice" ∷ codes "bDeviceClass" ∷ codes "bDeviceSubClass" ∷ codes "bDeviceProtocol"
    ∷ codes "bNumConfigurations" ∷ codes "bNumInterfaces" ∷ codes "busnum" ∷ codes "devnum" ∷ []

-- attributes of an interface of a USB device
abbrev pub usb_interface_names : List Text
usb_interface_names =
    codes "bInterfaceNumber" ∷ codes "bInterfaceClass" ∷ codes "bInterfaceSubClass" ∷ codes "bInterfaceProtocol"
    ∷ codes "bAlternateSetting" ∷ codes "bNumEndpoints" ∷ []

-- attributes of an input device
abbrev pub input_names : List Text
input_names = codes "id/vendor" ∷ codes "id/product" ∷ codes "id/version" ∷ codes "id/bustype" ∷ []

-- attributes of a PCI device
abbrev pub pci_names : List Text
pci_names = codes "subsystem_vendor" ∷ codes "subsystem_device" ∷ []

-- the kind of devices that alone has an attribute, if that is known
abbrev pub group_named : Text → Option Group
group_named name =
    if is_among usb_device_names name then Some UsbDevice
    else (if is_among usb_interface_names name then Some UsbInterface
    else (if is_among input_names name then Some Input
    else (if is_among pci_names name then Some Pci else None)))

-- drivers of interfaces of USB devices, and of no other devices
abbrev pub interface_drivers : List Text
interface_drivers =
    codes "cdc_acm" ∷ codes "cdc_ether" ∷ codes "cdc_mbim" ∷ codes "cdc_ncm" ∷ codes "ch341" ∷ codes "cp210x" ∷ codes "ftdi_sio" ∷ codes "option"
    ∷ codes "pl2303" ∷ codes "qcserial" ∷ codes "qmi_wwan" ∷ codes "snd-usb-audio" ∷ codes "uas" ∷ codes "usb-storage" ∷ codes "usbhid"
    ∷ codes "uvcvideo" ∷ []

-- the kind of devices that alone is in a subsystem, if that is known
abbrev pub group_in_subsystem : Text → Option Group
group_in_subsystem name =
    if same_text name (codes "input") then Some Input
    else (if same_text name (codes "pci") then Some Pci
    else (if same_text name (codes "tty") then Some Tty
    else (if same_text name (codes "net") then Some Net
    else (if same_text name (codes "block") then Some Block
    else (if same_text name (codes "hidraw") then Some Hidraw
    else (if same_text name (codes "sound") then Some Sound
    else (if same_text name (codes "video4linux") then Some Video else None)))))))

-- what the kernel's names of devices of a kind begin with
abbrev pub stems : List (Text × Group)
stems =
    (codes "ttyUSB", Tty) ∷ (codes "ttyACM", Tty) ∷ (codes "ttyS", Tty) ∷ (codes "sda", Block) ∷ (codes "sdb", Block) ∷ (codes "sdc", Block)
    ∷ (codes "sd[a-z]", Block) ∷ (codes "sd?", Block) ∷ (codes "mmcblk", Block) ∷ (codes "eth", Net) ∷ (codes "wlan", Net) ∷ (codes "hidraw", Hidraw)
    ∷ (codes "video", Video) ∷ []

-- the kind of the first of these stems that a text begins with
abbrev pub group_by_stem : List (Text × Group) → Text → Option Group
group_by_stem [] text = None
group_by_stem (row ∷ rows) text = if starts_with nat_eq text row.0 then Some row.1 else group_by_stem rows text

-- whether a value asks for the name of an interface of a USB device: it has a `:` after a `-`, as in `1-2:1.0`, and is no choice
abbrev pub is_interface_name : Text → Bool
is_interface_name value = not (has_byte bar value) && has_byte colon (rest_after_first minus value)

-- the kind of devices that alone meets a match of the event by `==`, if that is known; one of several names of the kernel is not
abbrev pub group_of_plain : PlainKey → Text → Option Group
group_of_plain (plain.Attr name) value = group_named name
group_of_plain plain.Subsystem value = group_in_subsystem value
group_of_plain plain.Kernel value = if not (has_byte bar value) then group_by_stem stems value else None
group_of_plain _ value = None

-- the same for a match of one device of the chain
abbrev pub group_of_up : UpKey → Text → Option Group
group_of_up (up.Attrs name) value = group_named name
group_of_up up.Subsystems value = group_in_subsystem value
group_of_up up.Kernels value = then_some (is_interface_name value) UsbInterface
group_of_up up.Drivers value = then_some (is_among interface_drivers value) UsbInterface
group_of_up _ value = None

-- the kind of devices that alone meets a part that asks for the event's device, or for one of the chain
abbrev pub group_of : Side → Part → Option Group
group_of Event (part.Plain m) = if is_equal m.wanted.operator then group_of_plain m.key m.wanted.written else None
group_of Chain (part.Up m) = if is_equal m.wanted.operator then group_of_up m.key m.wanted.written else None
group_of _ _ = None

-- how many kinds come before a kind
abbrev pub number : Group → ℕ
number UsbDevice = 0
number UsbInterface = 1
number Input = 2
number Pci = 3
number Tty = 4
number Net = 5
number Block = 6
number Hidraw = 7
number Sound = 8
number Video = 9

-- whether there is a group, and it is not this one
abbrev pub is_other : Group → Option Group → Bool
is_other group None = false
is_other group (Some found) = not (number group == number found)

-- whether there is a group, and it is this one
abbrev pub is_kind : Group → Option Group → Bool
is_kind group None = false
is_kind group (Some found) = number group == number found

-- whether a rule holds for network devices alone: one of its matches is met by no others
abbrev pub is_of_net : List WrittenPart → Bool
is_of_net tokens = list_any (λ w. is_kind Net (group_of Event w.part)) tokens

-- The first token of another group than that of the first token of a group. If a group is given, that is the group of
-- the first.
abbrev pub stranger_by : Side → Option Group → List WrittenPart → Option WrittenPart
stranger_by side first [] = None
stranger_by side None (w ∷ tokens) = stranger_by side (group_of side w.part) tokens
stranger_by side (Some group) (w ∷ tokens) = if is_other group (group_of side w.part) then Some w else stranger_by side (Some group) tokens

-- the token with which W5 is reported of a side
abbrev pub stranger : Side → List WrittenPart → Option WrittenPart
stranger side tokens = stranger_by side None tokens

-- what W5 is reported with: the text in braces, or the key
abbrev pub asked : Placed → Text
asked t = unwrap_or t.parts.head.attribute t.parts.head.key
