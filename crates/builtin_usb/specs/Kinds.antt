-- What ID_TYPE says, by numbers that the kernel reports.
use Rattle.std.specs.Prelude.{ℕ, ◌-◌, ◌^◌, ◌==◌, ◌&&◌, ◌||◌, Bool, List, [], ◌∷◌, Option, Some, None, codes, if◌then◌else◌}
use Rattle.std.specs.Option.{option_and_then}
use Rattle.text_bytes.specs.Text.{Text}
use Rattle.device_core.specs.Values.{DeviceValue}
use Rattle.builtin_devices.specs.Devices.{attribute}
use Rattle.builtin_devices.specs.Numbers.{is_number, number_in}
use Rattle.builtin_devices.specs.declared.numbers.Base.TheVariants.{AsWritten, Hexadecimal}

-- the kinds of devices, by the class of an interface
abbrev pub class_kinds : List (ℕ × Text)
class_kinds =
    (1, codes "audio")
    ∷ (3, codes "hid")
    ∷ (6, codes "media")
    ∷ (7, codes "printer")
    ∷ (9, codes "hub")
    ∷ (14, codes "video")
    ∷ []

-- the kinds of storage, by the subclass of an interface
abbrev pub storage_kinds : List (ℕ × Text)
storage_kinds =
    (1, codes "rbc")
    ∷ (2, codes "atapi")
    ∷ (3, codes "tape")
    ∷ (4, codes "floppy")
    ∷ (6, codes "scsi")
    ∷ []

-- the kinds of SCSI devices, by their type
abbrev pub unit_kinds : List (ℕ × Text)
unit_kinds =
    (0, codes "disk")
    ∷ (1, codes "tape")
    ∷ (4, codes "optical")
    ∷ (5, codes "cd")
    ∷ (7, codes "optical")
    ∷ (14, codes "disk")
    ∷ (15, codes "optical")
    ∷ []

-- the kind that is beside a number, and `generic` for a number that has none
abbrev pub kind_beside : List (ℕ × Text) → ℕ → Text
kind_beside [] number = codes "generic"
kind_beside (row ∷ rows) number = if row.0 == number then row.1 else kind_beside rows number

-- the same for a text that may not be a number, which is then also `generic`
abbrev pub kind_in : List (ℕ × Text) → Option ℕ → Text
kind_in rows None = codes "generic"
kind_in rows (Some number) = kind_beside rows number

-- the class of an interface, in base sixteen and 32 bits
abbrev pub class_of : (interface : DeviceValue) → Option ℕ
class_of interface = option_and_then (number_in Hexadecimal (2 ^ 32 - 1)) (attribute interface (codes "bInterfaceClass"))

-- the number of a subclass, in 31 bits
abbrev pub subclass_number : Text → Option ℕ
subclass_number text = number_in AsWritten (2 ^ 31 - 1) text

-- the subclass of an interface
abbrev pub subclass_of : (interface : DeviceValue) → Option ℕ
subclass_of interface = option_and_then subclass_number (attribute interface (codes "bInterfaceSubClass"))

-- whether an interface is of class 8, storage
abbrev pub is_storage : (interface : DeviceValue) → Bool
is_storage interface = is_number 8 (class_of interface)

-- whether an interface is storage that commands of SCSI are sent to: ATAPI or SCSI
abbrev pub takes_scsi : (interface : DeviceValue) → Bool
takes_scsi interface = is_storage interface && (is_number 2 (subclass_of interface) || is_number 6 (subclass_of interface))

-- the kind of storage, by the text of the subclass; empty if it is not reported
abbrev pub storage_kind : Option Text → Text
storage_kind None = []
storage_kind (Some text) = kind_in storage_kinds (subclass_number text)

-- the kind of an interface
abbrev pub interface_kind : (interface : DeviceValue) → Text
interface_kind interface =
    if is_storage interface then storage_kind (attribute interface (codes "bInterfaceSubClass"))
    else kind_in class_kinds (class_of interface)

-- what ID_TYPE says: by the type of the SCSI device if it is reported, else by the interface; empty if there is
-- neither
abbrev pub reported_kind : (interface : Option DeviceValue) → (unit_type : Option Text) → Text
reported_kind interface (Some text) = kind_in unit_kinds (number_in AsWritten (2 ^ 32 - 1) text)
reported_kind None None = []
reported_kind (Some interface) None = interface_kind interface
