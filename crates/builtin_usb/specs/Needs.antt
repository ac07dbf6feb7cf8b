-- What the block would have to report for usb_id, beside what the parts of the builtin say.
use Rattle.std.specs.Prelude.{Bool, ◌||◌, List, [], ◌∷◌, ◌++◌, Option, Some, None, codes, if◌then◌else◌}
use Rattle.text_bytes.specs.Text.{Text}
use Rattle.device_core.specs.Values.{DeviceValue, EventValue}
use Rattle.builtin_devices.specs.Outcomes.{lacking}
use Rattle.builtin_usb.specs.Kinds.{is_storage}
use Rattle.builtin_usb.specs.Subjects.{is_untyped}

-- the word for a type, if a device is asked for one that it does not have: the event device, or one that a search met
abbrev pub type_words : EventValue → (is_unsure : Bool) → List Text
type_words event is_unsure =
    if is_untyped (codes "usb") event.device || is_untyped (codes "scsi") event.device || is_unsure then codes "DEVTYPE" ∷ [] else []

-- the word for the subclass, which is asked for of storage
abbrev pub subclass_words : (interface : DeviceValue) → List Text
subclass_words interface = if is_storage interface then lacking interface (codes "bInterfaceSubClass") (codes "bInterfaceSubClass") else []

-- the words for what an interface lacks
abbrev pub interface_words : Option DeviceValue → List Text
interface_words None = []
interface_words (Some interface) =
    lacking interface (codes "bInterfaceNumber") (codes "bInterfaceNumber")
    ++ lacking interface (codes "bInterfaceClass") (codes "bInterfaceClass")
    ++ subclass_words interface
