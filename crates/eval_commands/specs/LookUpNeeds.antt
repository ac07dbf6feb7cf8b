-- What the block would have to report for a look-up of `hwdb` that finds nothing: the modaliases of devices.
use Rattle.std.specs.Prelude.{Bool, ◌&&◌, ◌||◌, if◌then◌else◌, nat_eq, List, [], ◌∷◌, ◌++◌, map, Option, Some, None, is_none, codes}
use Rattle.std.specs.List.{starts_with}
use Rattle.text_bytes.specs.declared.profile.Profile.{Profile}
use Rattle.text_bytes.specs.declared.profile.Profile.TheVariants.{Manual, Udev}
use Rattle.text_bytes.specs.Text.{Text}
use Rattle.text_tables.specs.Pairs.{Pair}
use Rattle.text_bytes.specs.Kernels.{last_component}
use Rattle.device_core.specs.Values.{DeviceValue, EventValue}
use Rattle.builtin_devices.specs.Devices.{is_text}
use Rattle.builtin_devices.specs.Outcomes.{word_about}
use Rattle.eval_state.specs.declared.state.State.{State}
use Rattle.eval_commands.specs.declared.hwdb.Hwdb.{Hwdb}
use Rattle.eval_commands.specs.LookUps.{Candidate, candidate, is_last, is_wanted}

-- whether a device is of input, and no node of one: the kernel names it `input` and a number
abbrev pub is_input_device : DeviceValue → Bool
is_input_device device = is_text (codes "input") device.subsystem && starts_with nat_eq (last_component device.path) (codes "input")

-- whether udev finds a modalias of each such device on a machine: of those of PCI, USB, HID and virtio, and of input devices
unfoldable pub has_modalias : DeviceValue → Bool
has_modalias device =
    is_text (codes "pci") device.subsystem || is_text (codes "usb") device.subsystem || is_text (codes "hid") device.subsystem
    || is_text (codes "virtio") device.subsystem || is_input_device device

-- the word for the modalias of a device, if it is wanted and the block lacks it
abbrev pub modalias_word : EventValue → (subsystem : Option Text) → DeviceValue → Candidate → List Text
modalias_word event subsystem device seen =
    if is_wanted subsystem seen && is_none seen.modalias && has_modalias device then word_about event device (codes "MODALIAS") ∷ [] else []

-- the same for devices, up to the first USB device that is wanted, and with that one
abbrev pub modalias_words : EventValue → (subsystem : Option Text) → List (DeviceValue × Candidate) → List Text
modalias_words event subsystem [] = []
modalias_words event subsystem (at ∷ others) =
    if is_last subsystem at.1 then modalias_word event subsystem at.0 at.1
    else modalias_word event subsystem at.0 at.1 ++ modalias_words event subsystem others

-- a device above the event device, with what `hwdb` looks at in it
abbrev pub parent_seen : DeviceValue → DeviceValue × Candidate
parent_seen parent = (parent, candidate Udev parent parent.env)

-- the devices of an event, nearest first, each with what `hwdb` looks at in it
abbrev pub devices_seen : State → List (DeviceValue × Candidate)
devices_seen state = (state.event.device, candidate Udev state.event.device state.env) ∷ map parent_seen state.event.parents

-- what the block would have to report if the modaliases of devices were looked up; a modalias that is given needs no device
abbrev pub device_needs : State → Hwdb → Option Text → List Text
device_needs state hwdb (Some modalias) = []
device_needs state hwdb None = modalias_words state.event hwdb.subsystem (devices_seen state)

-- what it would have to report, by what was found: for udev, if that is nothing
abbrev pub lookup_needs : Profile → State → Hwdb → List Pair → List Text
lookup_needs Manual state hwdb found = []
lookup_needs Udev state hwdb [] = device_needs state hwdb hwdb.modalias
lookup_needs Udev state hwdb (property ∷ found) = []
