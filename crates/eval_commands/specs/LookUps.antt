-- What `hwdb` looks up in the hardware database, and what it finds.
use Rattle.std.specs.Prelude.{ℕ, Bool, true, not, ◌&&◌, if◌then◌else◌, List, [], ◌∷◌, ◌++◌, take, drop}
use Rattle.std.specs.Prelude.{map, filter, filter_map, find, Option, Some, None, is_some, codes}
use Rattle.std.specs.List.{position_or_len}
use Rattle.std.specs.Option.{option_or, unwrap_or}
use Rattle.text_bytes.specs.declared.profile.Profile.{Profile}
use Rattle.text_bytes.specs.declared.profile.Profile.TheVariants.{Manual, Udev}
use Rattle.text_bytes.specs.Texts.{is_empty}
use Rattle.text_bytes.specs.Text.{Text}
use Rattle.text_tables.specs.Pairs.{Pair, value_of}
use Rattle.text_core.specs.Fits.{fits}
use Rattle.text_core.specs.declared.item.Item.{Item}
use Rattle.trie_nodes.specs.Query.{query}
use Rattle.builtin_devices.specs.Knowledge.{Known}
use Rattle.device_core.specs.Values.{DeviceValue}
use Rattle.builtin_devices.specs.Devices.{is_text, type_of}
use Rattle.eval_state.specs.Texts.{filled}
use Rattle.eval_state.specs.declared.state.State.{State}
use Rattle.eval_commands.specs.UsbModalias.{made_up}
use Rattle.eval_commands.specs.declared.hwdb.Hwdb.{Hwdb}

-- what `hwdb` looks at in a device
pub record Candidate : Type 0 where
  pub subsystem : Option Text
  pub devtype : Option Text
  pub modalias : Option Text

-- A device, by its properties DEVTYPE and MODALIAS. For udev the type is what the kernel calls it, an empty property is
-- none, and a device without a modalias may have one that is made up.
abbrev pub candidate_with : Profile → DeviceValue → (devtype modalias : Option Text) → Candidate
candidate_with Manual device devtype modalias = record { subsystem = device.subsystem; devtype = devtype; modalias = modalias }
candidate_with Udev device devtype modalias =
    record { subsystem = device.subsystem; devtype = type_of device; modalias = option_or (filled modalias) (made_up device) }

-- a device by these properties
abbrev pub candidate : Profile → DeviceValue → List Pair → Candidate
candidate profile device env = candidate_with profile device (value_of env (codes "DEVTYPE")) (value_of env (codes "MODALIAS"))

-- the devices of an event, nearest first: the event device with its current properties, then the parents with their own
abbrev pub candidates : State → List Candidate
candidates state =
    candidate state.event.profile state.event.device state.env
    ∷ map (λ parent. candidate state.event.profile parent parent.env) state.event.parents

-- whether a device has a subsystem: the one that is named, if any
abbrev pub is_wanted : Option Text → Candidate → Bool
is_wanted None device = is_some device.subsystem
is_wanted (Some name) device = is_text name device.subsystem

-- whether a device is of the subsystem usb, and of the type usb_device
abbrev pub is_usb_device : Candidate → Bool
is_usb_device device = is_text (codes "usb") device.subsystem && is_text (codes "usb_device") device.devtype

-- whether a device is the last one that is looked at
abbrev pub is_last : Option Text → Candidate → Bool
is_last subsystem device = is_wanted subsystem device && is_usb_device device

-- the elements up to the first that passes a test, with that one
abbrev pub through : {X : Type 0} → (X → Bool) → List X → List X
through test [] = []
through test (x ∷ xs) = if test x then x ∷ [] else x ∷ through test xs

-- the modaliases of those devices that are wanted and have one
abbrev pub modaliases_in : Option Text → List Candidate → List Text
modaliases_in subsystem devices = filter_map (λ device. device.modalias) (filter (is_wanted subsystem) devices)

-- the modaliases of the devices that are looked at: the last one of these is the first wanted USB device, with or
-- without a modalias
abbrev pub modaliases_of : Option Text → List Candidate → List Text
modaliases_of subsystem devices = modaliases_in subsystem (through (is_last subsystem) devices)

-- how many devices come before the first wanted USB device
abbrev pub count_before_usb : Option Text → List Candidate → ℕ
count_before_usb subsystem devices = position_or_len (is_last subsystem) devices

-- the modaliases at which udev looks: those before the first wanted USB device, and from that device on the first one
abbrev pub udev_modaliases_of : Option Text → List Candidate → List Text
udev_modaliases_of subsystem devices =
    let count = count_before_usb subsystem devices in
    modaliases_in subsystem (take count devices) ++ take 1 (modaliases_in subsystem (drop count devices))

-- the same by a profile
abbrev pub modaliases_by : Profile → Option Text → List Candidate → List Text
modaliases_by Manual subsystem devices = modaliases_of subsystem devices
modaliases_by Udev subsystem devices = udev_modaliases_of subsystem devices

-- the modaliases to look up: the given one, or else those of devices
abbrev pub modaliases : Profile → Hwdb → Option Text → List Candidate → List Text
modaliases profile hwdb None devices = modaliases_by profile hwdb.subsystem devices
modaliases profile hwdb (Some modalias) devices = modalias ∷ []

-- the texts to look up: each modalias after the prefix
abbrev pub texts : Hwdb → State → List Text
texts hwdb state = map (λ modalias. hwdb.prefix ++ modalias) (modaliases state.event.profile hwdb hwdb.modalias (candidates state))

-- whether a key counts: one that fits the pattern, and without a pattern each
abbrev pub counts : Option (List Item) → Text → Bool
counts None key = true
counts (Some pattern) key = fits pattern key

-- the properties of a text that count
abbrev pub counted_properties : Known → Hwdb → Text → List Pair
counted_properties known hwdb text = filter (λ property. counts hwdb.filter property.0) (query known.entries text)

-- the first list that is not empty; empty if there is none
abbrev pub first_found : List (List Pair) → List Pair
first_found answers = unwrap_or (find (λ properties. not (is_empty properties)) answers) []

-- what is found: the answer to the first text that has one
unfoldable pub found : Known → Hwdb → State → List Pair
found known hwdb state = first_found (map (counted_properties known hwdb) (texts hwdb state))
