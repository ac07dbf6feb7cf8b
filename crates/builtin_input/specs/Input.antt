-- The outcome of input_id.
use Rattle.std.specs.Prelude.{Bool, ◌&&◌, not, if◌then◌else◌, ◌-◌, List, [], ◌∷◌, ◌++◌, Option, Some, None, is_some, length, map, take, nat_eq, codes}
use Rattle.std.specs.List.{ends_with, find, flat_map, starts_with}
use Rattle.text_bytes.specs.Numbers.{is_digit}
use Rattle.text_bytes.specs.Texts.{is_empty}
use Rattle.text_bytes.specs.Text.{Text}
use Rattle.text_tables.specs.Pairs.{Pair, value_of}
use Rattle.device_core.specs.Values.{DeviceValue, EventValue, chain}
use Rattle.text_bytes.specs.Kernels.{longest_end}
use Rattle.builtin_devices.specs.Devices.{is_text, kernel_of}
use Rattle.builtin_devices.specs.Outcomes.{OutcomeValue, lacking, needs_of, succeeding, word_about}
use Rattle.builtin_input.specs.Capabilities.{CapabilitiesValue, capabilities}
use Rattle.builtin_input.specs.Signs.{has_position}
use Rattle.builtin_input.specs.Kinds.{kinds, property_of}

-- whether a device reports which kinds of events it has
abbrev pub reports : DeviceValue → Bool
reports device = is_some (value_of device.attrs (codes "capabilities/ev"))

-- whether a device is of the subsystem of input devices
abbrev pub is_input : DeviceValue → Bool
is_input device = is_text (codes "input") device.subsystem

-- the device that reports about itself: the event device, or else its nearest parent of the subsystem that does
abbrev pub input_device : EventValue → Option DeviceValue
input_device event = if reports event.device then Some event.device else find (λ device. is_input device && reports device) event.parents

-- a property that is set
abbrev pub set : Text → Pair
set name = (name, codes "1")

-- the properties that are set for a device that reports this about itself
unfoldable pub kind_properties : CapabilitiesValue → List Pair
kind_properties c = set (codes "ID_INPUT") ∷ map (λ kind. set (property_of kind)) (kinds c)

-- the attributes that each input device has
abbrev pub expected : List Text
expected = codes "id/bustype" ∷ codes "capabilities/abs" ∷ codes "capabilities/rel" ∷ codes "capabilities/key" ∷ codes "properties" ∷ []

-- whether the node of a device is asked for its size, which a block does not report: a node of events with axes of a
-- position is
abbrev pub asks_size : EventValue → CapabilitiesValue → Bool
asks_size event c = starts_with nat_eq (kernel_of event.device) (codes "event") && has_position c

-- the size, if it is asked for
abbrev pub size_needs : EventValue → CapabilitiesValue → List Text
size_needs event c = if asks_size event c then codes "absolute axes" ∷ [] else []

-- the attributes that a device would have to report
abbrev pub attribute_needs : EventValue → DeviceValue → List Text → List Text
attribute_needs event device names = flat_map (λ name. lacking device name (word_about event device name)) names

-- what the block would have to report about a device and its node
unfoldable pub device_needs : EventValue → DeviceValue → List Text
device_needs event device = attribute_needs event device expected ++ size_needs event (capabilities device)

-- whether the last component of a path is `input` and a number
abbrev pub is_input_path : Text → Bool
is_input_path path =
    let digits = longest_end is_digit path in
    not (is_empty digits) && ends_with nat_eq (take (length path - length digits) path) (codes "/input")

-- whether a device is an input device by its subsystem and its name, which the kernel makes report about itself
abbrev pub is_input_device : DeviceValue → Bool
is_input_device device = is_input device && is_input_path device.path

-- the word for the kinds of events of an input device, if there is one
abbrev pub kinds_word : EventValue → Option DeviceValue → List Text
kinds_word event None = []
kinds_word event (Some device) = word_about event device (codes "capabilities/ev") ∷ []

-- what is needed if no device reports about itself: for the nearest input device its kinds of events
unfoldable pub chain_needs : EventValue → List Text
chain_needs event = kinds_word event (find is_input_device (chain event))

-- the outcome for the device that reports about itself, if there is one
abbrev pub outcome_of : EventValue → Option DeviceValue → OutcomeValue
outcome_of event None = succeeding [] (needs_of (chain_needs event))
outcome_of event (Some device) = succeeding (kind_properties (capabilities device)) (needs_of (device_needs event device))

-- the outcome of input_id over an event: it always succeeds
unfoldable pub input_id : EventValue → OutcomeValue
input_id event = outcome_of event (input_device event)
