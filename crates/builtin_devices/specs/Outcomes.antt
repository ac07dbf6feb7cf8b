-- The outcome of a builtin, and what the block would have to report for it.
use Rattle.std.specs.Prelude.{Bool, true, false, List, [], ◌∷◌, ◌++◌, is_some, if◌then◌else◌, codes}
use Rattle.text_bytes.specs.Text.{Text}
use Rattle.text_tables.specs.Texts.{same_text, with_texts}
use Rattle.text_tables.specs.Pairs.{Pair}
use Rattle.text_bytes.specs.Kernels.{last_component}
use Rattle.device_core.specs.Values.{DeviceValue, EventValue}
use Rattle.builtin_devices.specs.Devices.{attribute}

-- Whether a builtin succeeds, the properties in the order in which it sets them, where an empty value removes one,
-- and names for what the block would have to report, each once.
pub record OutcomeValue : Type 0 where
  pub is_done : Bool
  pub properties : List Pair
  pub needs : List Text

-- a builtin that succeeds
abbrev pub succeeding : List Pair → List Text → OutcomeValue
succeeding properties needs = record { is_done = true; properties = properties; needs = needs }

-- a builtin that fails, and sets nothing
abbrev pub failing : List Text → OutcomeValue
failing needs = record { is_done = false; properties = []; needs = needs }

-- words for what is needed, each once
abbrev pub needs_of : List Text → List Text
needs_of words = with_texts [] words

-- the word for an attribute, if a device lacks it
abbrev pub lacking : DeviceValue → (name word : Text) → List Text
lacking device name word = if is_some (attribute device name) then [] else word ∷ []

-- a word for something of a device: with ` of ` and the device's name, unless it is the event device
abbrev pub word_about : EventValue → DeviceValue → (word : Text) → Text
word_about event device word = if same_text device.path event.device.path then word else word ++ codes " of " ++ last_component device.path

-- an outcome with other words before its own for what is needed, each once
abbrev pub needing_first : List Text → OutcomeValue → OutcomeValue
needing_first needs outcome = record outcome { needs = with_texts needs outcome.needs }
