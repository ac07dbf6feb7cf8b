-- What an event weighs: each of its texts by its length and one more. The bound on an answer's weight uses it.
use Rattle.std.specs.Prelude.{ℕ, ◌+◌, List, Option, Some, None, length}
use Rattle.std.specs.List.{sum_by}
use Rattle.text_bytes.specs.Text.{Text}
use Rattle.text_tables.specs.Pairs.{Pair}
use Rattle.device_core.specs.Values.{NumberValue, DeviceValue, AnswerValue, EventValue, chain}

-- a text
abbrev pub text_weight : Text → ℕ
text_weight text = length text + 1

-- a text that may be absent
abbrev pub given_weight : Option Text → ℕ
given_weight None = 0
given_weight (Some text) = text_weight text

-- texts
abbrev pub texts_weight : List Text → ℕ
texts_weight texts = sum_by text_weight texts

-- a name and its value
abbrev pub pair_weight : Pair → ℕ
pair_weight pair = text_weight pair.0 + text_weight pair.1

-- names with their values
abbrev pub pairs_weight : List Pair → ℕ
pairs_weight pairs = sum_by pair_weight pairs

-- a device number that may be absent
abbrev pub number_weight : Option NumberValue → ℕ
number_weight None = 0
number_weight (Some number) = text_weight number.major + text_weight number.minor

-- a device
unfoldable pub device_weight : DeviceValue → ℕ
device_weight d =
    text_weight d.path + given_weight d.subsystem + given_weight d.driver + given_weight d.node + number_weight d.number + pairs_weight d.attrs
    + pairs_weight d.env + pairs_weight d.stored + texts_weight d.tags + texts_weight d.links

-- devices
abbrev pub devices_weight : List DeviceValue → ℕ
devices_weight devices = sum_by device_weight devices

-- a command and its answer
abbrev pub answer_weight : Text × AnswerValue → ℕ
answer_weight program = text_weight program.0 + text_weight program.1.text

-- an event
unfoldable pub event_weight : EventValue → ℕ
event_weight event = text_weight event.action + devices_weight (chain event) + sum_by answer_weight event.programs + pairs_weight event.constants
