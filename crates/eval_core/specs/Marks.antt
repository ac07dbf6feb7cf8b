-- Serves inner proofs only: marks, which show that no device of a chain has what rules search for.
use Rattle.std.specs.Prelude.{ℕ, ◌+◌, ◌*◌, ◌%◌, Bool, true, false, not, List, fold, set, replicate, Option, Some, None}
use Rattle.text_tables.specs.Pairs.{Pair}
use Rattle.eval_core.specs.Sketches.{sketch}
use Rattle.device_core.specs.Values.{DeviceValue, EventValue, chain}
use Rattle.eval_state.specs.Texts.{or_empty}
use Rattle.text_bytes.specs.Texts.{trimmed}

-- the numbers for subsystems and for drivers; an attribute has the sketch of its name
abbrev pub subsystem : ℕ
subsystem = 1

abbrev pub driver : ℕ
driver = 2

-- how many marks there are
abbrev pub mark_count : ℕ
mark_count = 2048

-- the mark of a thing with a value, each given as a number
unfoldable pub mark : ℕ → ℕ → ℕ
mark thing value = ((thing % mark_count) * 31 + value % mark_count) % mark_count

-- no mark is set
abbrev pub none_set : List Bool
none_set = replicate mark_count false

-- marks with one more
abbrev pub with_mark : List Bool → ℕ → List Bool
with_mark found place = set found place true

-- the mark of an attribute
abbrev pub attribute_mark : Pair → ℕ
attribute_mark attribute = mark (sketch attribute.0) (sketch (trimmed attribute.1))

-- marks with that of one more attribute
abbrev pub with_attribute : List Bool → Pair → List Bool
with_attribute found attribute = with_mark found (attribute_mark attribute)

-- marks with those of what one more device has
abbrev pub with_device : List Bool → DeviceValue → List Bool
with_device found device =
    fold with_attribute
    (with_mark (with_mark found (mark subsystem (sketch (or_empty device.subsystem)))) (mark driver (sketch (or_empty device.driver))))
    device.attrs

-- the marks of what the devices of an event have
abbrev pub marks : EventValue → List Bool
marks event = fold with_device none_set (chain event)

-- whether a mark is not set
abbrev pub is_lacking : Option Bool → Bool
is_lacking None = false
is_lacking (Some there) = not there
