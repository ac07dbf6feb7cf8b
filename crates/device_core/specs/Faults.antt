-- What is wrong with a line, given the lines above it, and with a block.
use Rattle.std.specs.Prelude.{ℕ, ◌+◌, Bool, false, not, ◌&&◌, ◌||◌, List, [], ◌∷◌, ◌++◌, length, position, ◌==◌}
use Rattle.std.specs.Prelude.{nat_le, Option, Some, None, Result, Ok, Err, if◌then◌else◌, is_some, is_none}
use Rattle.std.specs.Option.{option_to_list}
use Rattle.text_bytes.specs.Names.{nul}
use Rattle.text_bytes.specs.Texts.{is_empty, last}
use Rattle.text_bytes.specs.Lines.{lines}
use Rattle.text_bytes.specs.Text.{Text}
use Rattle.text_tables.specs.Texts.{is_among}
use Rattle.text_tables.specs.Pairs.{Pair as NameAndValue, named}
use Rattle.device_core.specs.RunBlocks.{is_too_long, line_of_excess}
use Rattle.device_core.specs.Lines.{Row, row_of, begins_answer}
use Rattle.device_core.specs.Parts.{pair_of, number_of, answer_of, is_device_path, is_parent_path}
use Rattle.device_core.specs.Values.{DeviceValue, EventValue, most_devices}
use Rattle.device_core.specs.Blocks.{is_kind, texts, pairs, devices, event}
use Rattle.device_core.specs.declared.lines.DeviceField.{DeviceField}
use Rattle.device_core.specs.declared.lines.DeviceField.TheVariants.{Subsystem, Driver, Node, Devnum, Attribute, Property, Stored, Tag, Link}
use Rattle.device_core.specs.declared.lines.LineKind.{LineKind}
use Rattle.device_core.specs.declared.lines.LineKind.TheVariants.{Action, Device, Field, Constant, Command, Answer, Output}
use Rattle.device_core.specs.declared.faults.BlockFault.{BlockFault}
use Rattle.device_core.specs.declared.faults.BlockFaultKind.{BlockFaultKind}
use Rattle.device_core.specs.declared.faults.BlockFaultKind.TheVariants.{NoAction, NoDevice, Letter, Twice, Path, Number, Pair, Nul, TooLong, TooDeep}

-- the device to which a line below these belongs
unfoldable pub device_above : List Row → Option DeviceValue
device_above above = last (devices above)

-- whether there is a line and it is a command
abbrev pub is_command : Option Row → Bool
is_command None = false
is_command (Some row) = is_kind Command row

-- whether the line right above is a command
unfoldable pub follows_command : List Row → Bool
follows_command above = is_command (last above)

-- whether there is a line and it is an answer or one more line of one
abbrev pub is_of_answer : Option Row → Bool
is_of_answer None = false
is_of_answer (Some row) = is_kind Answer row || is_kind Output row

-- whether the line right above is an answer or one more line of one
unfoldable pub follows_answer : List Row → Bool
follows_answer above = is_of_answer (last above)

-- the first line is not a `C:`, or its action is empty; an answer there is rather one without a command
abbrev pub lacks_action : List Row → LineKind → Text → Bool
lacks_action above Action rest = is_empty above && is_empty rest
lacks_action above Answer rest = false
lacks_action above _ rest = is_empty above

-- a line about a device is above each `P:`
abbrev pub lacks_device : List Row → LineKind → Bool
lacks_device above (Field field) = is_none (device_above above)
lacks_device above _ = false

-- the line begins a device, and as many as there may be are above
abbrev pub is_too_deep : List Row → LineKind → Bool
is_too_deep above Device = nat_le most_devices (length (devices above))
is_too_deep above _ = false

-- whether a path may follow that of a device above: as its parent's, or as the event device's if none is above
abbrev pub is_path_below : Option DeviceValue → Text → Bool
is_path_below None path = is_device_path path
is_path_below (Some above) path = is_parent_path above.path path

-- the line begins a device whose path is not that of a parent of the one above, or the first has a wrong path
abbrev pub is_wrong_path : List Row → LineKind → Text → Bool
is_wrong_path above Device rest = not (is_path_below (device_above above) rest)
is_wrong_path above _ rest = false

-- no device number, or no exit status in an answer that has a command
abbrev pub is_wrong_number : List Row → LineKind → Text → Bool
is_wrong_number above (Field Devnum) rest = is_none (number_of rest)
is_wrong_number above Answer rest = follows_command above && is_none (answer_of rest)
is_wrong_number above _ rest = false

-- no name with a value, or an empty text
abbrev pub is_half_field : DeviceField → Text → Bool
is_half_field Devnum rest = false
is_half_field Attribute rest = is_none (pair_of rest)
is_half_field Property rest = is_none (pair_of rest)
is_half_field Stored rest = is_none (pair_of rest)
is_half_field _ rest = is_empty rest

-- a part is missing: a name or a value, a text, the answer below a command, the command above an answer, or the answer
-- above one more line of it
abbrev pub is_half : List Row → LineKind → Text → List Text → Bool
is_half above Action rest below = is_empty rest
is_half above Device rest below = false
is_half above (Field field) rest below = is_half_field field rest
is_half above Constant rest below = is_none (pair_of rest)
is_half above Command rest below = is_empty rest || not (begins_answer below)
is_half above Answer rest below = not (follows_command above)
is_half above Output rest below = not (follows_answer above)

-- whether the name of a pair is among these
abbrev pub has_name : List NameAndValue → Option NameAndValue → Bool
has_name known None = false
has_name known (Some pair) = named known pair.0

-- whether a device already has what the line gives it
abbrev pub has_field : DeviceValue → DeviceField → Text → Bool
has_field device Subsystem rest = is_some device.subsystem
has_field device Driver rest = is_some device.driver
has_field device Node rest = is_some device.node
has_field device Devnum rest = is_some device.number
has_field device Attribute rest = has_name device.attrs (pair_of rest)
has_field device Property rest = has_name device.env (pair_of rest)
has_field device Stored rest = has_name device.stored (pair_of rest)
has_field device Tag rest = is_among device.tags rest
has_field device Link rest = is_among device.links rest

-- whether there is a device that was given the field before, or for a field of several values this name or member
abbrev pub some_has_field : Option DeviceValue → DeviceField → Text → Bool
some_has_field None field rest = false
some_has_field (Some device) field rest = has_field device field rest

-- the line gives again what the lines above gave
abbrev pub is_again : List Row → LineKind → Text → Bool
is_again above Action rest = not (is_empty (texts Action above))
is_again above Device rest = false
is_again above (Field field) rest = some_has_field (device_above above) field rest
is_again above Constant rest = has_name (pairs Constant above) (pair_of rest)
is_again above Command rest = is_among (texts Command above) rest
is_again above Answer rest = false
is_again above Output rest = false

-- the first fault whose condition holds
abbrev pub first_of : List (Bool × BlockFaultKind) → Option BlockFaultKind
first_of [] = None
first_of (fault ∷ faults) = if fault.0 then Some fault.1 else first_of faults

-- what is wrong with a line of the form: the first of these whose condition holds
unfoldable pub row_fault : List Row → LineKind → Text → List Text → Option BlockFaultKind
row_fault above kind rest below = first_of (
    (lacks_action above kind rest, NoAction)
    ∷ (lacks_device above kind, NoDevice)
    ∷ (is_too_deep above kind, TooDeep)
    ∷ (is_wrong_path above kind rest, Path)
    ∷ (is_wrong_number above kind rest, Number)
    ∷ (is_half above kind rest below, Pair)
    ∷ (is_again above kind rest, Twice)
    ∷ [])

-- what is wrong with a line that may not be of a known form
abbrev pub fault_unless : List Row → Option Row → List Text → Option BlockFaultKind
fault_unless above None below = Some Letter
fault_unless above (Some row) below = row_fault above row.0 row.1 below

-- whether a line has a NUL byte
unfoldable pub has_nul : Text → Bool
has_nul line = is_some (position (λ b. b == nul) line)

-- what is wrong with a line, given the lines above it and those below
unfoldable pub line_fault : List Row → Text → List Text → Option BlockFaultKind
line_fault above line below = if has_nul line then Some Nul else fault_unless above (row_of line) below

-- what a whole gives, unless one of its lines is faulty
abbrev pub unless_faulty : ℕ → Option BlockFaultKind → Result EventValue BlockFault → Result EventValue BlockFault
unless_faulty line None whole = whole
unless_faulty line (Some kind) whole = Err (record { line = line; kind = kind })

-- what lines that are not faulty and describe these devices give: their event, or at the last line the fault that
-- there is no device
abbrev pub given_with : List Row → List DeviceValue → Result EventValue BlockFault
given_with rows [] = Err (record { line = length rows; kind = NoDevice })
given_with rows (device ∷ parents) = Ok (event rows device parents)

-- what lines give below lines that are not faulty: the first fault, else the event
unfoldable pub given_below : List Row → List Text → Result EventValue BlockFault
given_below above [] = given_with above (devices above)
given_below above (line ∷ below) = unless_faulty (length above + 1) (line_fault above line below) (given_below (above ++ option_to_list (row_of line)) below)

-- what lines give; if there are none, the first is missing
unfoldable pub given_by : List Text → Result EventValue BlockFault
given_by [] = Err (record { line = 1; kind = NoAction })
given_by (line ∷ below) = given_below [] (line ∷ below)

-- what a block gives: its event, or the first fault
unfoldable pub block_gives : Text → Result EventValue BlockFault
block_gives block = if is_too_long block then Err (record { line = line_of_excess block; kind = TooLong }) else given_by (lines block)
