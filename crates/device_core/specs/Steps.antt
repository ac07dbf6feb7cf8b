-- Serves inner proofs only: what the private parts of the reader do with the lines so far. The clause of `read_block`
-- names none of this; it only carries the proof from one function to the next.
use Rattle.std.specs.Prelude.{◌≡◌, ℕ, ◌+◌, Bool, false, not, ◌||◌, List, [], ◌∷◌, ◌++◌, length, nat_le}
use Rattle.std.specs.Prelude.{Option, Some, None, option_map, Result, Ok, Err, if◌then◌else◌, is_some}
use Rattle.std.specs.List.{AllByRecursion}
use Rattle.std.specs.Option.{option_to_list}
use Rattle.text_bytes.specs.Texts.{is_empty}
use Rattle.text_bytes.specs.declared.profile.Profile.TheVariants.{Manual}
use Rattle.text_bytes.specs.Text.{Text}
use Rattle.text_tables.specs.Texts.{is_among}
use Rattle.text_tables.specs.Pairs.{Pair as NameAndValue, named, with_value}
use Rattle.device_core.specs.Lines.{Row, row_of, begins_answer}
use Rattle.device_core.specs.Parts.{pair_of, number_of, answer_of, is_device_path, is_parent_path}
use Rattle.device_core.specs.Values.{NumberValue, DeviceValue, AnswerValue, EventValue, with_line}
use Rattle.device_core.specs.Blocks.{BehindValue, behind_after, nothing_behind}
use Rattle.device_core.specs.Faults.{has_nul}
use Rattle.device_core.specs.declared.lines.DeviceField.{DeviceField}
use Rattle.device_core.specs.declared.lines.DeviceField.TheVariants.{Subsystem, Driver, Node, Devnum, Attribute, Property, Stored, Tag, Link}
use Rattle.device_core.specs.declared.lines.LineKind.{LineKind}
use Rattle.device_core.specs.declared.lines.LineKind.TheVariants.{Action, Device, Field, Constant, Command, Answer, Output}
use Rattle.device_core.specs.declared.behind.Behind.{Behind}
use Rattle.device_core.specs.declared.draft.Draft.{Draft}
use Rattle.device_core.specs.declared.faults.BlockFault.{BlockFault}
use Rattle.device_core.specs.declared.faults.BlockFaultKind.{BlockFaultKind}
use Rattle.device_core.specs.declared.faults.BlockFaultKind.TheVariants.{NoAction, NoDevice, Letter, Twice, Path, Number, Pair, Nul, TooLong, TooDeep, Memory}

-- a fault of this kind is the one that is wanted; memory may always run out
abbrev pub Fails : {Y : Type 0} → BlockFaultKind → Result Y BlockFaultKind → Type 0
Fails NoAction wanted = wanted ≡ Err NoAction
Fails NoDevice wanted = wanted ≡ Err NoDevice
Fails Letter wanted = wanted ≡ Err Letter
Fails Twice wanted = wanted ≡ Err Twice
Fails Path wanted = wanted ≡ Err Path
Fails Number wanted = wanted ≡ Err Number
Fails Pair wanted = wanted ≡ Err Pair
Fails Nul wanted = wanted ≡ Err Nul
Fails TooLong wanted = wanted ≡ Err TooLong
Fails TooDeep wanted = wanted ≡ Err TooDeep
Fails Memory wanted = Unit {0}

-- a result is the one that is wanted, memory apart
abbrev pub Gives : {X Y : Type 0} → (X → Y) → Result X BlockFaultKind → Result Y BlockFaultKind → Type 0
Gives view (Ok x) wanted = wanted ≡ Ok (view x)
Gives view (Err kind) wanted = Fails kind wanted

-- a result with a function applied to its value
abbrev pub if_ok : {X Y : Type 0} → (X → Y) → Result X BlockFaultKind → Result Y BlockFaultKind
if_ok f (Ok x) = Ok (f x)
if_ok f (Err kind) = Err kind

-- a text that may be given once, and is not empty
unfoldable pub once_step : Option Text → Text → Result Text BlockFaultKind
once_step before rest = if is_empty rest then Err Pair else (if is_some before then Err Twice else Ok rest)

-- a device number that may be given once
abbrev pub number_once : Option NumberValue → Option NumberValue → Result NumberValue BlockFaultKind
number_once before None = Err Number
number_once before (Some number) = if is_some before then Err Twice else Ok number

-- the rest of a line as a device number that may be given once
unfoldable pub number_step : Option NumberValue → Text → Result NumberValue BlockFaultKind
number_step before rest = number_once before (number_of rest)

-- a name and its value after those known, if the name is new
abbrev pub with_pair : List NameAndValue → Option NameAndValue → Result (List NameAndValue) BlockFaultKind
with_pair known None = Err Pair
with_pair known (Some pair) = if named known pair.0 then Err Twice else Ok (known ++ pair ∷ [])

-- the rest of a line as a name and its value, if the name is new
unfoldable pub pair_step : List NameAndValue → Text → Result (List NameAndValue) BlockFaultKind
pair_step known rest = with_pair known (pair_of rest)

-- the rest of a line as one more text, if it is new and not empty
unfoldable pub member_step : List Text → Text → Result (List Text) BlockFaultKind
member_step known rest = if is_empty rest then Err Pair else (if is_among known rest then Err Twice else Ok (known ++ rest ∷ []))

-- a line about the device above
unfoldable pub field_step : DeviceValue → DeviceField → Text → Result DeviceValue BlockFaultKind
field_step d Subsystem rest = if_ok (λ t. record d { subsystem = Some t }) (once_step d.subsystem rest)
field_step d Driver rest = if_ok (λ t. record d { driver = Some t }) (once_step d.driver rest)
field_step d Node rest = if_ok (λ t. record d { node = Some t }) (once_step d.node rest)
field_step d Devnum rest = if_ok (λ n. record d { number = Some n }) (number_step d.number rest)
field_step d Attribute rest = if_ok (λ ps. record d { attrs = ps }) (pair_step d.attrs rest)
field_step d Property rest = if_ok (λ ps. record d { env = ps }) (pair_step d.env rest)
field_step d Stored rest = if_ok (λ ps. record d { stored = ps }) (pair_step d.stored rest)
field_step d Tag rest = if_ok (λ ts. record d { tags = ts }) (member_step d.tags rest)
field_step d Link rest = if_ok (λ ts. record d { links = ts }) (member_step d.links rest)

-- the lines so far; the last answer is apart while lines may be added to it
pub record Sofar : Type 0 where
  pub closed : List DeviceValue
  pub last : Option DeviceValue
  pub programs : List (Text × AnswerValue)
  pub pending : Option (Text × AnswerValue)
  pub asked : Option Text
  pub constants : List NameAndValue
  pub behind : BehindValue

-- what a contract sees of the lines about the last device
abbrev pub behind : Behind → BehindValue
behind b = record { has_command = b.has_command; property = option_map (λ t. t.now) b.property }

-- what a contract sees of a draft
abbrev pub sofar : Draft → Sofar
sofar d = record {
  closed = d.closed.items;
  last = d.last;
  programs = d.programs;
  pending = option_map (λ p. (p.0.now, p.1)) d.pending;
  asked = option_map (λ t. t.now) d.asked;
  constants = d.constants;
  behind = behind d.behind;
}

-- answers with one that was apart, if there is one
abbrev pub with_pending : List (Text × AnswerValue) → Option (Text × AnswerValue) → List (Text × AnswerValue)
with_pending programs None = programs
with_pending programs (Some program) = with_value programs program.0 program.1

-- the lines so far, with the last answer among the others
abbrev pub settled : Sofar → Sofar
settled s = record s { programs = with_pending s.programs s.pending; pending = None }

-- a device of which only the path is known
abbrev pub bare_device : Text → DeviceValue
bare_device path = record { path = path; subsystem = None; driver = None; node = None; number = None; attrs = []; env = []; stored = []; tags = []; links = [] }

-- a device begins
abbrev pub begun : Sofar → Text → Sofar
begun s path = record s { closed = s.closed ++ option_to_list s.last; last = Some (bare_device path) }

-- whether a device may begin
unfoldable pub path_step : ℕ → Option DeviceValue → Text → Result (Unit {0}) BlockFaultKind
path_step closed None path = if is_device_path path then Ok tt else Err Path
path_step closed (Some d) path = if nat_le 63 closed then Err TooDeep else (if is_parent_path d.path path then Ok tt else Err Path)

-- a line that begins a device
unfoldable pub device_step : Sofar → Text → Result Sofar BlockFaultKind
device_step s path = if_ok (λ _. begun s path) (path_step (length s.closed) s.last path)

-- a line about the device above, if there is one
unfoldable pub above_step : Option DeviceValue → DeviceField → Text → Result DeviceValue BlockFaultKind
above_step None field rest = Err NoDevice
above_step (Some d) field rest = field_step d field rest

-- a command, if it is new and not empty, and the next line answers it
unfoldable pub command_step : List (Text × AnswerValue) → Text → Bool → Result Text BlockFaultKind
command_step programs rest answered = if is_empty rest || not answered then Err Pair else (if named programs rest then Err Twice else Ok rest)

-- a command with its answer
abbrev pub with_answer : Text → Option AnswerValue → Result (Text × AnswerValue) BlockFaultKind
with_answer command None = Err Number
with_answer command (Some answer) = Ok (command, answer)

-- an answer to the command that was asked for right above
unfoldable pub answer_step : Option Text → Text → Result (Text × AnswerValue) BlockFaultKind
answer_step None rest = Err Pair
answer_step (Some command) rest = with_answer command (answer_of rest)

-- one more line of the answer right above
unfoldable pub output_step : Option (Text × AnswerValue) → Text → Result (Text × AnswerValue) BlockFaultKind
output_step None rest = Err Pair
output_step (Some program) rest = Ok (program.0, with_line rest program.1)

-- the lines so far, with no command waiting for its answer
abbrev pub unasked : Sofar → Sofar
unasked s = record s { asked = None }

-- a line that is not the first
unfoldable pub row_step : Sofar → LineKind → Text → Bool → Result Sofar BlockFaultKind
row_step s Action rest answered = if is_empty rest then Err Pair else Err Twice
row_step s Device rest answered = device_step (unasked (settled s)) rest
row_step s (Field field) rest answered = if_ok (λ d. record (settled s) { last = Some d; asked = None }) (above_step s.last field rest)
row_step s Constant rest answered = if_ok (λ ps. record (settled s) { constants = ps; asked = None }) (pair_step s.constants rest)
row_step s Command rest answered = if_ok (λ c. record (settled s) { asked = Some c }) (command_step (settled s).programs rest answered)
row_step s Answer rest answered = if_ok (λ p. record (settled s) { pending = Some p; asked = None }) (answer_step s.asked rest)
row_step s Output rest answered = if_ok (λ p. record s { pending = Some p; asked = None }) (output_step s.pending rest)

-- none of these lines has a NUL byte
abbrev pub HaveNoNul : List Text → Type 0
HaveNoNul lines = AllByRecursion (λ line. has_nul line ≡ false) lines

-- a line by its kind, unless it is not of a known kind
abbrev pub known_row : Option Row → Result Row BlockFaultKind
known_row None = Err Letter
known_row (Some row) = Ok row

-- a line by its kind, unless it has a NUL byte
unfoldable pub plain_row : Text → Result Row BlockFaultKind
plain_row line = if has_nul line then Err Nul else known_row (row_of line)

-- the lines so far, with what the last device has of properties behind commands
abbrev pub with_behind : BehindValue → Sofar → Sofar
with_behind behind s = record s { behind = behind }

-- a line by its kind after the lines so far
abbrev pub then_row : Sofar → Bool → Result Row BlockFaultKind → Result Sofar BlockFaultKind
then_row s answered (Err kind) = Err kind
then_row s answered (Ok row) = if_ok (with_behind (behind_after s.behind row.0 row.1)) (row_step s row.0 row.1 answered)

-- one line after those so far; whether the next one begins as an answer
unfoldable pub line_step : Sofar → Text → Bool → Result Sofar BlockFaultKind
line_step s line answered = then_row s answered (plain_row line)

-- the action of a first line of a kind
abbrev pub action_by : LineKind → Text → Result Text BlockFaultKind
action_by Action rest = if is_empty rest then Err NoAction else Ok rest
action_by Answer rest = Err Pair
action_by _ rest = Err NoAction

-- the action of the first line
abbrev pub action_in : Result Row BlockFaultKind → Result Text BlockFaultKind
action_in (Err kind) = Err kind
action_in (Ok row) = action_by row.0 row.1

-- the action of the first line, as it is in the block
unfoldable pub first_step : Text → Result Text BlockFaultKind
first_step line = action_in (plain_row line)

-- nothing has been read after the first line
abbrev pub nothing_read : Sofar
nothing_read = record { closed = []; last = None; programs = []; pending = None; asked = None; constants = []; behind = nothing_behind }

-- as `Fails` and `Gives`, with a line
abbrev pub unless_memory : BlockFaultKind → Type 0 → Type 0
unless_memory Memory P = Unit {0}
unless_memory _ P = P

-- a result is the one that is wanted, its line too, memory apart
abbrev pub GivesAt : {X Y : Type 0} → (X → Y) → Result X BlockFault → Result Y BlockFault → Type 0
GivesAt view (Ok x) wanted = wanted ≡ Ok (view x)
GivesAt view (Err fault) wanted = unless_memory fault.kind (wanted ≡ Err fault)

-- what follows a line, or the fault in it
abbrev pub then_steps : {Y : Type 0} → ℕ → (Sofar → Result Y BlockFault) → Result Sofar BlockFaultKind → Result Y BlockFault
then_steps line more (Err kind) = Err (record { line = line; kind = kind })
then_steps line more (Ok s) = more s

-- the lines after the first `above` ones, and how many lines there are in all
unfoldable pub steps : Sofar → ℕ → List Text → Result (Sofar × ℕ) BlockFault
steps s above [] = Ok (s, above)
steps s above (line ∷ below) = then_steps (above + 1) (λ t. steps t (above + 1) below) (line_step s line (begins_answer below))

-- the devices of the chain, if there is one
abbrev pub some_devices : List DeviceValue → Result (List DeviceValue) BlockFaultKind
some_devices [] = Err NoDevice
some_devices (device ∷ parents) = Ok (device ∷ parents)

-- the event with these devices
abbrev pub with_devices : Text → Sofar → ℕ → List DeviceValue → Result EventValue BlockFault
with_devices action s count [] = Err (record { line = count; kind = NoDevice })
with_devices action s count (device ∷ parents) =
    Ok (record {
      action = action;
      device = device;
      parents = parents;
      programs = s.programs;
      constants = s.constants;
      misplaced = s.behind.property;
      profile = Manual;
    })

-- the event of all lines
unfoldable pub finished_event : Text → Sofar → ℕ → Result EventValue BlockFault
finished_event action s count = with_devices action (settled s) count (s.closed ++ option_to_list s.last)

-- the event of the lines that were read, or their fault
abbrev pub then_finished : Text → Result (Sofar × ℕ) BlockFault → Result EventValue BlockFault
then_finished action (Err fault) = Err fault
then_finished action (Ok p) = finished_event action p.0 p.1

-- the event of the lines after the first, or the fault of the first
abbrev pub after_first : List Text → Result Text BlockFaultKind → Result EventValue BlockFault
after_first lines (Err kind) = Err (record { line = 1; kind = kind })
after_first lines (Ok action) = then_finished action (steps nothing_read 1 lines)

-- the event of the lines of a block, or the first fault
unfoldable pub read_lines : List Text → Result EventValue BlockFault
read_lines [] = Err (record { line = 1; kind = NoAction })
read_lines (line ∷ lines) = after_first lines (first_step line)
