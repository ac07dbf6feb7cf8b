-- The reader answers to a line of each kind what the definition says of it.
use Rattle.std.proofs.Common.{◌≡◌, Bool, true, false, not, ◌&&◌, ◌||◌, List, [], ◌∷◌, ◌++◌, length, Option, Some, None, is_some, is_none, Result, Ok, Err, nat_le, refl, ap, sym, ◌∙◌, if◌then◌else◌, arith}
use Rattle.std.proofs.lemmas.List.{append-nil, length-append}
use Rattle.std.specs.Option.{option_to_list}
use Rattle.text_bytes.specs.Texts.{first, is_empty}
use Rattle.text_bytes.specs.Text.{Text}
use Rattle.text_tables.specs.Texts.{is_among}
use Rattle.text_tables.specs.Pairs.{Pair as NameAndValue, named}
use Rattle.device_core.specs.Lines.{Row, begins_answer}
use Rattle.device_core.specs.Parts.{pair_of, number_of, answer_of, is_device_path, is_parent_path}
use Rattle.device_core.specs.Values.{NumberValue, DeviceValue, AnswerValue}
use Rattle.device_core.specs.Blocks.{is_kind, texts, answers, change_last, programs, devices}
use Rattle.device_core.specs.Faults.{device_above, is_wrong_number, is_half_field, has_field, has_name, first_of, row_fault}
use Rattle.device_core.specs.Steps.{if_ok, once_step, number_step, number_once, pair_step, with_pair, member_step, field_step, Sofar, bare_device, begun, unasked, settled, path_step, device_step, above_step, command_step, answer_step, output_step, with_answer, row_step}
use Rattle.device_core.specs.declared.lines.DeviceField.{DeviceField}
use Rattle.device_core.specs.declared.lines.DeviceField.TheVariants.{Subsystem, Driver, Node, Devnum, Attribute, Property, Stored, Tag, Link}
use Rattle.device_core.specs.declared.lines.LineKind.{LineKind}
use Rattle.device_core.specs.declared.lines.LineKind.TheVariants.{Action, Device, Field, Constant, Command, Answer, Output}
use Rattle.device_core.specs.declared.faults.BlockFaultKind.{BlockFaultKind}
use Rattle.device_core.specs.declared.faults.BlockFaultKind.TheVariants.{NoDevice, Twice, Path, Number, Pair, TooDeep}
use Rattle.device_core.proofs.Rows.{added, kept, with_row, devices_more, devices_begins, change_end}
use Rattle.device_core.proofs.Holding.{above_is, Holds, Agrees, IsQuiet, named_zip, still, constant_on, command_on, answer_on, output_on}

-- ---- a line about the device above

abbrev pub FieldAgrees : DeviceValue → Option BlockFaultKind → Result DeviceValue BlockFaultKind → Type 0
FieldAgrees wanted fault (Err kind) = fault ≡ Some kind
FieldAgrees wanted fault (Ok d) = (fault ≡ None) × (wanted ≡ d)

abbrev pub field_fault : List Row → DeviceValue → DeviceField → Text → Option BlockFaultKind
field_fault above d field rest = first_of ((is_wrong_number above (Field field) rest, Number) ∷ (is_half_field field rest, Pair) ∷ (has_field d field rest, Twice) ∷ [])

once_agrees : (set : Option Text → DeviceValue) (empty : Bool) (before : Option Text) (rest : Text)
    → FieldAgrees (set (kept before (Some rest))) (first_of ((false, Number) ∷ (empty, Pair) ∷ (is_some before, Twice) ∷ [])) (if_ok (λ t. set (Some t)) (if empty then Err Pair else (if is_some before then Err Twice else Ok rest)))
once_agrees set true before rest = refl
once_agrees set false None rest = (refl, refl)
once_agrees set false (Some x) rest = refl

number_agrees : (set : Option NumberValue → DeviceValue) (before number : Option NumberValue)
    → FieldAgrees (set (kept before number)) (first_of ((is_none number, Number) ∷ (false, Pair) ∷ (is_some before, Twice) ∷ [])) (if_ok (λ n. set (Some n)) (number_once before number))
number_agrees set before None = refl
number_agrees set None (Some n) = (refl, refl)
number_agrees set (Some m) (Some n) = refl

pair_by : (set : List NameAndValue → DeviceValue) (known : List NameAndValue) (pair : NameAndValue) (again : Bool)
    → FieldAgrees (set (known ++ pair ∷ [])) (first_of ((false, Number) ∷ (false, Pair) ∷ (again, Twice) ∷ [])) (if_ok set (if again then Err Twice else Ok (known ++ pair ∷ [])))
pair_by set known pair true = refl
pair_by set known pair false = (refl, refl)

pair_agrees : (set : List NameAndValue → DeviceValue) (known : List NameAndValue) (pair : Option NameAndValue)
    → FieldAgrees (set (added known pair)) (first_of ((false, Number) ∷ (is_none pair, Pair) ∷ (has_name known pair, Twice) ∷ [])) (if_ok set (with_pair known pair))
pair_agrees set known None = refl
pair_agrees set known (Some pair) = pair_by set known pair (named known pair.0)

member_agrees : (set : List Text → DeviceValue) (known : List Text) (rest : Text) (empty again : Bool)
    → FieldAgrees (set (known ++ rest ∷ [])) (first_of ((false, Number) ∷ (empty, Pair) ∷ (again, Twice) ∷ [])) (if_ok set (if empty then Err Pair else (if again then Err Twice else Ok (known ++ rest ∷ []))))
member_agrees set known rest true again = refl
member_agrees set known rest false true = refl
member_agrees set known rest false false = (refl, refl)

field_agrees : (above : List Row) (d : DeviceValue) (field : DeviceField) (rest : Text) → FieldAgrees (with_row d (Field field, rest)) (field_fault above d field rest) (field_step d field rest)
unfolding field_step once_step number_step pair_step member_step
field_agrees above d Subsystem rest = once_agrees (λ o. record d { subsystem = o }) (is_empty rest) d.subsystem rest
field_agrees above d Driver rest = once_agrees (λ o. record d { driver = o }) (is_empty rest) d.driver rest
field_agrees above d Node rest = once_agrees (λ o. record d { node = o }) (is_empty rest) d.node rest
field_agrees above d Devnum rest = number_agrees (λ o. record d { number = o }) d.number (number_of rest)
field_agrees above d Attribute rest = pair_agrees (λ ps. record d { attrs = ps }) d.attrs (pair_of rest)
field_agrees above d Property rest = pair_agrees (λ ps. record d { env = ps }) d.env (pair_of rest)
field_agrees above d Stored rest = pair_agrees (λ ps. record d { stored = ps }) d.stored (pair_of rest)
field_agrees above d Tag rest = member_agrees (λ ts. record d { tags = ts }) d.tags rest (is_empty rest) (is_among d.tags rest)
field_agrees above d Link rest = member_agrees (λ ts. record d { links = ts }) d.links rest (is_empty rest) (is_among d.links rest)

field_quiet : (field : DeviceField) (rest : Text) → IsQuiet (Field field, rest)
field_quiet Subsystem rest = record { no_action = refl; no_constant = refl; no_command = refl; no_answer = λ given. refl; no_output = refl }
field_quiet Driver rest = record { no_action = refl; no_constant = refl; no_command = refl; no_answer = λ given. refl; no_output = refl }
field_quiet Node rest = record { no_action = refl; no_constant = refl; no_command = refl; no_answer = λ given. refl; no_output = refl }
field_quiet Devnum rest = record { no_action = refl; no_constant = refl; no_command = refl; no_answer = λ given. refl; no_output = refl }
field_quiet Attribute rest = record { no_action = refl; no_constant = refl; no_command = refl; no_answer = λ given. refl; no_output = refl }
field_quiet Property rest = record { no_action = refl; no_constant = refl; no_command = refl; no_answer = λ given. refl; no_output = refl }
field_quiet Stored rest = record { no_action = refl; no_constant = refl; no_command = refl; no_answer = λ given. refl; no_output = refl }
field_quiet Tag rest = record { no_action = refl; no_constant = refl; no_command = refl; no_answer = λ given. refl; no_output = refl }
field_quiet Link rest = record { no_action = refl; no_constant = refl; no_command = refl; no_answer = λ given. refl; no_output = refl }

field_no_device : (field : DeviceField) (rest : Text) → is_kind Device (Field field, rest) ≡ false
field_no_device Subsystem rest = refl
field_no_device Driver rest = refl
field_no_device Node rest = refl
field_no_device Devnum rest = refl
field_no_device Attribute rest = refl
field_no_device Property rest = refl
field_no_device Stored rest = refl
field_no_device Tag rest = refl
field_no_device Link rest = refl

field_fault_is : (above : List Row) (field : DeviceField) (rest : Text) (below : List Text) (d : DeviceValue) → is_empty above ≡ false → device_above above ≡ Some d → row_fault above (Field field) rest below ≡ field_fault above d field rest
unfolding row_fault
field_fault_is above field rest below d begun is = rw (begun, is) refl

field_fault_none : (above : List Row) (field : DeviceField) (rest : Text) (below : List Text) → is_empty above ≡ false → device_above above ≡ None → row_fault above (Field field) rest below ≡ Some NoDevice
unfolding row_fault
field_fault_none above field rest below begun is = rw (begun, is) refl

module _ (above : List Row) (action : Text) (s : Sofar) (below : List Text) (h : Holds above action s) where
  field_step_on : (field : DeviceField) (rest : Text) (d : DeviceValue) → s.last ≡ Some d → s.asked ≡ None → (r : Result DeviceValue BlockFaultKind) → FieldAgrees (with_row d (Field field, rest)) (field_fault above d field rest) r
      → Agrees (above ++ (Field field, rest) ∷ []) action below (row_fault above (Field field) rest below) (if_ok (λ e. record (settled s) { last = Some e; asked = None }) r)
  field_step_on field rest d is idle (Err kind) agrees = field_fault_is above field rest below d h.begun_are (above_is above action s h ∙ is) ∙ agrees
  field_step_on field rest d is idle (Ok e) agrees =
      let row : Row = (Field field, rest) in
      let are : devices (above ++ row ∷ []) ≡ s.closed ++ e ∷ [] = devices_more above row (field_no_device field rest) ∙ ap (change_last (λ x. with_row x row)) (h.devices_are ∙ ap (λ o. s.closed ++ option_to_list o) is) ∙ change_end (λ x. with_row x row) s.closed d ∙ ap (λ x. s.closed ++ x ∷ []) agrees.1 in
      (field_fault_is above field rest below d h.begun_are (above_is above action s h ∙ is) ∙ agrees.0, still above action s h row (field_quiet field rest) idle s.closed e are, tt)

  field_row : (field : DeviceField) (rest : Text) → s.asked ≡ None → (o : Option DeviceValue) → s.last ≡ o
      → Agrees (above ++ (Field field, rest) ∷ []) action below (row_fault above (Field field) rest below) (if_ok (λ e. record (settled s) { last = Some e; asked = None }) (above_step o field rest))
  unfolding above_step
  field_row field rest idle None is = field_fault_none above field rest below h.begun_are (above_is above action s h ∙ is)
  field_row field rest idle (Some d) is = field_step_on field rest d is idle (field_step d field rest) (field_agrees above d field rest)

  -- ---- a device

  deep_is : (ds : List DeviceValue) (d : DeviceValue) → nat_le 64 (length (ds ++ d ∷ [])) ≡ nat_le 63 (length ds)
  deep_is ds d = rw (length-append ds (d ∷ [])) (grind arith)

  device_fault_first : (rest : Text) → s.last ≡ None → row_fault above Device rest below ≡ (if not (is_device_path rest) then Some Path else None)
  unfolding row_fault
  device_fault_first rest is =
      let none : devices above ≡ [] = h.devices_are ∙ (λ i. h.alone is i ++ option_to_list (is i)) in
      rw (h.begun_are, none, above_is above action s h ∙ is) refl

  device_fault_more : (rest : Text) (d : DeviceValue) → s.last ≡ Some d → row_fault above Device rest below ≡ (if nat_le 63 (length s.closed) then Some TooDeep else (if not (is_parent_path d.path rest) then Some Path else None))
  unfolding row_fault
  device_fault_more rest d is =
      let are : devices above ≡ s.closed ++ d ∷ [] = h.devices_are ∙ ap (λ o. s.closed ++ option_to_list o) is in
      rw (h.begun_are, are, deep_is s.closed d, above_is above action s h ∙ is) refl

  begun_on : (rest : Text) → s.asked ≡ None → Holds (above ++ (Device, rest) ∷ []) action (begun (unasked (settled s)) rest)
  begun_on rest idle = still above action s h (Device, rest) (record { no_action = refl; no_constant = refl; no_command = refl; no_answer = λ given. refl; no_output = refl }) idle (s.closed ++ option_to_list s.last) (bare_device rest) (devices_begins above rest ∙ ap (λ ds. ds ++ bare_device rest ∷ []) h.devices_are)

  device_row : (rest : Text) → s.asked ≡ None → (o : Option DeviceValue) → s.last ≡ o
      → Agrees (above ++ (Device, rest) ∷ []) action below (row_fault above Device rest below) (if_ok (λ _. begun (unasked (settled s)) rest) (path_step (length s.closed) o rest))
  unfolding path_step
  device_row rest idle None is = by (is_device_path rest) (device_fault_first rest is) (begun_on rest idle)
    where
      by : (t : Bool) → row_fault above Device rest below ≡ (if not t then Some Path else None) → Holds (above ++ (Device, rest) ∷ []) action (begun (unasked (settled s)) rest)
          → Agrees (above ++ (Device, rest) ∷ []) action below (row_fault above Device rest below) (if_ok {X = Unit {0}} (λ _. begun (unasked (settled s)) rest) (if t then Ok tt else Err Path))
      by true e on = (e, on, tt)
      by false e on = e
  device_row rest idle (Some d) is = by (nat_le 63 (length s.closed)) (is_parent_path d.path rest) (device_fault_more rest d is) (begun_on rest idle)
    where
      by : (u t : Bool) → row_fault above Device rest below ≡ (if u then Some TooDeep else (if not t then Some Path else None)) → Holds (above ++ (Device, rest) ∷ []) action (begun (unasked (settled s)) rest)
          → Agrees (above ++ (Device, rest) ∷ []) action below (row_fault above Device rest below) (if_ok {X = Unit {0}} (λ _. begun (unasked (settled s)) rest) (if u then Err TooDeep else (if t then Ok tt else Err Path)))
      by true t e on = e
      by false true e on = (e, on, tt)
      by false false e on = e

  -- ---- the action, constants, commands and answers

  filled_first : (xs : List Text) → first xs ≡ Some action → is_empty xs ≡ false
  filled_first [] e = cc
  filled_first (x ∷ xs) e = refl

  action_fault : (rest : Text) → row_fault above Action rest below ≡ (if is_empty rest then Some Pair else Some Twice)
  unfolding row_fault
  action_fault rest = rw (h.begun_are, filled_first (texts Action above) h.acted) refl

  action_row : (rest : Text) (more : List Row) → Agrees more action below (row_fault above Action rest below) (if is_empty rest then Err Pair else Err Twice)
  action_row rest more = by (is_empty rest) (action_fault rest)
    where
      by : (t : Bool) → row_fault above Action rest below ≡ (if t then Some Pair else Some Twice) → Agrees more action below (row_fault above Action rest below) (if t then Err Pair else Err Twice)
      by true e = e
      by false e = e

  constant_fault : (rest : Text) → row_fault above Constant rest below ≡ (if is_none (pair_of rest) then Some Pair else (if has_name s.constants (pair_of rest) then Some Twice else None))
  unfolding row_fault
  constant_fault rest = rw (h.begun_are, h.constants_are) refl

  constant_named : (rest : Text) (pair : NameAndValue) → pair_of rest ≡ Some pair → s.asked ≡ None → (t : Bool) → row_fault above Constant rest below ≡ (if t then Some Twice else None)
      → Agrees (above ++ (Constant, rest) ∷ []) action below (row_fault above Constant rest below) (if_ok (λ ps. record (settled s) { constants = ps; asked = None }) (if t then Err Twice else Ok (s.constants ++ pair ∷ [])))
  constant_named rest pair is idle true e = e
  constant_named rest pair is idle false e = (e, constant_on above action s h rest pair is idle, tt)

  constant_row : (rest : Text) → s.asked ≡ None → (o : Option NameAndValue) → pair_of rest ≡ o
      → row_fault above Constant rest below ≡ (if is_none o then Some Pair else (if has_name s.constants o then Some Twice else None))
      → Agrees (above ++ (Constant, rest) ∷ []) action below (row_fault above Constant rest below) (if_ok (λ ps. record (settled s) { constants = ps; asked = None }) (with_pair s.constants o))
  constant_row rest idle None is e = e
  constant_row rest idle (Some pair) is e = constant_named rest pair is idle (named s.constants pair.0) e

  command_fault : (rest : Text) → s.asked ≡ None → row_fault above Command rest below ≡ (if is_empty rest || not (begins_answer below) then Some Pair else (if named (settled s).programs rest then Some Twice else None))
  unfolding row_fault
  command_fault rest idle =
      let are : texts Command above ≡ h.answered = h.asked_are ∙ ap (λ o. h.answered ++ option_to_list o) idle ∙ append-nil h.answered in
      let same : is_among (texts Command above) rest ≡ named (settled s).programs rest = ap (λ ts. is_among ts rest) are ∙ sym (named_zip h.answered (answers above) rest h.as_many) ∙ ap (λ ps. named ps rest) h.programs_are in
      rw (h.begun_are, same) refl

  command_row : (rest : Text) → s.asked ≡ None → (empty next again : Bool) → begins_answer below ≡ next → named (settled s).programs rest ≡ again
      → row_fault above Command rest below ≡ (if empty || not next then Some Pair else (if again then Some Twice else None))
      → Agrees (above ++ (Command, rest) ∷ []) action below (row_fault above Command rest below) (if_ok (λ c. record (settled s) { asked = Some c }) (if empty || not next then Err Pair else (if again then Err Twice else Ok rest)))
  command_row rest idle true next again n a e = e
  command_row rest idle false false again n a e = e
  command_row rest idle false true true n a e = e
  command_row rest idle false true false n a e = (e, command_on above action s h rest a idle, n)

  answer_fault : (rest : Text) → row_fault above Answer rest below ≡ (if is_some s.asked && is_none (answer_of rest) then Some Number else (if not (is_some s.asked) then Some Pair else None))
  unfolding row_fault
  answer_fault rest = rw h.follows refl

  answer_known : (rest command : Text) (o : Option AnswerValue) → s.asked ≡ Some command → answer_of rest ≡ o
      → row_fault above Answer rest below ≡ (if is_none o then Some Number else None)
      → Agrees (above ++ (Answer, rest) ∷ []) action below (row_fault above Answer rest below) (if_ok (λ p. record (settled s) { pending = Some p; asked = None }) (with_answer command o))
  answer_known rest command None waits is e = e
  answer_known rest command (Some answer) waits is e = (e, answer_on above action s h rest command answer is waits, tt)

  answer_row : (rest : Text) (o : Option Text) → s.asked ≡ o
      → row_fault above Answer rest below ≡ (if is_some o && is_none (answer_of rest) then Some Number else (if not (is_some o) then Some Pair else None))
      → Agrees (above ++ (Answer, rest) ∷ []) action below (row_fault above Answer rest below) (if_ok (λ p. record (settled s) { pending = Some p; asked = None }) (answer_step o rest))
  unfolding answer_step
  answer_row rest None waits e = e
  answer_row rest (Some command) waits e = answer_known rest command (answer_of rest) waits refl (e ∙ both (is_none (answer_of rest)))
    where
      both : (t : Bool) → (if t then Some Number else None) ≡ (if t then Some Number else None)
      both t = refl

  output_fault : (rest : Text) → row_fault above Output rest below ≡ (if not (is_some s.pending) then Some Pair else None)
  unfolding row_fault
  output_fault rest = rw (h.begun_are, h.prints) refl

  output_row : (rest : Text) → s.asked ≡ None → (o : Option (Text × AnswerValue)) → s.pending ≡ o
      → row_fault above Output rest below ≡ (if not (is_some o) then Some Pair else None)
      → Agrees (above ++ (Output, rest) ∷ []) action below (row_fault above Output rest below) (if_ok (λ p. record s { pending = Some p; asked = None }) (output_step o rest))
  unfolding output_step
  output_row rest idle None is e = e
  output_row rest idle (Some p) is e = (e, output_on above action s h rest p is idle, tt)

-- if an answer has to come, no other kind of line does
abbrev pub NoneWaits : Option Text → LineKind → Type 0
NoneWaits asked Answer = Unit {0}
NoneWaits asked _ = asked ≡ None

pub row_agrees : (above : List Row) (action : Text) (s : Sofar) (kind : LineKind) (rest : Text) (below : List Text) → Holds above action s → NoneWaits s.asked kind
    → Agrees (above ++ (kind, rest) ∷ []) action below (row_fault above kind rest below) (row_step s kind rest (begins_answer below))
unfolding row_step device_step pair_step command_step
row_agrees above action s Action rest below h idle = action_row above action s below h rest (above ++ (Action, rest) ∷ [])
row_agrees above action s Device rest below h idle = device_row above action s below h rest idle s.last refl
row_agrees above action s (Field field) rest below h idle = field_row above action s below h field rest idle s.last refl
row_agrees above action s Constant rest below h idle = constant_row above action s below h rest idle (pair_of rest) refl (constant_fault above action s below h rest)
row_agrees above action s Command rest below h idle = command_row above action s below h rest idle (is_empty rest) (begins_answer below) (named (settled s).programs rest) refl refl (command_fault above action s below h rest idle)
row_agrees above action s Answer rest below h idle = answer_row above action s below h rest s.asked refl (answer_fault above action s below h rest)
row_agrees above action s Output rest below h idle = output_row above action s below h rest idle s.pending refl (output_fault above action s below h rest)
