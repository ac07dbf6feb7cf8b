-- The texts of an event are parts of its lines, and those of its block.
use Rattle.std.proofs.Common.{◌≡◌, ℕ, ◌+◌, ◌≤◌, Bool, true, false, ◌&&◌, ◌==◌, List, [], ◌∷◌, length, map, Option, Some, None, Result, Ok, Err, unwrap_or, refl, ap, sym, ◌∙◌, if◌then◌else◌, option_map, arith}
use Rattle.std.proofs.lemmas.List.Sums.{sum_by-cons}
use Rattle.std.specs.Option.{option_and_then}
use Rattle.std.specs.List.{sum_by, zip, onto_first}
use Rattle.text_bytes.specs.Names.{newline, colon, space}
use Rattle.text_bytes.specs.Texts.{first, is_empty}
use Rattle.text_bytes.specs.Lines.{lines}
use Rattle.text_bytes.specs.Text.{Text}
use Rattle.device_core.specs.Values.{NumberValue, DeviceValue, AnswerValue, EventValue}
use Rattle.device_core.specs.Lines.{Row, kind_of, row_from, row_of}
use Rattle.device_core.specs.Blocks.{is_kind, texts, pairs, numbers, answers, before_device, groups, device, devices, programs, event}
use Rattle.device_core.specs.RunBlocks.{is_too_long}
use Rattle.device_core.specs.Faults.{given_by, block_gives}
use Rattle.eval_laws.specs.DeviceWeights.{text_weight, given_weight, number_weight, device_weight, devices_weight, answer_weight, event_weight}
use Rattle.eval_laws.specs.DeviceLaws.{rows_of, has_device}
use Rattle.device_core.specs.declared.lines.DeviceField.TheVariants.{Subsystem, Driver, Node}
use Rattle.device_core.specs.declared.lines.LineKind.{LineKind}
use Rattle.device_core.specs.declared.lines.LineKind.TheVariants.{Action, Device, Field, Command}
use Rattle.device_core.specs.declared.faults.BlockFault.{BlockFault}
use Rattle.eval_laws.proofs.LeastFault.{event_says, is_there, devices_there}
use Rattle.eval_laws.proofs.RowWeights.{answer_own, answers_light, device_rows, device_rows_one, first_light, load, number_own, one_more, option_weight, other_rows, slack}

-- ---- a device and its group

given_light : (ts : List Text) → given_weight (first ts) ≤ sum_by text_weight ts
given_light [] = omega arith
given_light (t ∷ ts) = first_light text_weight (t ∷ ts)

number_first : (ns : List NumberValue) → number_weight (first ns) ≤ sum_by number_own ns
number_first [] = omega arith
number_first (n ∷ ns) = first_light number_own (n ∷ ns)

path_first : (ts : List Text) → is_empty ts ≡ false → text_weight (unwrap_or (first ts) []) ≤ sum_by text_weight ts
path_first [] h = cc
path_first (t ∷ ts) h = first_light text_weight (t ∷ ts)

path_there : (row : Row) (rows : List Row) → is_kind Device row ≡ true → is_empty (texts Device (row ∷ rows)) ≡ false
unfolding texts
path_there row rows h = rw h refl

device_light : (row : Row) (rows : List Row) → is_kind Device row ≡ true → device_weight (device (row ∷ rows)) ≤ device_rows (row ∷ rows)
unfolding device_weight device device_rows
device_light row rows h =
    let a = path_first (texts Device (row ∷ rows)) (path_there row rows h) in
    let b = given_light (texts (Field Subsystem) (row ∷ rows)) in
    let c = given_light (texts (Field Driver) (row ∷ rows)) in
    let d = given_light (texts (Field Node) (row ∷ rows)) in
    let e = number_first (numbers (row ∷ rows)) in
    omega (arith, a, b, c, d, e)

none_light : device_rows [] ≡ 0
unfolding device_rows texts pairs numbers
none_light = refl

devices_light : (rows : List Row) → devices_weight (devices rows) + device_rows (before_device rows) ≤ device_rows rows
unfolding devices groups before_device
devices_light [] = omega (arith, none_light)
devices_light (row ∷ rows) = by (is_kind Device row) refl (devices_light rows)
  where
    by : (b : Bool) → is_kind Device row ≡ b → devices_weight (map device (groups rows)) + device_rows (before_device rows) ≤ device_rows rows
        → devices_weight (map device (if b then (row ∷ before_device rows) ∷ groups rows else groups rows)) + device_rows (if b then [] else row ∷ before_device rows) ≤ device_rows (row ∷ rows)
    by true e more =
        let a = device_light row (before_device rows) e in
        let b = device_rows_one row (before_device rows) in
        let c = device_rows_one row rows in
        let d = sum_by-cons device_weight (device (row ∷ before_device rows)) (map device (groups rows)) in
        omega (arith, a, b, c, d, more, none_light)
    by false e more =
        let b = device_rows_one row (before_device rows) in
        let c = device_rows_one row rows in
        omega (arith, b, c, more)

-- ---- the event

action_light : (ts : List Text) → text_weight (unwrap_or (first ts) []) ≤ sum_by text_weight ts + 1
action_light [] = omega arith
action_light (t ∷ ts) = let all = first_light text_weight (t ∷ ts) in omega (arith, all)

zip_light : (cs : List Text) (given : List AnswerValue) → sum_by answer_weight (zip cs given) ≤ sum_by text_weight cs + sum_by answer_own given
zip_light [] given = omega arith
zip_light (c ∷ cs) [] = omega arith
zip_light (c ∷ cs) (a ∷ given) =
    let x = sum_by-cons answer_weight (c, a) (zip cs given) in
    let y = sum_by-cons text_weight c cs in
    let z = sum_by-cons answer_own a given in
    let more = zip_light cs given in
    omega (arith, x, y, z, more)

event_light : (rows : List Row) (d : DeviceValue) (ds : List DeviceValue) → has_device rows ≡ true → d ∷ ds ≡ devices rows → event_weight (event rows d ds) ≤ sum_by load rows
unfolding event_weight event programs other_rows
event_light rows d ds some are =
    let a = action_light (texts Action rows) in
    let b : devices_weight (d ∷ ds) ≡ devices_weight (devices rows) = ap devices_weight are in
    let c = devices_light rows in
    let e = zip_light (texts Command rows) (answers rows) in
    let f = slack rows some in
    let g = answers_light rows in
    omega (arith, a, b, c, e, f, g)

-- ---- the lines of a block

row_light : (line : Text) → option_weight load (row_of line) ≤ length line
unfolding row_of
row_light [] = omega arith
row_light (a ∷ []) = omega arith
row_light (a ∷ b ∷ []) = omega arith
row_light (a ∷ b ∷ c ∷ rest) = by (b == colon && c == space)
  where
    known : (o : Option LineKind) → option_weight load (option_map (λ kind. (kind, rest)) o) ≤ length (a ∷ b ∷ c ∷ rest)
    known None = omega arith
    known (Some kind) = omega arith

    by : (t : Bool) → option_weight load (option_and_then row_from (if t then Some (a, rest) else None)) ≤ length (a ∷ b ∷ c ∷ rest)
    by false = omega arith
    by true = known (kind_of a)

rows_in : (ls : List Text) → sum_by load (rows_of ls) ≤ sum_by length ls
rows_in [] = omega arith
rows_in (line ∷ below) =
    let a = one_more load (row_of line) (rows_of below) in
    let b = row_light line in
    let c = sum_by-cons length line below in
    let more = rows_in below in
    omega (arith, a, b, c, more)

onto_light : (b : ℕ) (ls : List Text) → sum_by length (onto_first b ls) ≡ sum_by length ls + 1
onto_light b [] = refl
onto_light b (line ∷ below) = let x = sum_by-cons length (b ∷ line) below in let y = sum_by-cons length line below in omega (arith, x, y)

lines_in : (text : Text) → sum_by length (lines text) ≤ length text
lines_in [] = omega arith
lines_in (b ∷ text) = by (b == newline) (lines_in text)
  where
    by : (t : Bool) → sum_by length (lines text) ≤ length text → sum_by length (if t then [] ∷ lines text else onto_first b (lines text)) ≤ length (b ∷ text)
    by true more = let x = sum_by-cons length [] (lines text) in omega (arith, x, more)
    by false more = let x = onto_light b (lines text) in omega (arith, x, more)

given_from : (t : Bool) (fault : BlockFault) (whole : Result EventValue BlockFault) (given : EventValue) → (if t then Err fault else whole) ≡ Ok given → whole ≡ Ok given
given_from true fault whole given e = cc
given_from false fault whole given e = e

from_block : (block : Text) (given : EventValue) → block_gives block ≡ Ok given → given_by (lines block) ≡ Ok given
unfolding block_gives
from_block block given e = given_from (is_too_long block) _ (given_by (lines block)) given e

-- an event weighs no more than its block has bytes
pub event_within : (block : Text) (given : EventValue) → block_gives block ≡ Ok given → event_weight given ≤ length block
event_within block given e =
    let from = from_block block given e in
    let says = event_says (lines block) given from in
    let some : has_device (rows_of (lines block)) ≡ true = sym (devices_there (rows_of (lines block))) ∙ ap is_there (sym says.0) in
    let a = event_light (rows_of (lines block)) given.device given.parents some says.0 in
    let b = ap event_weight says.1 in
    let c = rows_in (lines block) in
    let d = lines_in block in
    omega (arith, a, b, c, d)
