-- What the lines of a block say. A line belongs to the last `P:` at or above it: the lines are cut
-- before each `P:`, and each group that begins with one describes a device.
use Rattle.std.specs.Prelude.{Bool, false, true, ◌&&◌, List, [], ◌∷◌, ◌++◌, ◌==◌, Option, Some, None, is_none, option_map, unwrap_or, map, fold, if◌then◌else◌}
use Rattle.std.specs.Option.{option_to_list}
use Rattle.std.specs.List.{filter_map, zip}
use Rattle.text_bytes.specs.Texts.{first}
use Rattle.text_bytes.specs.declared.profile.Profile.TheVariants.{Manual}
use Rattle.text_bytes.specs.Text.{Text}
use Rattle.text_tables.specs.Pairs.{Pair}
use Rattle.device_core.specs.Lines.{Row, letter_of}
use Rattle.device_core.specs.Parts.{pair_of, number_of, answer_of}
use Rattle.device_core.specs.Values.{NumberValue, DeviceValue, AnswerValue, EventValue, with_line}
use Rattle.device_core.specs.declared.lines.DeviceField.{DeviceField}
use Rattle.device_core.specs.declared.lines.DeviceField.TheVariants.{Subsystem, Driver, Node, Devnum, Attribute, Property, Stored, Tag, Link}
use Rattle.device_core.specs.declared.lines.LineKind.{LineKind}
use Rattle.device_core.specs.declared.lines.LineKind.TheVariants.{Action, Device, Field, Constant, Command, Answer, Output}

-- whether a line is of a kind
abbrev pub is_kind : LineKind → Row → Bool
is_kind kind row = letter_of row.0 == letter_of kind

-- what a line says, if it is of the kind
abbrev pub text_in : LineKind → Row → Option Text
text_in kind row = if is_kind kind row then Some row.1 else None

-- what the lines of a kind say, in order
unfoldable pub texts : LineKind → List Row → List Text
texts kind rows = filter_map (text_in kind) rows

-- the names and values that the lines of a kind give, in order
unfoldable pub pairs : LineKind → List Row → List Pair
pairs kind rows = filter_map pair_of (texts kind rows)

-- the device numbers that lines give, in order
unfoldable pub numbers : List Row → List NumberValue
numbers rows = filter_map number_of (texts (Field Devnum) rows)

-- the last of these, changed
abbrev pub change_last : {X : Type 0} → (X → X) → List X → List X
change_last f [] = []
change_last f (x ∷ []) = f x ∷ []
change_last f (x ∷ y ∷ ys) = x ∷ change_last f (y ∷ ys)

-- answers after one more line of a kind: an `R:` gives one more, and an `O:` gives the last one more line
abbrev pub answers_after : List AnswerValue → LineKind → Text → List AnswerValue
answers_after given Answer rest = given ++ option_to_list (answer_of rest)
answers_after given Output rest = change_last (with_line rest) given
answers_after given _ rest = given

-- the answers that lines give, in order
unfoldable pub answers : List Row → List AnswerValue
answers rows = fold (λ given row. answers_after given row.0 row.1) [] rows

-- the lines up to the next `P:`
unfoldable pub before_device : List Row → List Row
before_device [] = []
before_device (row ∷ rows) = if is_kind Device row then [] else row ∷ before_device rows

-- each `P:` with the lines up to the next
unfoldable pub groups : List Row → List (List Row)
groups [] = []
groups (row ∷ rows) = if is_kind Device row then (row ∷ before_device rows) ∷ groups rows else groups rows

-- the device that a group describes
unfoldable pub device : List Row → DeviceValue
device group = record {
  path = unwrap_or (first (texts Device group)) [];
  subsystem = first (texts (Field Subsystem) group);
  driver = first (texts (Field Driver) group);
  node = first (texts (Field Node) group);
  number = first (numbers group);
  attrs = pairs (Field Attribute) group;
  env = pairs (Field Property) group;
  stored = pairs (Field Stored) group;
  tags = texts (Field Tag) group;
  links = texts (Field Link) group;
}

-- the devices that lines describe
unfoldable pub devices : List Row → List DeviceValue
devices rows = map device (groups rows)

-- each command with its answer
unfoldable pub programs : List Row → List (Text × AnswerValue)
programs rows = zip (texts Command rows) (answers rows)

-- what the lines about the last device have: whether there is a command, and the name of the first property behind one
pub record BehindValue : Type 0 where
  pub has_command : Bool
  pub property : Option Text

-- no command, and nothing behind one
abbrev pub nothing_behind : BehindValue
nothing_behind = record { has_command = false; property = None }

-- that, after one more line about the device: a property counts if it is the first behind a command
abbrev pub behind_field : BehindValue → DeviceField → Text → BehindValue
behind_field behind Property rest =
    if behind.has_command && is_none behind.property then record { has_command = true; property = option_map (λ pair. pair.0) (pair_of rest) } else behind
behind_field behind _ rest = behind

-- that, after one more line: a device begins anew
abbrev pub behind_after : BehindValue → LineKind → Text → BehindValue
behind_after behind Device rest = nothing_behind
behind_after behind Command rest = record { has_command = true; property = behind.property }
behind_after behind (Field field) rest = behind_field behind field rest
behind_after behind _ rest = behind

-- that, after all lines
unfoldable pub behind_in : List Row → BehindValue
behind_in rows = fold (λ behind row. behind_after behind row.0 row.1) nothing_behind rows

-- the event with these devices that lines describe, none of which is faulty; rules are evaluated by the manual
unfoldable pub event : List Row → DeviceValue → List DeviceValue → EventValue
event rows device parents = record {
  action = unwrap_or (first (texts Action rows)) [];
  device = device;
  parents = parents;
  programs = programs rows;
  constants = pairs Constant rows;
  misplaced = (behind_in rows).property;
  profile = Manual;
}
