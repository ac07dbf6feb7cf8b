-- Serves inner proofs only: what is seen of an event before its rules run, and which rules this excludes.
use Rattle.std.specs.Prelude.{ℕ, ◌+◌, ◌==◌, Bool, true, false, not, List, [], ◌∷◌, map, position, slice_get, Option, Some, None, option_map}
use Rattle.std.specs.Option.{option_or}
use Rattle.text_bytes.specs.Text.{Text}
use Rattle.text_tables.specs.Texts.{same_text}
use Rattle.text_tables.specs.Pairs.{value_of}
use Rattle.text_core.specs.declared.item.Item.{Item}
use Rattle.rule_types.specs.declared.roles.MatchOperator.{MatchOperator}
use Rattle.rule_types.specs.declared.roles.MatchOperator.TheVariants.{Equal, NotEqual}
use Rattle.rule_types.specs.declared.roles.PlainKey.{PlainKey}
use Rattle.rule_types.specs.declared.roles.PlainKey.TheVariants as plain
use Rattle.rule_types.specs.declared.part.PlainMatch.{PlainMatch}
use Rattle.rule_types.specs.Rules.{Rule}
use Rattle.eval_core.specs.Sketches.{exact_head, exact_sketch, first_byte, sketch}
use Rattle.device_core.specs.Values.{DeviceValue, EventValue}
use Rattle.eval_state.specs.Chains.{kernel_of}
use Rattle.eval_state.specs.Texts.{or_empty}
use Rattle.text_bytes.specs.Texts.{trimmed}
use Rattle.eval_core.specs.declared.checks.Check.{Check}

-- the positions in what is seen of an event: the action, the kernel's name, the subsystem, the driver, the first byte of
-- the kernel's name, and the first attribute
abbrev pub action_slot : ℕ
action_slot = 0

abbrev pub kernel_slot : ℕ
kernel_slot = 1

abbrev pub subsystem_slot : ℕ
subsystem_slot = 2

abbrev pub driver_slot : ℕ
driver_slot = 3

abbrev pub kernel_head_slot : ℕ
kernel_head_slot = 4

abbrev pub first_attribute_slot : ℕ
first_attribute_slot = 5

-- at most how many attributes are looked up for each event
abbrev pub most_names : ℕ
most_names = 60

-- the position of an attribute in what is seen, by its place among the names
abbrev pub after_others : Option ℕ → Option ℕ
after_others None = None
after_others (Some place) = Some (place + first_attribute_slot)

-- the position of an attribute in what is seen
abbrev pub attribute_slot : List Text → Text → Option ℕ
attribute_slot names name = after_others (position (same_text name) names)

-- the position of what a key looks at in what is seen
abbrev pub slot_of : List Text → PlainKey → Option ℕ
slot_of names plain.Action = Some action_slot
slot_of names plain.Kernel = Some kernel_slot
slot_of names plain.Subsystem = Some subsystem_slot
slot_of names plain.Driver = Some driver_slot
slot_of names (plain.Attr name) = attribute_slot names name
slot_of names key = None

-- the position of the first byte of what a key looks at in what is seen
abbrev pub head_slot : PlainKey → Option ℕ
head_slot plain.Kernel = Some kernel_head_slot
head_slot key = None

-- a check, if both its parts are known
abbrev pub check_by : Option ℕ → Option ℕ → Option Check
check_by None wanted = None
check_by (Some slot) None = None
check_by (Some slot) (Some wanted) = Some (record { slot = slot; sketch = wanted })

-- the check of what a key looks at, by the text of a choice, or by the first byte of its pattern
abbrev pub choice_check : List Text → PlainKey → List (List Item) → Option Check
choice_check names key choice = option_or (check_by (slot_of names key) (exact_sketch choice)) (check_by (head_slot key) (exact_head choice))

-- a check of a match by `==`; one by `!=` has none
abbrev pub equal_check : MatchOperator → Option Check → Option Check
equal_check Equal check = check
equal_check NotEqual check = None

-- the check of a match
abbrev pub check_with : List Text → PlainMatch → Option Check
check_with names part = equal_check part.wanted.operator (choice_check names part.key part.wanted.choice)

-- the check of a rule with these matches of the event: by the first of them
abbrev pub check_in : List Text → List PlainMatch → Option Check
check_in names [] = None
check_in names (part ∷ parts) = check_with names part

-- the check of a rule
abbrev pub check_of : List Text → Rule → Option Check
check_of names r = check_in names r.plain

-- the sketch of an attribute of a device as it is compared, if it has one
abbrev pub attribute_seen : DeviceValue → Text → Option ℕ
attribute_seen device name = option_map (λ value. sketch (trimmed value)) (value_of device.attrs name)

-- what is seen of an event
abbrev pub seen : List Text → EventValue → List (Option ℕ)
seen names event =
    Some (sketch event.action) ∷ Some (sketch (kernel_of event.device))
    ∷ Some (sketch (or_empty event.device.subsystem)) ∷ Some (sketch (or_empty event.device.driver))
    ∷ Some (first_byte (kernel_of event.device)) ∷ map (attribute_seen event.device) names

-- whether what is seen is not what is wanted
abbrev pub is_other : ℕ → Option ℕ → Bool
is_other wanted None = true
is_other wanted (Some found) = not (found == wanted)

-- whether what is at a position is not what is wanted there; if nothing is known, nothing is said
abbrev pub differs : Option (Option ℕ) → ℕ → Bool
differs None wanted = false
differs (Some found) wanted = is_other wanted found

-- whether what is seen rules out that a check holds
abbrev pub is_ruled_out : List (Option ℕ) → Option Check → Bool
is_ruled_out seen None = false
is_ruled_out seen (Some check) = differs (slice_get seen check.slot) check.sketch
