-- What a match met: whether it holds, and what it looked at.
use Rattle.std.specs.Prelude.{Bool, true, false, List, [], ◌∷◌, ◌++◌, Option, Some, None, codes, flat_map}
use Rattle.text_bytes.specs.Names.{space}
use Rattle.text_bytes.specs.Text.{Text}
use Rattle.rule_types.specs.declared.part.Comparison.{Comparison}
use Rattle.rule_types.specs.declared.part.PlainMatch.{PlainMatch}
use Rattle.eval_state.specs.declared.state.State.{State}
use Rattle.eval_rendering.specs.Holding.{Subject, one, attribute, constant, members, never, unread, udev_attribute}
use Rattle.eval_rendering.specs.Holding.{udev_members, udev_subsystem, udev_unread, holds}
use Rattle.eval_rendering.specs.Subjects.{plain_subject}
use Rattle.eval_effects.specs.Shown.{shown}
use Rattle.eval_courses.specs.Keys.{plain_key, result_key}

-- whether a rule goes on after a key
abbrev pub met : Bool → Text
met true = codes ": holds, "
met false = codes ": fails, "

-- a text that may be absent
abbrev pub value_report : Option Text → Text
value_report None = codes "none"
value_report (Some text) = shown text

-- texts, with spaces between
abbrev pub members_report : List Text → Text
members_report [] = codes "none"
members_report (text ∷ others) = shown text ++ flat_map (λ other. space ∷ shown other) others

-- what a match looked at
abbrev pub looked : Subject → Text
looked (one text) = shown text
looked (attribute value) = value_report value
looked (constant value) = value_report value
looked (members texts) = members_report texts
looked never = codes "unknown"
looked unread = codes "not read"
looked (udev_subsystem text) = shown text
looked (udev_attribute value) = value_report value
looked (udev_members texts) = members_report texts
looked udev_unread = codes "not in the block"

-- a match of the event, and what it met
unfoldable pub plain_report : PlainMatch → State → Text
plain_report part state = plain_key part ++ met (holds (plain_subject part.key state) part.wanted) ++ looked (plain_subject part.key state)

-- a match of the result of the last program, and what it met
unfoldable pub result_report : Comparison → State → Text
result_report part state = result_key part ++ met (holds (one state.result) part) ++ shown state.result
