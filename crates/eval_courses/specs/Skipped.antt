-- How a rule that is skipped ended, though all its keys would let it go on: what of it does nothing, and why.
use Rattle.std.specs.Prelude.{Bool, ◌&&◌, if◌then◌else◌, List, [], ◌∷◌, ◌++◌, map, codes}
use Rattle.text_bytes.specs.Texts.{is_empty}
use Rattle.text_bytes.specs.Text.{Text}
use Rattle.rule_types.specs.declared.part.Change.{Change}
use Rattle.rule_types.specs.declared.part.Change.TheVariants as change
use Rattle.rule_types.specs.declared.roles.Target.{Target}
use Rattle.rule_types.specs.declared.roles.Target.TheVariants as target
use Rattle.rule_types.specs.Rules.{Rule}
use Rattle.device_core.specs.Values.{EventValue}
use Rattle.eval_effects.specs.Named.{change_key}
use Rattle.eval_effects.specs.Shown.{joined}
use Rattle.eval_rules.specs.Idle.{applies}

-- what a key that does not apply to a device needs: NAME an interface, and those of the node a number
abbrev pub need_of : Target → Text
need_of target.Name = codes "without an interface (IFINDEX)"
need_of about = codes "without a device number"

-- why a text that does not count for an event does nothing: its key does not apply to the device, or the device is
-- removed
abbrev pub cause_for : Target → EventValue → Text
cause_for about event = if applies about event.device then codes "when the device is removed" else need_of about

-- why an assignment that does not count for an event does nothing: an option that is ignored does nothing at any event
abbrev pub cause_of : Change → EventValue → Text
cause_of (change.Text about template) event = cause_for about event
cause_of c event = codes "at an event"

-- an assignment that does not count for an event, and why
abbrev pub skipped_change : EventValue → Change → Text
skipped_change event c = change_key c ++ codes " does nothing " ++ cause_of c event

-- what of a rule does nothing, by what is said of each assignment
abbrev pub skipped_by : List Text → Text
skipped_by [] = codes "skipped: nothing is assigned"
skipped_by (text ∷ more) = codes "skipped: " ++ joined (text ∷ more)

-- whether a rule has neither keys nor assignments, as one that is only a label
abbrev pub is_bare : Rule → Bool
is_bare r = is_empty r.plain && (is_empty r.up && (is_empty r.acts && (is_empty r.results && is_empty r.sets)))

-- how a rule that is skipped ended, if all its keys would let it go on: nothing is skipped of one that has no keys and
-- no assignments
unfoldable pub skipped_text : Rule → EventValue → Text
skipped_text r event = if is_bare r then codes "reached its end" else skipped_by (map (λ a. skipped_change event a.change) r.sets)
