-- Rules that udev skips before it looks at their matches, since nothing in them counts for the event.
use Rattle.std.specs.Prelude.{Bool, true, false, not, ◌&&◌, ◌||◌, if◌then◌else◌, is_some, fold}
use Rattle.std.specs.List.{list_any}
use Rattle.text_bytes.specs.declared.profile.Profile.{Profile}
use Rattle.text_bytes.specs.declared.profile.Profile.TheVariants.{Manual, Udev}
use Rattle.rule_types.specs.declared.roles.Target.{Target}
use Rattle.rule_types.specs.declared.roles.Target.TheVariants as target
use Rattle.rule_types.specs.declared.rule_option.RuleOption.TheVariants.{Ignored}
use Rattle.rule_types.specs.declared.part.Assignment.{Assignment}
use Rattle.rule_types.specs.declared.part.Change.{Change}
use Rattle.rule_types.specs.declared.part.Change.TheVariants as change
use Rattle.rule_types.specs.declared.part.ActKind.{ActKind}
use Rattle.rule_types.specs.declared.part.ActKind.TheVariants as act_kind
use Rattle.rule_types.specs.Rules.{Rule}
use Rattle.device_core.specs.Values.{DeviceValue, EventValue}
use Rattle.eval_state.specs.declared.scene.Scene.{Scene}
use Rattle.eval_acts.specs.Stored.{is_removal}
use Rattle.eval_assignments.specs.Names.{is_interface}
use Rattle.eval_assignments.specs.Steps.{set_step}

-- whether a key is one of the device's node or its name
abbrev pub is_of_device : Target → Bool
is_of_device target.Owner = true
is_of_device target.Group = true
is_of_device target.Mode = true
is_of_device target.Symlink = true
is_of_device target.Name = true
is_of_device t = false

-- whether a key applies to a device: those of its node if it has a number, its name if it is an interface, any other
-- to all
abbrev pub applies : Target → DeviceValue → Bool
applies target.Owner device = is_some device.number
applies target.Group device = is_some device.number
applies target.Mode device = is_some device.number
applies target.Symlink device = is_some device.number
applies target.Name device = is_interface device
applies t device = true

-- whether an assignment of a text counts for an event: its key applies to the device, and is not one of the node or
-- the name of a device that is removed
abbrev pub text_counts : Target → EventValue → Bool
text_counts about event = applies about event.device && not (is_of_device about && is_removal event)

-- whether an assignment counts for an event: an option that is ignored does not
abbrev pub change_counts : Change → EventValue → Bool
change_counts (change.Option Ignored) event = false
change_counts (change.Option known) event = true
change_counts (change.Text about template) event = text_counts about event
change_counts (change.Run braces template) event = true

-- whether an act counts: TEST only asks
abbrev pub act_kind_counts : ActKind → Bool
act_kind_counts (act_kind.Test mask template) = false
act_kind_counts d = true

-- whether something in a rule counts for an event: its GOTO, what acts, or an assignment
abbrev pub something_counts : Rule → EventValue → Bool
something_counts r event =
    is_some r.goto || (list_any (λ act. act_kind_counts act.kind) r.acts || list_any (λ a. change_counts a.change event) r.sets)

-- whether a rule is skipped: by the manual none is, for udev one in which nothing counts for the event
unfoldable pub is_idle_by : Profile → Rule → EventValue → Bool
is_idle_by Manual r event = false
is_idle_by Udev r event = not (something_counts r event)

-- whether a rule is skipped at an event
abbrev pub is_idle : Rule → EventValue → Bool
is_idle r event = is_idle_by event.profile r event

-- whether an assignment is one whose key applies to a device
abbrev pub change_applies : Change → DeviceValue → Bool
change_applies (change.Text about template) device = applies about device
change_applies c device = true

-- an assignment of a rule that is skipped: if its key does not apply to the device, it leaves its note; otherwise it
-- has no effect
abbrev pub note_step : Rule → Scene → Assignment → Scene
note_step r s a = if change_applies a.change s.state.event.device then s else set_step r s a

-- the assignments of a rule that is skipped, none of which stops it
abbrev pub note_all : Rule → Scene → Scene × Bool
note_all r s = (fold (note_step r) s r.sets, true)
