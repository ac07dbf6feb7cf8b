-- Serves inner proofs only: where an assignment to an attribute or a kernel parameter writes.
use Rattle.std.specs.Prelude.{◌≡◌, ◌⊎◌, ℕ, zero, suc, Bool, true, false, List, Option, Some, None}
use Rattle.text_bytes.specs.declared.profile.Profile.{Profile}
use Rattle.text_bytes.specs.declared.profile.Profile.TheVariants.{Manual, Udev}
use Rattle.text_bytes.specs.Text.{Text}
use Rattle.text_tables.specs.Pairs.{Pair, with_value}
use Rattle.rule_types.specs.declared.roles.Target.{Target}
use Rattle.rule_types.specs.declared.roles.Target.TheVariants as target
use Rattle.device_core.specs.Values.{EventValue}
use Rattle.eval_rendering.specs.Bounds.{most_path_bytes, within}
use Rattle.eval_rendering.specs.Rendering.{rendered_as_udev}
use Rattle.eval_rendering.specs.declared.rendered.Rendered.{Rendered}
use Rattle.eval_rendering.specs.declared.rendered.Rendered.TheVariants as rendered
use Rattle.eval_state.specs.Files.{starred}
use Rattle.eval_state.specs.Named.{NamedValue, named, named_place}
use Rattle.eval_state.specs.declared.state.State.{State}
use Rattle.eval_assignments.specs.Attributes.{found_above}
use Rattle.eval_assignments.specs.Parameters.{parameter_name}

-- whether there is no place
abbrev pub is_nowhere : Option ℕ → Bool
is_nowhere None = true
is_nowhere (Some place) = false

-- whether what a name names is an attribute of the event device: it names no device of the chain
abbrev pub is_own_by : Option NamedValue → EventValue → Bool
is_own_by None event = true
is_own_by (Some n) event = is_nowhere (named_place n event)

-- whether a name is that of an attribute of the event device
abbrev pub is_own : Text → EventValue → Bool
is_own name event = is_own_by (named name) event

-- the attribute of the device at a place of the chain, if there is one, to which a name leads
abbrev pub found_at : Option ℕ → NamedValue → Text → EventValue → Option Text
found_at None n name event = starred event.device name
found_at (Some zero) n name event = starred event.device n.attribute
found_at (Some (suc above)) n name event = found_above event (suc above) n name

-- the attribute to which a name leads, by what it names
abbrev pub found_by : Option NamedValue → Text → EventValue → Option Text
found_by None name event = starred event.device name
found_by (Some n) name event = found_at (named_place n event) n name event

-- the attribute to which a name leads
abbrev pub found_attribute : Text → EventValue → Option Text
found_attribute name event = found_by (named name) name event

-- the parameter of a name once that is rendered
abbrev pub parameter_in : Rendered → Option Text
parameter_in rendered.TooLong = None
parameter_in (rendered.Text name) = Some (parameter_name name)

-- the parameter to which a name leads
abbrev pub found_parameter : Text → State → Option Text
found_parameter written state = parameter_in (within most_path_bytes (rendered_as_udev written state))

-- the attribute or the parameter to which a name leads for udev
abbrev pub udev_name : Target → State → Option Text
udev_name (target.Attr name) state = found_attribute name state.event
udev_name (target.Sysctl name) state = found_parameter name state
udev_name about state = None

-- the same by the manual, for which each is written as it is named
abbrev pub manual_name : Target → Option Text
manual_name (target.Attr name) = Some name
manual_name (target.Sysctl name) = Some name
manual_name about = None

-- the attribute or the parameter that is written
abbrev pub written_name : Profile → Target → State → Option Text
written_name Manual about state = manual_name about
written_name Udev about state = udev_name about state

-- names with their values are as they were, or the one that is written has another value
abbrev pub Writes : Option Text → List Pair → List Pair → Type 0
Writes name was now = (now ≡ was) ⊎ ((found : Text) × (value : Text) × (name ≡ Some found) × (now ≡ with_value was found value))
