-- Which attribute a match of ATTR or ATTRS looks at.
use Rattle.std.specs.Prelude.{ℕ, Bool, false, not, ◌&&◌, ◌||◌, if◌then◌else◌, is_none, Option, Some, None, option_map}
use Rattle.std.specs.Option.{option_and_then}
use Rattle.text_bytes.specs.Names.{open_bracket}
use Rattle.text_bytes.specs.Texts.{begins_with, is_empty}
use Rattle.text_bytes.specs.declared.profile.Profile.{Profile}
use Rattle.text_bytes.specs.declared.profile.Profile.TheVariants as profile
use Rattle.text_bytes.specs.Text.{Text}
use Rattle.text_tables.specs.Pairs.{value_of}
use Rattle.rule_tokens.specs.Substituted.{has_sign}
use Rattle.device_core.specs.Values.{DeviceValue, EventValue}
use Rattle.eval_state.specs.Chains.{device_at}
use Rattle.eval_state.specs.Named.{NamedValue, named, named_place}
use Rattle.eval_state.specs.Texts.{or_empty}
use Rattle.eval_state.specs.declared.state.State.{State}
use Rattle.eval_rendering.specs.Bounds.{short}
use Rattle.eval_rendering.specs.Names.{name_text}
use Rattle.eval_rendering.specs.Paths.{is_unread, read_value}
use Rattle.eval_rendering.specs.Pieces.{as_read}
use Rattle.eval_rendering.specs.Holding.{Subject, attribute, udev_attribute, udev_unread}
use Rattle.eval_rendering.specs.Udev.{capped}

-- an attribute of the device at a place of the chain
abbrev pub attribute_of : EventValue → Text → ℕ → Option Text
attribute_of event name place = option_and_then (λ device. value_of device.attrs name) (device_at event place)

-- what udev finds for a device under a name: one that does not begin with `[`, and has a byte that begins a substitution, it renders,
-- and looks under the result, if that is not too long
abbrev pub udev_found : Text → State → DeviceValue → Option Text
udev_found name state device =
    if not (begins_with open_bracket name) && has_sign name
    then option_and_then (read_value state.event device) (short (name_text name state))
    else read_value state.event device name

-- what udev reads for a device under a name
unfoldable pub udev_value : Text → State → DeviceValue → Option Text
udev_value name state device = option_map as_read (udev_found name state device)

-- an attribute of a device, by the name that a match has
abbrev pub value_by : Profile → Text → State → DeviceValue → Option Text
value_by profile.Manual name state device = value_of device.attrs name
value_by profile.Udev name state device = udev_value name state device

-- the same of the device at a place of the chain, if there is one
abbrev pub own_attribute : Text → State → ℕ → Option Text
own_attribute name state place = option_and_then (λ device. value_by state.event.profile name state device) (device_at state.event place)

-- whether a name is that of an attribute of a device that is not in the chain
abbrev pub is_elsewhere : EventValue → Option NamedValue → Bool
is_elsewhere event None = false
is_elsewhere event (Some n) = not (is_empty n.attribute) && is_none (named_place n event)

-- what the event device has under a name as it is written: by it a block gives an attribute of a device that it does not have
abbrev pub written_value : EventValue → Text → Option Text
written_value event name = value_of event.device.attrs name

-- whether udev would read an attribute of this name and a dry run does not: one of a device that the block does not have,
-- and that the event device does not have under this name
abbrev pub is_unknown : Text → EventValue → Bool
is_unknown name event = begins_with open_bracket name && (is_elsewhere event (named name) && is_none (written_value event name))

-- whether there is a device, and the block does not tell what a name stands for there
abbrev pub is_unread_at : Text → EventValue → Option DeviceValue → Bool
is_unread_at name event None = false
is_unread_at name event (Some device) = is_unread event device name

-- the same of a name that names no device
abbrev pub is_untold_at : Text → EventValue → Option DeviceValue → Bool
is_untold_at name event device = not (begins_with open_bracket name) && is_unread_at name event device

-- whether an attribute that a match asks for is not read; the manual knows no such names
abbrev pub is_not_read_by : Profile → Text → EventValue → Bool
is_not_read_by profile.Manual name event = false
is_not_read_by profile.Udev name event = is_unknown name event || is_untold_at name event (Some event.device)

-- whether an attribute that a match asks for is not read
unfoldable pub is_not_read : Text → EventValue → Bool
is_not_read name event = is_not_read_by event.profile name event

-- an attribute of the device that is at a place: empty if the device has none; without a place, what is given instead.
-- It is cut.
abbrev pub found_value : EventValue → Text → (given : Option Text) → Option ℕ → Option Text
found_value event name given None = option_map (λ value. capped (as_read value)) given
found_value event name given (Some place) = Some (capped (as_read (or_empty (attribute_of event name place))))

-- an attribute of a named device, by what is given of one that is not in the chain; none if its name is empty
abbrev pub named_value : EventValue → (given : Option Text) → Option NamedValue → Option Text
named_value event given None = None
named_value event given (Some n) = if is_empty n.attribute then None else found_value event n.attribute given (named_place n event)

-- the attribute of a name as udev has it: of the device that the name names, or else the device's own
abbrev pub sought : Text → EventValue → Option Text → Option Text
sought name event own = if begins_with open_bracket name then named_value event (written_value event name) (named name) else own

-- what udev compares of an attribute that a device may have: of one that it does not have, by whether the block tells that
abbrev pub told_subject : (untold : Bool) → Option Text → Subject
told_subject untold value = if untold && is_none value then udev_unread else udev_attribute value

-- what udev compares of an attribute of a device
unfoldable pub udev_subject : Text → EventValue → Option DeviceValue → Option Text → Subject
udev_subject name event device own =
    if is_unknown name event then udev_unread else told_subject (is_untold_at name event device) (sought name event own)

-- what a match of an attribute looks at, by the device and by the attribute that this itself has
abbrev pub attribute_by : Profile → Text → EventValue → Option DeviceValue → Option Text → Subject
attribute_by profile.Manual name event device own = attribute own
attribute_by profile.Udev name event device own = udev_subject name event device own
