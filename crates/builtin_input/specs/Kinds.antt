-- The kinds of input devices.
use Rattle.std.specs.Prelude.{Bool, not, ◌&&◌, ◌||◌, ◌==◌, nat_le, List, [], ◌∷◌, filter, codes}
use Rattle.text_bytes.specs.Text.{Text}
use Rattle.builtin_input.specs.Bitmaps.{has, count_of}
use Rattle.builtin_input.specs.Groups.{is_in}
use Rattle.builtin_input.specs.Capabilities.{CapabilitiesValue}
use Rattle.builtin_input.specs.Signs.{accelerometer, has_multitouch, has_mouse_buttons, has_motion, has_pad_buttons, has_position, has_usual_keys, has_wheel}
use Rattle.builtin_input.specs.Signs.{i2c_bus, takes_touch, joystick_parts, key_event, pointing_stick, switch_event, takes_finger, takes_pen, axis_z}
use Rattle.builtin_input.specs.declared.groups.Group.TheVariants as group
use Rattle.builtin_input.specs.declared.kinds.Kind.{Kind}
use Rattle.builtin_input.specs.declared.kinds.Kind.TheVariants as kind

-- an accelerometer has the property of one, or three axes and no keys
unfoldable pub is_accelerometer : CapabilitiesValue → Bool
is_accelerometer c = has c.properties accelerometer || not (has c.events key_event) && has_position c && has c.absolute_axes axis_z

-- a tablet takes a pen, or has buttons of a pad and a wheel
unfoldable pub is_tablet : CapabilitiesValue → Bool
is_tablet c = (has_position c || has_multitouch c) && takes_pen c || has_pad_buttons c && has_wheel c && not (has_motion c)

-- the buttons of a tablet are a tablet with buttons of a pad
unfoldable pub is_tablet_pad : CapabilitiesValue → Bool
is_tablet_pad c = is_tablet c && has_pad_buttons c

-- a touchpad has positions, and takes a finger
unfoldable pub is_touchpad : CapabilitiesValue → Bool
is_touchpad c = (has_position c || has_multitouch c) && takes_finger c

-- a touchscreen takes touches, and neither a pen nor the finger of a touchpad; with buttons of a mouse it has
-- positions of each finger
unfoldable pub is_touchscreen : CapabilitiesValue → Bool
is_touchscreen c = not (takes_pen c) && not (takes_finger c) && takes_touch c && (has_multitouch c || has_position c && not (has_mouse_buttons c))

-- a device that may be a joystick, and is then not a mouse by its buttons: it has parts of one, and is nothing that
-- points at a position
unfoldable pub may_be_joystick : CapabilitiesValue → Bool
may_be_joystick c = not (joystick_parts c == 0) && not (has_position c && (takes_pen c || takes_finger c || has_mouse_buttons c || takes_touch c))

-- a joystick has at least two parts of one, without the keys of a keyboard, and without a wheel together with buttons
-- of a pad
unfoldable pub is_joystick : CapabilitiesValue → Bool
is_joystick c = may_be_joystick c && nat_le 2 (joystick_parts c) && not (has_usual_keys c) && not (has_wheel c && has_pad_buttons c)

-- a mouse by its buttons, with motions or without positions, that is nothing else
unfoldable pub is_plain_mouse : CapabilitiesValue → Bool
is_plain_mouse c = has_mouse_buttons c && not (is_tablet c || is_touchpad c || may_be_joystick c) && (has_motion c || not (has_position c))

-- a mouse by its buttons, or one that has positions and takes no pen and no finger
unfoldable pub is_mouse : CapabilitiesValue → Bool
is_mouse c = is_plain_mouse c || has_position c && has_mouse_buttons c && not (takes_pen c) && not (takes_finger c)

-- a pointing stick has the property of one, or is a mouse by its buttons on the bus I2C
unfoldable pub is_pointing_stick : CapabilitiesValue → Bool
is_pointing_stick c = has c.properties pointing_stick || is_plain_mouse c && c.bus == i2c_bus

-- it is of a kind that points
unfoldable pub is_pointer : CapabilitiesValue → Bool
is_pointer c = is_accelerometer c || is_pointing_stick c || is_mouse c || is_touchpad c || is_touchscreen c || is_joystick c || is_tablet c

-- it has keys that are not buttons
unfoldable pub has_keys : CapabilitiesValue → Bool
has_keys c = has c.events key_event && nat_le 1 (count_of (is_in group.Key) c.keys)

-- a keyboard has all 31 keys from 1 to 31
unfoldable pub is_keyboard : CapabilitiesValue → Bool
is_keyboard c = has c.events key_event && count_of (is_in group.FirstKey) c.keys == 31

-- Which devices are of a kind. An accelerometer is of no other kind that points, and a wheel on a device that is nothing else is a key.
unfoldable pub is_of : Kind → CapabilitiesValue → Bool
is_of kind.Accelerometer c = is_accelerometer c
is_of kind.PointingStick c = not (is_accelerometer c) && is_pointing_stick c
is_of kind.Mouse c = not (is_accelerometer c) && is_mouse c
is_of kind.Touchpad c = not (is_accelerometer c) && is_touchpad c
is_of kind.Touchscreen c = not (is_accelerometer c) && is_touchscreen c
is_of kind.Joystick c = not (is_accelerometer c) && is_joystick c
is_of kind.Tablet c = not (is_accelerometer c) && is_tablet c
is_of kind.TabletPad c = not (is_accelerometer c) && is_tablet_pad c
is_of kind.Key c = has_keys c || not (is_pointer c) && has_wheel c
is_of kind.Keyboard c = is_keyboard c
is_of kind.Switch c = has c.events switch_event

-- the kinds in the order in which they are reported
abbrev pub all_kinds : List Kind
all_kinds = kind.Accelerometer ∷ kind.PointingStick ∷ kind.Mouse ∷ kind.Touchpad ∷ kind.Touchscreen ∷ kind.Joystick
    ∷ kind.Tablet ∷ kind.TabletPad ∷ kind.Key ∷ kind.Keyboard ∷ kind.Switch ∷ []

-- the kinds of a device
unfoldable pub kinds : CapabilitiesValue → List Kind
kinds c = filter (λ k. is_of k c) all_kinds

-- the property of a kind
unfoldable pub property_of : Kind → Text
property_of kind.Accelerometer = codes "ID_INPUT_ACCELEROMETER"
property_of kind.PointingStick = codes "ID_INPUT_POINTINGSTICK"
property_of kind.Mouse = codes "ID_INPUT_MOUSE"
property_of kind.Touchpad = codes "ID_INPUT_TOUCHPAD"
property_of kind.Touchscreen = codes "ID_INPUT_TOUCHSCREEN"
property_of kind.Joystick = codes "ID_INPUT_JOYSTICK"
property_of kind.Tablet = codes "ID_INPUT_TABLET"
property_of kind.TabletPad = codes "ID_INPUT_TABLET_PAD"
property_of kind.Key = codes "ID_INPUT_KEY"
property_of kind.Keyboard = codes "ID_INPUT_KEYBOARD"
property_of kind.Switch = codes "ID_INPUT_SWITCH"
