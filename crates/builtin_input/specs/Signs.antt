-- Conditions on what an input device says about itself, from which its kinds follow. The numbers are those of the
-- kernel's input codes.
use Rattle.std.specs.Prelude.{ℕ, ◌+◌, Bool, not, ◌&&◌, ◌||◌, nat_le, if◌then◌else◌}
use Rattle.builtin_input.specs.Bitmaps.{has, count_of}
use Rattle.builtin_input.specs.Groups.{is_in}
use Rattle.builtin_input.specs.Capabilities.{CapabilitiesValue}
use Rattle.builtin_input.specs.declared.groups.Group.TheVariants.{MouseButton, JoystickButton, JoystickAxis, UsualKey}

-- kinds of events: of keys and buttons, of relative axes, of switches
abbrev pub key_event : ℕ
key_event = 1

abbrev pub relative_event : ℕ
relative_event = 2

abbrev pub switch_event : ℕ
switch_event = 5

-- axes, of which each may be absolute or relative
abbrev pub axis_x : ℕ
axis_x = 0

abbrev pub axis_y : ℕ
axis_y = 1

abbrev pub axis_z : ℕ
axis_z = 2

-- relative axes: the wheel to the side, and the wheel
abbrev pub side_wheel : ℕ
side_wheel = 6

abbrev pub wheel : ℕ
wheel = 8

-- absolute axes: the position of each finger, the number of the finger that is reported, and the axis before that
abbrev pub multitouch_x : ℕ
multitouch_x = 0x35

abbrev pub multitouch_y : ℕ
multitouch_y = 0x36

abbrev pub slot : ℕ
slot = 0x2F

abbrev pub before_slot : ℕ
before_slot = 0x2E

-- keys: the first two buttons of a pad, the last button of a mouse, a pen, a finger, a touch, and the button of a stylus
abbrev pub button_0 : ℕ
button_0 = 0x100

abbrev pub button_1 : ℕ
button_1 = 0x101

abbrev pub last_mouse_button : ℕ
last_mouse_button = 0x11F

abbrev pub pen : ℕ
pen = 0x140

abbrev pub finger : ℕ
finger = 0x145

abbrev pub touch : ℕ
touch = 0x14A

abbrev pub stylus : ℕ
stylus = 0x14B

-- properties: touches are meant where they are, as on a screen; a pointing stick; an accelerometer
abbrev pub direct : ℕ
direct = 1

abbrev pub pointing_stick : ℕ
pointing_stick = 5

abbrev pub accelerometer : ℕ
accelerometer = 6

-- the bus I2C
abbrev pub i2c_bus : ℕ
i2c_bus = 0x18

-- it has the absolute axes of a position
unfoldable pub has_position : CapabilitiesValue → Bool
has_position c = has c.absolute_axes axis_x && has c.absolute_axes axis_y

-- it has the absolute axes of a position for each finger; a device that also has the axis before the number of the
-- finger just has all axes
unfoldable pub has_multitouch : CapabilitiesValue → Bool
has_multitouch c = has c.absolute_axes multitouch_x && has c.absolute_axes multitouch_y && not (has c.absolute_axes slot && has c.absolute_axes before_slot)

-- it has the relative axes of a motion
unfoldable pub has_motion : CapabilitiesValue → Bool
has_motion c = has c.events relative_event && has c.relative_axes axis_x && has c.relative_axes axis_y

-- it has a wheel
unfoldable pub has_wheel : CapabilitiesValue → Bool
has_wheel c = has c.events relative_event && (has c.relative_axes wheel || has c.relative_axes side_wheel)

-- it takes a pen
unfoldable pub takes_pen : CapabilitiesValue → Bool
takes_pen c = has c.keys pen || has c.keys stylus

-- it takes a finger and no pen, and is not a screen
unfoldable pub takes_finger : CapabilitiesValue → Bool
takes_finger c = not (takes_pen c) && has c.keys finger && not (has c.properties direct)

-- it is a screen, or reports touches
unfoldable pub takes_touch : CapabilitiesValue → Bool
takes_touch c = has c.keys touch || has c.properties direct

-- it has buttons of a mouse
unfoldable pub has_mouse_buttons : CapabilitiesValue → Bool
has_mouse_buttons c = nat_le 1 (count_of (is_in MouseButton) c.keys)

-- it has buttons of a pad, and takes no pen
unfoldable pub has_pad_buttons : CapabilitiesValue → Bool
has_pad_buttons c = has c.keys button_0 && has c.keys button_1 && not (has c.keys pen)

-- how many buttons of joysticks it has; after the last button of a mouse, they are more buttons of that mouse
unfoldable pub joystick_buttons : CapabilitiesValue → ℕ
joystick_buttons c = if has c.keys last_mouse_button then 0 else count_of (is_in JoystickButton) c.keys

-- how many buttons and axes of joysticks it has
unfoldable pub joystick_parts : CapabilitiesValue → ℕ
joystick_parts c = joystick_buttons c + count_of (is_in JoystickAxis) c.absolute_axes

-- it has at least four of the keys that keyboards have
unfoldable pub has_usual_keys : CapabilitiesValue → Bool
has_usual_keys c = has c.events key_event && nat_le 4 (count_of (is_in UsualKey) c.keys)
