-- Which devices have a name to assign, and what becomes of the bytes of names.
use Rattle.std.specs.Prelude.{ℕ, ◌^◌, Bool, false, ◌==◌, ◌||◌, nat_le, nat_lt, if◌then◌else◌, map, codes, Option, Some, None}
use Rattle.text_bytes.specs.Names.{colon, delete, percent, slash, space, underscore}
use Rattle.text_bytes.specs.Numbers.{decimal_below}
use Rattle.text_bytes.specs.declared.profile.Profile.{Profile}
use Rattle.text_bytes.specs.declared.profile.Profile.TheVariants.{Manual, Udev}
use Rattle.text_tables.specs.Pairs.{value_of}
use Rattle.text_bytes.specs.Text.{Text}
use Rattle.text_tables.specs.Texts.{same_text}
use Rattle.device_core.specs.Values.{DeviceValue}
use Rattle.eval_state.specs.Texts.{or_empty}
use Rattle.eval_assignments.specs.Escapes.{with_underscores}
use Rattle.eval_assignments.specs.declared.escapes.Escape.{Escape}
use Rattle.eval_assignments.specs.declared.escapes.Escape.TheVariants.{Keep}

-- whether a device is a network device, by its subsystem
abbrev pub is_net : Option Text → Bool
is_net None = false
is_net (Some subsystem) = same_text subsystem (codes "net")

-- the numbers of interfaces are below this one
abbrev pub interfaces : ℕ
interfaces = 2 ^ 31

-- whether a number is one of an interface: 0 is not
abbrev pub is_number : Option ℕ → Bool
is_number None = false
is_number (Some number) = nat_lt 0 number

-- whether a device is an interface: its property IFINDEX is the number of one
abbrev pub is_interface : DeviceValue → Bool
is_interface device = is_number (decimal_below interfaces (or_empty (value_of device.env (codes "IFINDEX"))))

-- whether a device has a name to assign: for the manual one of the subsystem net, for udev an interface
abbrev pub has_name : Profile → DeviceValue → Bool
has_name Manual device = is_net device.subsystem
has_name Udev device = is_interface device

-- whether udev puts `_` instead of a byte of a name: instead of spaces and control characters, all that is not ASCII,
-- `:`, `/` and `%`
abbrev pub is_foreign : ℕ → Bool
is_foreign b = nat_le b space || (nat_le delete b || (b == colon || (b == slash || b == percent)))

-- a byte of a name
abbrev pub name_byte : ℕ → ℕ
name_byte b = if is_foreign b then underscore else b

-- a name that is assigned, unless its rule keeps its bytes: the manual has `_` for its spaces, udev for each byte
-- that does not belong there
abbrev pub name_text : Profile → Escape → Text → Text
name_text profile Keep t = t
name_text Manual e t = with_underscores t
name_text Udev e t = map name_byte t
