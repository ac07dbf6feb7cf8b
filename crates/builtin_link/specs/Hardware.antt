-- What `Type=` is compared with.
use Rattle.std.specs.Prelude.{ℕ, ◌^◌, ◌-◌, ◌==◌, List, [], ◌∷◌, codes, map, Option, Some, None, option_and_then, if◌then◌else◌}
use Rattle.std.specs.Option.{option_or}
use Rattle.text_bytes.specs.Text.{Text}
use Rattle.device_core.specs.Values.{EventValue}
use Rattle.builtin_devices.specs.Devices.{attribute, some_text, type_of}
use Rattle.builtin_devices.specs.Numbers.{number_in}
use Rattle.builtin_devices.specs.declared.numbers.Base.TheVariants.{AsWritten}
use Rattle.builtin_link.specs.declared.hardware.TheConstants.{HARDWARE_NAMES}

-- what a table has beside a number
abbrev pub beside : List (ℕ × Text) → ℕ → Option Text
beside [] number = None
beside (row ∷ rows) number = if row.0 == number then Some row.1 else beside rows number

-- the name of the hardware with a number, if it is one that interfaces have today
unfoldable pub hardware_name : ℕ → Option Text
hardware_name number = beside (map (λ row. (row.0, row.1.now)) HARDWARE_NAMES) number

-- the type of an interface: what the kernel calls it, or else the name of its hardware, of which an attribute gives the number
unfoldable pub type_text : EventValue → Option Text
type_text event =
    option_or (some_text (type_of event.device))
    (option_and_then hardware_name (option_and_then (number_in AsWritten (2 ^ 16 - 1)) (attribute event.device (codes "type"))))
