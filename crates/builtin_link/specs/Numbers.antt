-- Numbers that an interface reports about itself.
use Rattle.std.specs.Prelude.{ℕ, ◌^◌, ◌-◌, Option, option_and_then}
use Rattle.text_bytes.specs.Text.{Text}
use Rattle.device_core.specs.Values.{EventValue}
use Rattle.builtin_devices.specs.Devices.{attribute}
use Rattle.builtin_devices.specs.Numbers.{number_in}
use Rattle.builtin_devices.specs.declared.numbers.Base.TheVariants.{AsWritten}

-- the number of 32 bits that an attribute of the interface is
abbrev pub own_number : EventValue → (name : Text) → Option ℕ
own_number event name = option_and_then (number_in AsWritten (2 ^ 32 - 1)) (attribute event.device name)
