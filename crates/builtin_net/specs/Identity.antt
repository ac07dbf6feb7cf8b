-- Which interfaces have names.
use Rattle.std.specs.Prelude.{ℕ, ◌^◌, ◌-◌, ◌||◌, ◌&&◌, Bool, false, codes, Option, None, option_and_then, is_some, if◌then◌else◌}
use Rattle.std.specs.Option.{option_map_or}
use Rattle.text_bytes.specs.Text.{Text}
use Rattle.text_tables.specs.Pairs.{value_of}
use Rattle.device_core.specs.Values.{DeviceValue, EventValue}
use Rattle.builtin_devices.specs.Devices.{type_of}
use Rattle.builtin_devices.specs.Numbers.{is_below_zero, is_number, number_in}
use Rattle.builtin_devices.specs.declared.numbers.Base.TheVariants.{AsWritten}
use Rattle.builtin_net.specs.Allowed.{number, read}
use Rattle.builtin_net.specs.Prefixes.{prefix_of}
use Rattle.builtin_net.specs.Words.{positive}
use Rattle.builtin_net.specs.declared.allowed.Attribute.TheVariants.{Iflink, Hardware}
use Rattle.builtin_net.specs.declared.prefixes.Prefix.{Prefix}

-- a number of 31 bits, which an index has
abbrev pub index_in : Text → Option ℕ
index_in text = number_in AsWritten (2 ^ 31 - 1) text

-- the index of the event device, as the kernel reported it
unfoldable pub index : EventValue → Option ℕ
index event = positive (option_and_then index_in (value_of event.device.env (codes "IFINDEX")))

-- whether a text is a number of 31 bits and a sign
abbrev pub is_link : Text → Bool
is_link text = is_some (index_in text) || is_below_zero AsWritten (2 ^ 31) text

-- whether an interface has an index, and gives the index of the interface that it is stacked on, perhaps itself
unfoldable pub is_identified : EventValue → (interface : DeviceValue) → Bool
is_identified event interface = is_some (index event) && option_map_or is_link (read interface Iflink) false

-- whether an interface is not stacked on another: the index that it gives of such a one is its own
unfoldable pub is_alone : EventValue → (interface : DeviceValue) → Bool
is_alone event interface = option_map_or (λ own. is_number own (option_and_then index_in (read interface Iflink))) (index event) false

-- how names of an interface begin, if it has some
unfoldable pub naming : EventValue → (interface : DeviceValue) → Option Prefix
naming event interface =
    if is_alone event interface then option_and_then (λ hardware. prefix_of hardware (type_of event.device)) (number interface Hardware) else None
