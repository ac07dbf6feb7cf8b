-- Functions of PCI, by their names: `DOMAIN:BUS:SLOT.FUNCTION`.
use Rattle.std.specs.Prelude.{ℕ, ◌+◌, ◌*◌, ◌==◌, Bool, false, nat_le, [], ◌++◌, codes, decimal, slice_get, Option, Some, None, option_map}
use Rattle.std.specs.Prelude.{option_and_then, if◌then◌else◌}
use Rattle.std.specs.Option.{option_map_or}
use Rattle.text_bytes.specs.Names.{colon, dot}
use Rattle.text_bytes.specs.Texts.{split_once}
use Rattle.link_files.specs.Booleans.{is_yes}
use Rattle.text_bytes.specs.Text.{Text}
use Rattle.device_core.specs.Values.{DeviceValue, EventValue}
use Rattle.builtin_devices.specs.Devices.{kernel_of}
use Rattle.builtin_devices.specs.Numbers.{bytes_of, number_in}
use Rattle.builtin_devices.specs.declared.numbers.Base.TheVariants.{Decimal, Hexadecimal}
use Rattle.builtin_net.specs.Allowed.{read}
use Rattle.builtin_net.specs.Words.{file_of, most_number}
use Rattle.builtin_net.specs.declared.allowed.Attribute.TheVariants.{AriEnabled}
use Rattle.builtin_net.specs.declared.functions.Function.{Function}

-- the function of these numbers, if all four are there
abbrev pub with_numbers : Option ℕ → Option ℕ → Option ℕ → Option ℕ → Option Function
with_numbers (Some domain) (Some bus) (Some slot) (Some function) =
    Some (record { domain = domain; bus = bus; slot = slot; function = function })
with_numbers _ _ _ _ = None

-- the function that a name gives: domain, bus and slot in hexadecimal, the function in decimal
unfoldable pub function_of : Text → Option Function
function_of name =
    option_and_then (λ domain.
    option_and_then (λ bus.
    option_and_then (λ slot.
    with_numbers (number_in Hexadecimal most_number domain.0) (number_in Hexadecimal most_number bus.0)
    (number_in Hexadecimal most_number slot.0) (number_in Decimal most_number slot.1))
    (split_once dot bus.1))
    (split_once colon domain.1))
    (split_once colon name)

-- a function numbered as on a card that counts the functions of all its slots as one: eight times the slot more
abbrev pub with_ari : Function → Function
with_ari f = record f { function = f.function + 8 * f.slot }

-- the function that a device is, by its name, and by whether it says that its card counts so
unfoldable pub function : DeviceValue → Option Function
function pci = if option_map_or is_yes (read pci AriEnabled) false then option_map with_ari (function_of (kernel_of pci)) else function_of (kernel_of pci)

-- the digits of the bytes of the configuration of a function
abbrev pub config : EventValue → DeviceValue → Option Text
config event pci = file_of event pci (codes "/config")

-- whether a function reports that its card has several: the type of the header, byte 14 of its configuration, is 128 or
-- more
unfoldable pub is_several : EventValue → DeviceValue → Bool
is_several event pci = option_map_or (nat_le 128) (option_and_then (λ bytes. slice_get bytes 14) (option_and_then bytes_of (config event pci))) false

-- the domain, which is left out if it is the first
abbrev pub domain_text : Function → Text
domain_text f = if f.domain == 0 then [] else codes "P" ++ decimal f.domain
