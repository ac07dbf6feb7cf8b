-- What names say about interfaces of USB and of cores of bcma, by their names.
use Rattle.std.specs.Prelude.{ℕ, ◌==◌, [], ◌++◌, codes, decimal, map, Option, option_map, option_and_then, if◌then◌else◌}
use Rattle.text_bytes.specs.Names.{colon, dot, minus}
use Rattle.text_bytes.specs.Texts.{following, split_once}
use Rattle.text_bytes.specs.Text.{Text}
use Rattle.text_tables.specs.Texts.{same_text}
use Rattle.builtin_devices.specs.Numbers.{number_in}
use Rattle.builtin_devices.specs.declared.numbers.Base.TheVariants.{Decimal}
use Rattle.builtin_net.specs.Words.{most_number}

-- ports with `u` for each dot in between
abbrev pub ports_text : Text → Text
ports_text ports = map (λ b. if b == dot then 117 else b) ports

-- a number after a letter, left out if it is the usual one
abbrev pub unless_usual : (usual letter number : Text) → Text
unless_usual usual letter number = if same_text number usual then [] else letter ++ number

-- ports, and configuration and interface if they are not the first
abbrev pub usb_text : (ports configuration interface : Text) → Text
usb_text ports configuration interface =
    codes "u" ++ ports_text ports ++ unless_usual (codes "1") (codes "c") configuration ++ unless_usual (codes "0") (codes "i") interface

-- The end of names by an interface of USB, by its name `BUS-PORTS:CONFIGURATION.INTERFACE`. The bus does not count.
unfoldable pub usb_suffix : Text → Option Text
usb_suffix name =
    option_and_then (λ bus.
    option_and_then (λ ports. option_map (λ numbers. usb_text ports.0 numbers.0 numbers.1) (split_once dot ports.1))
    (split_once colon bus.1))
    (split_once minus name)

-- the core that a name `bcmaBUS:CORE` gives, if both are numbers
abbrev pub core_in : Text → Option ℕ
core_in name =
    option_and_then (λ parts. option_and_then (λ bus. number_in Decimal most_number parts.1) (number_in Decimal most_number parts.0))
    (option_and_then (split_once colon) (following (codes "bcma") name))

-- the end of names by a core of bcma, the first of which is not reported
unfoldable pub bcma_suffix : Text → Option Text
bcma_suffix name = option_map (λ core. if core == 0 then [] else codes "b" ++ decimal core) (core_in name)
