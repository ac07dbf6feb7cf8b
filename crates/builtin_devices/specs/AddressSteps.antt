-- Serves inner proofs only: an address that is read number by number.
use Rattle.std.specs.Prelude.{ℕ, ◌^◌, Option, option_map}
use Rattle.std.specs.Option.{option_and_then}
use Rattle.text_bytes.specs.Names.{colon}
use Rattle.text_bytes.specs.Numbers.{decimal_below}
use Rattle.text_bytes.specs.Texts.{split_once}
use Rattle.text_bytes.specs.Text.{Text}
use Rattle.builtin_devices.specs.declared.addresses.Address.{Address}

-- a number and what follows it
abbrev pub with_number : Text × Text → Option (ℕ × Text)
with_number cut = option_map (λ n. (n, cut.1)) (decimal_below (2 ^ 32) cut.0)

-- the number before the first colon of a text, and what follows the colon
abbrev pub before_colon : Text → Option (ℕ × Text)
before_colon text = option_and_then with_number (split_once colon text)

-- the address by its last number
abbrev pub with_unit : (host bus target : ℕ) → Text → Option Address
with_unit host bus target text = option_map (λ unit. record { host = host; bus = bus; target = target; unit = unit }) (decimal_below (2 ^ 32) text)

-- the address, number by number
unfoldable pub stepped : Text → Option Address
stepped name =
    option_and_then (λ host.
    option_and_then (λ bus.
    option_and_then (λ target. with_unit host.0 bus.0 target.0 target.1)
    (before_colon bus.1))
    (before_colon host.1))
    (before_colon name)
