-- The addresses of SCSI devices.
use Rattle.std.specs.Prelude.{ℕ, ◌^◌, ◌==◌, List, [], ◌∷◌, map, Option, Some, None}
use Rattle.std.specs.List.{slice_split}
use Rattle.text_bytes.specs.Names.{colon}
use Rattle.text_bytes.specs.Numbers.{decimal_below}
use Rattle.text_bytes.specs.Text.{Text}
use Rattle.builtin_devices.specs.declared.addresses.Address.{Address}

-- the address of numbers, if there are four and none is missing
abbrev pub of_numbers : List (Option ℕ) → Option Address
of_numbers (Some host ∷ Some bus ∷ Some target ∷ Some unit ∷ []) = Some (record { host = host; bus = bus; target = target; unit = unit })
of_numbers _ = None

-- the address that the name of a SCSI device is, HOST:BUS:TARGET:UNIT: four numbers below 2^32 with colons between them
unfoldable pub address_of : (name : Text) → Option Address
address_of name = of_numbers (map (decimal_below (2 ^ 32)) (slice_split (λ b. b == colon) name))
