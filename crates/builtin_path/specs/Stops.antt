-- What one device of the way adds to a path.
use Rattle.std.specs.Prelude.{ℕ, Bool, true, false, List, [], ◌∷◌, length, Option, Some, None}
use Rattle.text_bytes.specs.Text.{Text}
use Rattle.device_core.specs.Values.{DeviceValue}
use Rattle.builtin_path.specs.declared.stops.Next.{Next}
use Rattle.builtin_path.specs.declared.stops.Next.TheVariants.{On, Ends, Fails}
use Rattle.builtin_path.specs.declared.stops.Share.TheVariants.{Apart}
use Rattle.builtin_path.specs.declared.stops.Stop.{Stop}

-- how many of the devices above one are skipped: all if the way ends
abbrev pub passed : Next → List DeviceValue → ℕ
passed (On count) above = count
passed Ends above = length above
passed Fails above = length above

-- a name that a block would have to report, if it does not
abbrev pub absent : (name : Text) → Option Text → List Text
absent name None = name ∷ []
absent name (Some value) = []

-- a device that adds nothing, and above which the way goes on
abbrev pub passing : (transport : Bool) → Stop
passing transport = record { part = None; share = Apart; transport = transport; parent = false; needs = []; next = On 0 }

-- a device that adds nothing, and at which the way ends; what is below it stays
abbrev pub ending : (transport parent : Bool) → (needs : List Text) → Stop
ending transport parent needs = record { part = None; share = Apart; transport = transport; parent = parent; needs = needs; next = Ends }

-- a device that adds a part, above which so many devices are skipped
abbrev pub adding : (part : Text) → (transport parent : Bool) → ℕ → Stop
adding part transport parent count = record { part = Some part; share = Apart; transport = transport; parent = parent; needs = []; next = On count }
