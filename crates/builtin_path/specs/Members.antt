-- The devices that the way up passes, and what it asks of them.
use Rattle.std.specs.Prelude.{ℕ, ◌==◌, ◌+◌, ◌-◌, not, Bool, List, [], ◌∷◌, codes, length, drop, take, nat_eq, Option, Some, slice_get}
use Rattle.std.specs.List.{concat, prefix_len, starts_with, suffix_len}
use Rattle.std.specs.Option.{option_and_then}
use Rattle.text_bytes.specs.Names.{slash}
use Rattle.text_bytes.specs.Text.{Text}
use Rattle.device_core.specs.Values.{DeviceValue}
use Rattle.text_bytes.specs.Kernels.{last_component}
use Rattle.builtin_devices.specs.Devices.{attribute, is_of, is_text}

-- whether a device is of a subsystem
abbrev pub is_in : Text → DeviceValue → Bool
is_in subsystem m = is_text subsystem m.subsystem

-- how many devices of one subsystem a list begins with
abbrev pub row : Text → List DeviceValue → ℕ
row subsystem members = prefix_len (is_in subsystem) members

-- how many devices are below the nearest one of SCSI that is of a type; all if there is none
abbrev pub below_first : (kind : Text) → List DeviceValue → ℕ
below_first kind members = prefix_len (λ m. not (is_of (codes "scsi") (Some kind) m)) members

-- the devices from that one on
abbrev pub from_first : (kind : Text) → List DeviceValue → List DeviceValue
from_first kind members = drop (below_first kind members) members

-- the folder that a path is in
abbrev pub folder : Text → Text
folder path = take (length path - (suffix_len (λ b. not (b == slash)) path + 1)) path

-- the attribute of the device of a class that has this device's name and is directly below it
unfoldable pub class_attribute : (class name : Text) → DeviceValue → Option Text
class_attribute class name m = attribute m (concat (class ∷ codes "/" ∷ last_component m.path ∷ codes "/" ∷ name ∷ []))

-- the same for the device at a place of a list, if there is one
abbrev pub class_attribute_at : List DeviceValue → ℕ → (class name : Text) → Option Text
class_attribute_at members place class name = option_and_then (class_attribute class name) (slice_get members place)

-- an attribute of the device at a place of a list, if there is one
abbrev pub attribute_at : List DeviceValue → ℕ → (name : Text) → Option Text
attribute_at members place name = option_and_then (λ m. attribute m name) (slice_get members place)

-- whether a text begins with another one
abbrev pub begins : (start text : Text) → Bool
begins start text = starts_with nat_eq text start
