-- Serves inner proofs only: devices above a path, each at the place of the slash that follows its own path there.
use Rattle.std.specs.Prelude.{ℕ, nat_eq, nat_lt, ◌==◌, ◌&&◌, Bool, List, Option, None, option_copied, length, take, slice_index, if◌then◌else◌}
use Rattle.std.specs.Borrow.{Bor}
use Rattle.std.specs.List.{find}
use Rattle.indexmap.specs.IndexMap.{IndexMap, get}
use Rattle.text_bytes.specs.Names.{slash}
use Rattle.text_bytes.specs.Text.{Text}
use Rattle.text_tables.specs.Texts.{same_text}
use Rattle.device_core.specs.Values.{DeviceValue}
use Rattle.builtin_devices.specs.Devices.{is_at}

-- whether there is a slash at this place of a path, and it is not the first place
abbrev pub is_cut : Text → ℕ → Bool
is_cut path place = nat_lt 0 place && slice_index path place == slash

-- whether a path begins with another, which is not empty, and a slash
unfoldable pub is_above : (own path : Text) → Bool
is_above own path = nat_lt (length own) (length path) && (is_cut path (length own) && same_text (take (length own) path) own)

-- the first of some devices whose path ends before a slash at this place of a path, if it is not the first place
unfoldable pub first_before : List DeviceValue → Text → ℕ → Option DeviceValue
first_before devices path place = if is_cut path place then find (is_at (take place path)) devices else None

-- the device that a map has at a place
abbrev pub device_at : {S : Type 0} → IndexMap ℕ (Bor DeviceValue) S → ℕ → Option DeviceValue
device_at above place = option_copied (get nat_eq above place)
