-- The way up from the event device: which devices it passes, and what they add.
use Rattle.std.specs.Prelude.{ℕ, zero, suc, ◌+◌, Bool, false, not, ◌||◌, List, [], ◌∷◌, ◌++◌, codes, if◌then◌else◌, is_some, None, Option, slice_get, take}
use Rattle.std.specs.List.{prefix_len}
use Rattle.std.specs.Option.{option_and_then, option_map_or}
use Rattle.device_core.specs.Values.{DeviceValue, EventValue}
use Rattle.builtin_devices.specs.Devices.{attribute, parents_of}
use Rattle.builtin_path.specs.Members.{is_in}
use Rattle.builtin_path.specs.Nvme.{controller}
use Rattle.builtin_path.specs.Stops.{passed}
use Rattle.builtin_path.specs.Table.{stop}
use Rattle.builtin_path.specs.declared.stops.Stop.{Stop}

-- a device and those above it
abbrev pub from_device : EventValue → DeviceValue → List DeviceValue
from_device event device = device ∷ parents_of event device.path

-- how many devices a list begins with that are not an NVMe subsystem
abbrev pub below_subsystem : List DeviceValue → ℕ
below_subsystem members = prefix_len (λ m. not (is_in (codes "nvme-subsystem") m)) members

-- the controller by which a disk of several ways is reached; only a disk of NVMe has a namespace
abbrev pub way_by : EventValue → List DeviceValue → Option DeviceValue
way_by event members =
    if is_some (attribute event.device (codes "nsid")) then option_and_then (controller event) (slice_get members (below_subsystem members))
    else None

-- the devices of the way: the event device and those above it; for a disk of several ways, what is above its NVMe
-- subsystem, the first one, are the controller and the devices above that; all of them if there is no controller
unfoldable pub members_of : EventValue → List DeviceValue
members_of event =
    let members = from_device event event.device in
    option_map_or (λ device. take (below_subsystem members + 1) members ++ from_device event device) (way_by event members) members

-- what the devices add, from the first on after so many that are skipped
abbrev pub stops_from : EventValue → (is_begun : Bool) → ℕ → List DeviceValue → List Stop
stops_from event is_begun n [] = []
stops_from event is_begun zero (m ∷ above) =
    let here = stop event is_begun m above in
    here ∷ stops_from event (is_begun || is_some here.part) (passed here.next above) above
stops_from event is_begun (suc n) (m ∷ above) = stops_from event is_begun n above

-- what the devices of an event add, from the event device up
unfoldable pub stops_of : EventValue → List Stop
stops_of event = stops_from event false 0 (members_of event)
