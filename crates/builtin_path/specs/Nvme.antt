-- NVMe: the number of a disk's namespace, and the controller by which a disk of several ways is reached.
use Rattle.std.specs.Prelude.{◌+◌, ◌&&◌, false, true, List, [], ◌∷◌, codes, drop, if◌then◌else◌}
use Rattle.std.specs.Prelude.{is_some, Option, Some, None, option_and_then, take}
use Rattle.std.specs.List.{concat, prefix_len}
use Rattle.std.specs.Option.{option_map_or, option_to_list}
use Rattle.text_bytes.specs.Numbers.{is_digit}
use Rattle.text_bytes.specs.Text.{Text}
use Rattle.device_core.specs.Values.{DeviceValue, EventValue}
use Rattle.text_bytes.specs.Kernels.{last_component}
use Rattle.builtin_devices.specs.Devices.{attribute, device_by, is_text, type_of}
use Rattle.builtin_devices.specs.Files.{file_at}
use Rattle.builtin_path.specs.Members.{begins, row}
use Rattle.builtin_path.specs.Stops.{adding, ending, passing}
use Rattle.builtin_path.specs.declared.stops.Next.TheVariants.{Fails}
use Rattle.builtin_path.specs.declared.stops.Share.TheVariants.{Both}
use Rattle.builtin_path.specs.declared.stops.Stop.{Stop}

-- the name of the controller of a disk: that of the disk up to the digits after `nvme`
unfoldable pub controller_name : Text → Option Text
controller_name name = if begins (codes "nvme") name then Some (take (4 + prefix_len is_digit (drop 4 name)) name) else None

-- the controller of the disk among the links of its NVMe subsystem, if it is also reported; a constant says where a link
-- leads
unfoldable pub described_controller : EventValue → DeviceValue → Option DeviceValue
described_controller event subsystem =
    option_and_then (device_by event)
    (option_and_then (λ name. file_at event (concat (subsystem.path ∷ codes "/" ∷ name ∷ []))) (controller_name (last_component event.device.path)))

-- the controller, if it is reported and is not a virtual device
abbrev pub controller : EventValue → DeviceValue → Option DeviceValue
controller event subsystem =
    option_and_then (λ device. if begins (codes "/devices/virtual/") device.path then None else Some device) (described_controller event subsystem)

-- the name of the controller, if the block does not describe it
abbrev pub controller_needs : EventValue → DeviceValue → List Text
controller_needs event subsystem =
    if is_some (described_controller event subsystem) then [] else option_to_list (controller_name (last_component event.device.path))

-- a device adds nothing if the event device has no namespace; a whole disk of NVMe has one, and the block would have to
-- report its number, `nsid`
abbrev pub bare_stop : EventValue → Stop
bare_stop event =
    record (passing false) {
      needs = if is_text (codes "block") event.device.subsystem && is_text (codes "disk") (type_of event.device) then codes "nsid" ∷ [] else [];
    }

-- what a device adds by the namespace; those of subsystem nvme right above it are skipped
abbrev pub namespace_stop : (nsid : Text) → List DeviceValue → Stop
namespace_stop nsid above = record (adding (concat (codes "nvme-" ∷ nsid ∷ [])) true true (row (codes "nvme") above)) { share = Both }

-- what a device of subsystem nvme adds, by the namespace of the event device
unfoldable pub nvme_stop : EventValue → List DeviceValue → Stop
nvme_stop event above = option_map_or (λ nsid. namespace_stop nsid above) (attribute event.device (codes "nsid")) (bare_stop event)

-- what a device of nvme-subsystem adds, by the namespace of the event device; without a controller path_id fails
unfoldable pub ways_stop : EventValue → DeviceValue → List DeviceValue → Stop
ways_stop event m above =
    option_map_or (λ nsid.
    if is_some (controller event m) then namespace_stop nsid above else record (ending false false (controller_needs event m)) { next = Fails })
    (attribute event.device (codes "nsid")) (bare_stop event)
