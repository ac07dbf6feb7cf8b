-- The attributes that udev reads for a device: its own, those to which a path leads from its folder in sysfs, links, and those behind
-- the link `device`.
use Rattle.std.specs.Prelude.{ℕ, ◌==◌, ◌&&◌, Bool, true, if◌then◌else◌, fold, length, Option, Some, None, is_none, is_some, position, unwrap_or, codes}
use Rattle.std.specs.List.{list_any, range_with_len}
use Rattle.std.specs.Option.{option_and_then, option_map_or, option_or}
use Rattle.text_bytes.specs.Names.{dot, slash}
use Rattle.text_bytes.specs.Texts.{begins_with, following}
use Rattle.text_bytes.specs.Text.{Text}
use Rattle.text_tables.specs.Texts.{same_text}
use Rattle.text_tables.specs.Pairs.{value_of}
use Rattle.device_core.specs.Values.{DeviceValue, EventValue, chain}
use Rattle.eval_state.specs.Chains.{device_at}
use Rattle.eval_state.specs.Files.{is_end}
use Rattle.eval_rendering.specs.Behind.{is_untold_by, rest_behind, value_behind}

-- whether a name is a path that begins with `.` or `..`
abbrev pub is_path : Text → Bool
is_path name = begins_with dot name

-- what a path asks for after a byte of the folders that it has to leave: each of them begins with a slash, and `../` leaves one
abbrev pub left_after : Option Text → ℕ → Option Text
left_after name b = if b == slash then option_and_then (following (codes "../")) name else name

-- what a path asks for once it is without its first `./`, and has left all folders that are below a device's own; nothing, if the
-- folders are not below that, or if it leads up further
abbrev pub asked_below : (name folders : Text) → Option Text
asked_below name folders =
    let left = fold left_after (Some (unwrap_or (following (codes "./") name) name)) folders in
    if is_end (Some folders) then option_and_then (λ asked. if begins_with dot asked then None else Some asked) left else None

-- the name that a path asks for in the folder of a device, from the folder of one below it or from its own
abbrev pub asked_in : (from name : Text) → Option DeviceValue → Option Text
asked_in from name device = option_and_then (λ d. option_and_then (asked_below name) (following d.path from)) device

-- the place in the chain of the device to whose folder a path leads
unfoldable pub led_place : (from name : Text) → EventValue → Option ℕ
led_place from name event = position (λ place. is_some (asked_in from name (device_at event place))) (range_with_len 0 (length (chain event)))

-- the attribute to which a path leads from a folder
abbrev pub led_value : EventValue → (from name : Text) → Option Text
led_value event from name =
    option_and_then (λ device. option_and_then (value_of device.attrs) (asked_in from name (Some device)))
    (option_and_then (device_at event) (led_place from name event))

-- the last component of the link to the driver or the subsystem of a device
abbrev pub linked_value : DeviceValue → Text → Option Text
linked_value device name =
    if same_text name (codes "driver") then device.driver
    else if same_text name (codes "subsystem") then device.subsystem
    else None

-- what the block does not have under a name as it is written: the attribute to which a path leads, a link, or an attribute behind the
-- link `device`
abbrev pub other_value : EventValue → DeviceValue → Text → Option Text
other_value event device name =
    if is_path name then led_value event device.path name else option_or (linked_value device name) (value_behind event device name)

-- the attribute that udev reads for a device of an event: what the block has under the name goes first
abbrev pub read_value : EventValue → DeviceValue → Text → Option Text
read_value event device name = option_or (value_of device.attrs name) (other_value event device name)

-- whether a path from the folder of a device leads to what the block does not have and does not deny: to no device of the chain, or
-- there into another folder
abbrev pub is_path_untold : EventValue → DeviceValue → Text → Bool
is_path_untold event device name =
    is_none (read_value event device name)
    && option_map_or (list_any (λ b. b == slash))
    (option_and_then (λ place. asked_in device.path name (device_at event place)) (led_place device.path name event)) true

-- whether udev may read something for a device under a name of which the block tells nothing
unfoldable pub is_unread : EventValue → DeviceValue → Text → Bool
is_unread event device name =
    if is_path name then is_path_untold event device name else is_untold_by event device name (rest_behind name)
