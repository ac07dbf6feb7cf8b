-- What devices of each subsystem add to a path.
use Rattle.std.specs.Prelude.{ℕ, Bool, false, true, List, [], ◌∷◌, codes, decimal, drop, find, if◌then◌else◌, map}
use Rattle.std.specs.Prelude.{◌^◌, Option, Some, take}
use Rattle.std.specs.List.{concat, prefix_len}
use Rattle.std.specs.Option.{option_and_then, option_map, option_map_or}
use Rattle.text_bytes.specs.Numbers.{decimal_below, is_digit}
use Rattle.text_bytes.specs.Text.{Text}
use Rattle.text_tables.specs.Texts.{is_among, same_text}
use Rattle.text_bytes.specs.Kernels.{kernel_name, last_component}
use Rattle.device_core.specs.Values.{DeviceValue, EventValue}
use Rattle.builtin_devices.specs.Devices.{attribute}
use Rattle.text_bytes.specs.Texts.{following}
use Rattle.builtin_devices.specs.Numbers.{name_number}
use Rattle.builtin_path.specs.Members.{begins, row}
use Rattle.builtin_path.specs.Nvme.{nvme_stop, ways_stop}
use Rattle.builtin_path.specs.Scsi.{scsi_stop}
use Rattle.builtin_path.specs.Stops.{adding, ending, passing}
use Rattle.builtin_path.specs.Usb.{usb_stop}
use Rattle.builtin_path.specs.declared.table.Manner.{Manner}
use Rattle.builtin_path.specs.declared.table.Manner.TheVariants as manner
use Rattle.builtin_path.specs.declared.table.TheConstants.{BEGUN_TAPES, MANNERS, WHOLE_TAPES}
use Rattle.builtin_path.specs.declared.stops.Next.TheVariants.{On}
use Rattle.builtin_path.specs.declared.stops.Share.TheVariants.{Both}
use Rattle.builtin_path.specs.declared.stops.Stop.{Stop}

-- what a table has beside a subsystem
abbrev pub beside : List (Text × Manner) → Text → Option Manner
beside rows subsystem = option_map (λ row. row.1) (find (λ row. same_text row.0 subsystem) rows)

-- how a subsystem adds, by the code's table: the parents that are known by their names, some of which are also
-- transports, and those with a rule of their own
unfoldable pub manner_of : Text → Option Manner
manner_of subsystem = beside (map (λ row. (row.0.now, row.1)) MANNERS) subsystem

-- a device by its subsystem and its name; the row of its subsystem is skipped
abbrev pub named_stop : Text → (transport : Bool) → DeviceValue → List DeviceValue → Stop
named_stop subsystem transport m above =
    record (adding (concat (subsystem ∷ codes "-" ∷ kernel_name m.path ∷ [])) transport true (row subsystem above)) { share = Both }

-- the part of a queue of cryptographic adapters: its type and functions, or its name if one of these is absent
abbrev pub ap_part : DeviceValue → Text
ap_part m =
    let named = concat (codes "ap-" ∷ kernel_name m.path ∷ []) in
    option_map_or (λ kind.
    option_map_or (λ functions. concat (codes "ap-" ∷ kind ∷ codes "-" ∷ functions ∷ [])) (attribute m (codes "ap_functions")) named)
    (attribute m (codes "type")) named

-- a device by the number at the end of its own name: one without a number adds nothing, and no row is skipped
abbrev pub numbered_stop : (subsystem start : Text) → DeviceValue → List DeviceValue → Stop
numbered_stop subsystem start m above =
    option_map_or (λ digits. adding (concat (start ∷ digits ∷ [])) false false (row subsystem above)) (name_number (last_component m.path)) (passing false)

-- the number that a text begins with, and what follows it
unfoldable pub leading_number : Text → Option (ℕ × Text)
leading_number text =
    let digits = prefix_len is_digit text in
    option_map (λ n. (n, drop digits text)) (decimal_below (2 ^ 32) (take digits text))

-- the second number of a name that is a start, a number, a mark, and a number; what follows that does not count
unfoldable pub second_number : (start mark : Text) → (name : Text) → Option ℕ
second_number start mark name =
    option_and_then (λ text.
    option_and_then (λ first.
    option_and_then (λ rest. option_map (λ second. second.0) (leading_number rest))
    (following mark first.1))
    (leading_number text))
    (following start name)

-- a device by that number of its name, after a label; at one with another name the way ends
abbrev pub second_stop : (start mark label : Text) → DeviceValue → ℕ → Stop
second_stop start mark label m count =
    option_map_or (λ n. adding (concat (label ∷ decimal n ∷ [])) true false count) (second_number start mark (kernel_name m.path)) (ending true false [])

-- the part that a tape adds, by its name: a name of the code's table that nothing follows, or one that anything may follow
unfoldable pub tape_part : (name : Text) → Option Text
tape_part name =
    if is_among (map (λ tape. tape.now) WHOLE_TAPES) name then Some name
    else find (λ start. begins start name) (map (λ start. start.now) BEGUN_TAPES)

-- what a tape adds: nothing if a device below has added a part, or by another name
abbrev pub tape_stop : (is_begun : Bool) → DeviceValue → Stop
tape_stop is_begun m =
    if is_begun then passing false
    else option_map_or (λ part. adding part false false 0) (tape_part (kernel_name m.path)) (passing false)

-- A device of the way as it is passed: its subsystem, those above it, and whether one below has added a part.
pub record Passed : Type 0 where
  pub event : EventValue
  pub is_begun : Bool
  pub subsystem : Text
  pub member : DeviceValue
  pub above : List DeviceValue

-- what a device adds in each manner
abbrev pub stop_as : Manner → Passed → Stop
stop_as manner.Parent p = named_stop p.subsystem false p.member p.above
stop_as manner.Transport p = named_stop p.subsystem true p.member p.above
stop_as manner.Ap p = adding (ap_part p.member) true true (row (codes "ap") p.above)
stop_as manner.Virtio p = record (passing true) { next = On (row p.subsystem p.above) }
stop_as manner.Usb p = usb_stop p.member p.above
stop_as manner.Scsi p = scsi_stop p.member p.above
stop_as manner.Nvme p = nvme_stop p.event p.above
stop_as manner.NvmeSubsystem p = ways_stop p.event p.member p.above
stop_as manner.Serio p = numbered_stop p.subsystem (codes "serio-") p.member p.above
stop_as manner.Spi p = numbered_stop p.subsystem (codes "cs-") p.member p.above
stop_as manner.Bcma p = second_stop (codes "bcma") (codes ":") (codes "bcma-") p.member 0
stop_as manner.Cciss p = second_stop (codes "c") (codes "d") (codes "cciss-disk") p.member (row (codes "cciss") p.above)
stop_as manner.ScsiTape p = tape_stop p.is_begun p.member

-- what a device adds, with those above it: nothing without a subsystem, or if the table does not have it
unfoldable pub stop : EventValue → (is_begun : Bool) → DeviceValue → List DeviceValue → Stop
stop event is_begun m above =
    option_map_or (λ subsystem.
    let here : Passed = record { event = event; is_begun = is_begun; subsystem = subsystem; member = m; above = above } in
    option_map_or (λ by. stop_as by here) (manner_of subsystem) (passing false))
    m.subsystem (passing false)
