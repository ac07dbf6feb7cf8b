-- path_id: what is made from the parts.
use Rattle.std.specs.Prelude.{ℕ, ◌+◌, Bool, false, true, not, ◌&&◌, ◌||◌, ◌==◌, List, [], ◌∷◌, ◌++◌, codes, drop, filter_map, flat_map}
use Rattle.std.specs.Prelude.{if◌then◌else◌, is_none, is_some, map, option_and_then, Option, Some, None, reverse, slice_index, take}
use Rattle.std.specs.Char.{is_ascii_alphanumeric}
use Rattle.std.specs.List.{join_with_byte, list_any, prefix_len}
use Rattle.std.specs.Option.{option_map_or}
use Rattle.text_bytes.specs.Names.{minus, space, underscore}
use Rattle.text_bytes.specs.Numbers.{is_digit}
use Rattle.text_bytes.specs.Texts.{ends_in, without_last}
use Rattle.text_bytes.specs.Underscores.{underscored}
use Rattle.text_tables.specs.Pairs.{Pair}
use Rattle.text_bytes.specs.Text.{Text}
use Rattle.text_tables.specs.Texts.{with_texts}
use Rattle.device_core.specs.Values.{DeviceValue, EventValue}
use Rattle.builtin_devices.specs.Devices.{is_text, type_of}
use Rattle.builtin_devices.specs.Outcomes.{OutcomeValue, failing, succeeding}
use Rattle.builtin_path.specs.Members.{is_in}
use Rattle.builtin_path.specs.Texts.{first_place}
use Rattle.builtin_path.specs.Way.{members_of, stops_of}
use Rattle.builtin_path.specs.declared.stops.Next.{Next}
use Rattle.builtin_path.specs.declared.stops.Next.TheVariants.{Fails}
use Rattle.builtin_path.specs.declared.stops.Share.{Share}
use Rattle.builtin_path.specs.declared.stops.Share.TheVariants.{Apart, Both, Ata}
use Rattle.builtin_path.specs.declared.stops.Stop.{Stop}

-- the parts that stops add, the highest first
abbrev pub parts : List Stop → List Text
parts stops = reverse (filter_map (λ s. s.part) stops)

-- what a part adds to the compatible path, by its share
abbrev pub share_of : Share → Option Text → Option Text
share_of Apart part = None
share_of Both part = part
share_of (Ata port) part = Some port

-- what a stop adds to the compatible path
abbrev pub shared : Stop → Option Text
shared s = share_of s.share s.part

-- whether a share is that of a port of ATA
abbrev pub is_ata : Share → Bool
is_ata (Ata port) = true
is_ata _ = false

-- the parts of the compatible path, the highest first: it begins at the first port of ATA
abbrev pub compatible_parts : List Stop → List Text
compatible_parts stops = reverse (filter_map shared (drop (prefix_len (λ s. not (is_ata s.share)) stops) stops))

-- whether a stop makes path_id fail
abbrev pub is_failing : Next → Bool
is_failing Fails = true
is_failing _ = false

-- whether a known transport leads to the event device, which only a block device needs
abbrev pub is_reached : EventValue → List Stop → Bool
is_reached event stops = not (is_text (codes "block") event.device.subsystem) || list_any (λ s. s.transport) stops

-- whether stops are a path: none of them makes path_id fail, one adds a part, one is a known parent, and for a block
-- device one is a known transport
unfoldable pub is_whole : EventValue → List Stop → Bool
is_whole event stops =
    not (list_any (λ s. is_failing s.next) stops) && list_any (λ s. is_some s.part) stops && list_any (λ s. s.parent) stops
    && is_reached event stops

-- the place of the revision in a text: that of the first `-usbv`, if a digit and `-` follow
unfoldable pub revision_place : Text → Option ℕ
revision_place text =
    option_and_then (λ place. if is_digit (slice_index text (place + 5)) && slice_index text (place + 6) == minus then Some place else None)
    (first_place (codes "-usbv") text)

-- a byte for a tag: letters and digits of ASCII and `-` stay, and any other is a space
abbrev pub tag_byte : ℕ → ℕ
tag_byte b = if is_ascii_alphanumeric b || b == minus then b else space

-- a text as a tag: runs of other bytes are one `_` each, with none at the ends, of at most 511 bytes
unfoldable pub tag : Text → Text
tag text =
    let cut = take 511 (underscored (map tag_byte text)) in
    if ends_in underscore cut then without_last cut else cut

-- a text without its revision of USB: without the `v` and the digit there
abbrev pub plain_path : Text → Text
plain_path text = option_map_or (λ place. take (place + 4) text ++ drop (place + 6) text) (revision_place text) text

-- what is set for a text that has a revision
abbrev pub revision_pairs : Text → List Pair
revision_pairs text = option_map_or (λ place. (codes "ID_PATH_WITH_USB_REVISION", text) ∷ []) (revision_place text) []

-- the compatible path, if it has a part
abbrev pub compatible_pairs : List Text → List Pair
compatible_pairs [] = []
compatible_pairs (part ∷ parts) = (codes "ID_PATH_ATA_COMPAT", join_with_byte minus (part ∷ parts)) ∷ []

-- what path_id sets for stops
unfoldable pub properties_of : List Stop → List Pair
properties_of stops =
    let text = join_with_byte minus (parts stops) in
    let path = plain_path text in
    revision_pairs text ++ (codes "ID_PATH", path) ∷ (codes "ID_PATH_TAG", tag path) ∷ [] ++ compatible_pairs (compatible_parts stops)

-- whether a device of usb or scsi has no type, though each of these has one
abbrev pub lacks_type : DeviceValue → Bool
lacks_type m = (is_in (codes "usb") m || is_in (codes "scsi") m) && is_none (type_of m)

-- what a block would have to report about such devices: the type
abbrev pub type_needs : List DeviceValue → List Text
type_needs members = if list_any lacks_type members then codes "DEVTYPE" ∷ [] else []

-- what a block would have to report, each once
unfoldable pub needs : List DeviceValue → List Stop → List Text
needs members stops = with_texts (type_needs members) (flat_map (λ s. s.needs) stops)

-- the outcome of path_id over an event
unfoldable pub path_id : EventValue → OutcomeValue
path_id event =
    let stops = stops_of event in
    let missing = needs (members_of event) stops in
    if is_whole event stops then succeeding (properties_of stops) missing else failing missing
