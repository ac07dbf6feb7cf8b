-- The outcome of net_id.
use Rattle.std.specs.Prelude.{List, [], ◌++◌, codes, map, nat_eq, Option, Some, None, option_and_then, if◌then◌else◌}
use Rattle.std.specs.Char.{to_ascii_uppercase}
use Rattle.std.specs.List.{starts_with}
use Rattle.std.specs.Option.{option_map_or}
use Rattle.text_bytes.specs.Text.{Text}
use Rattle.text_tables.specs.Pairs.{Pair}
use Rattle.device_core.specs.Values.{DeviceValue, EventValue}
use Rattle.builtin_devices.specs.Outcomes.{OutcomeValue, failing, needs_of, succeeding}
use Rattle.builtin_net.specs.Allowed.{interface}
use Rattle.builtin_net.specs.Identity.{is_identified, naming}
use Rattle.builtin_net.specs.Names.{Given, all_names, giving, lasting_address}
use Rattle.builtin_net.specs.Needs.{own_needs}

-- the names of an interface that has some
abbrev pub names_of : EventValue → (interface : DeviceValue) → Given
names_of event interface = option_map_or (λ prefix. all_names event prefix interface) (naming event interface) (giving [])

-- what the block would have to report, each once
unfoldable pub needs : EventValue → (interface : DeviceValue) → List Text
needs event interface = needs_of (own_needs event interface ++ (names_of event interface).needs)

-- Whether it succeeds, what it sets and what it would have to know. The current properties of the event device say what
-- names may use of it.
unfoldable pub net_id : EventValue → (env : List Pair) → OutcomeValue
net_id event env =
    let i = interface event env in
    if is_identified event i then succeeding (names_of event i).properties (needs event i) else failing (needs event i)

-- what the hardware database is asked for an address: who made the interface; nothing if the first three bytes are 0
abbrev pub maker_lookup : (digits : Text) → Option Text
maker_lookup digits = if starts_with nat_eq digits (codes "000000") then None else Some (codes "OUI:" ++ map to_ascii_uppercase digits)

-- what it is asked for an interface that has names
unfoldable pub lookup : EventValue → (env : List Pair) → Option Text
lookup event env =
    let i = interface event env in
    option_and_then (λ prefix. option_and_then maker_lookup (lasting_address prefix i)) (naming event i)
