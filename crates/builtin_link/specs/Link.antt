-- The outcome of net_setup_link.
use Rattle.std.specs.Prelude.{◌-◌, ◌^◌, ◌%◌, ◌/◌, ◌==◌, not, Bool, false, List, [], ◌∷◌, ◌++◌, codes, is_some}
use Rattle.std.specs.Prelude.{Option, Some, None, if◌then◌else◌}
use Rattle.std.specs.Option.{option_map_or}
use Rattle.text_bytes.specs.Texts.{is_empty}
use Rattle.text_bytes.specs.Text.{Text}
use Rattle.text_tables.specs.Texts.{is_among}
use Rattle.text_tables.specs.Pairs.{Pair, value_of}
use Rattle.device_core.specs.Values.{EventValue}
use Rattle.builtin_devices.specs.Devices.{attribute}
use Rattle.builtin_devices.specs.Numbers.{number_in}
use Rattle.builtin_devices.specs.declared.numbers.Base.TheVariants.{AsWritten}
use Rattle.builtin_devices.specs.Outcomes.{OutcomeValue, failing, needs_of, succeeding}
use Rattle.builtin_link.specs.Checks.{checks_of, is_for, lacked_words}
use Rattle.link_files.specs.Files.{LinkFileValue}
use Rattle.link_files.specs.Lists.{last_of, link_section}
use Rattle.builtin_link.specs.Policies.{name_of, present_name}
use Rattle.link_files.specs.declared.settings.Setting.{Setting}

-- the actions on which files are looked at
abbrev pub looking_actions : List Text
looking_actions = codes "add" ∷ codes "bind" ∷ codes "move" ∷ []

-- the file for an interface: the first one that is for it
abbrev pub file_for : EventValue → (env : List Pair) → List LinkFileValue → Option LinkFileValue
file_for event env [] = None
file_for event env (file ∷ files) = if is_for (checks_of event env file.settings) then Some file else file_for event env files

-- what would tell whether a file before that one is for it
abbrev pub file_needs : EventValue → (env : List Pair) → List LinkFileValue → List Text
file_needs event env [] = []
file_needs event env (file ∷ files) =
    let checks = checks_of event env file.settings in
    if is_for checks then [] else lacked_words checks ++ file_needs event env files

-- the keys of [Link] that set properties, which is not computed
abbrev pub property_keys : List Text
property_keys = codes "Property" ∷ codes "ImportProperty" ∷ codes "UnsetProperty" ∷ []

-- those of them that are given
abbrev pub given_keys : List Setting → List Text → List Text
given_keys settings [] = []
given_keys settings (key ∷ keys) = if is_empty (last_of link_section key settings) then given_keys settings keys else key ∷ given_keys settings keys

-- the properties of an interface that a file is for, of which drop-ins may be none
abbrev pub properties_by : LinkFileValue → (name : Text) → List Pair
properties_by file name =
    (codes "ID_NET_LINK_FILE", file.path) ∷ (codes "ID_NET_LINK_FILE_DROPINS", file.drop_ins) ∷ (codes "ID_NET_NAME", name) ∷ []

-- what a file sets, if there is one and there is a name
abbrev pub set_by : Option LinkFileValue → (name : Option Text) → List Pair
set_by None name = []
set_by (Some file) None = []
set_by (Some file) (Some name) = properties_by file name

-- the name that an interface gets by the file for it
abbrev pub name_with : EventValue → (env : List Pair) → Option LinkFileValue → Option Text
name_with event env None = None
name_with event env (Some file) = name_of event env file.settings

-- what would have to be known with the file for an interface: also its name, if there is none by the file
abbrev pub needs_with : EventValue → (env : List Pair) → Option LinkFileValue → List Text
needs_with event env None = []
needs_with event env (Some file) =
    given_keys file.settings property_keys ++ (if is_some (name_of event env file.settings) then [] else codes "INTERFACE" ∷ [])

-- the outcome if files are looked at
unfoldable pub by_files : EventValue → (env : List Pair) → List LinkFileValue → OutcomeValue
by_files event env files =
    let file = file_for event env files in
    succeeding (set_by file (name_with event env file)) (needs_of (file_needs event env files ++ needs_with event env file))

-- the number of a text whose bit of 8 says that an interface is the machine's own
abbrev pub is_loopback : (flags : Text) → Bool
is_loopback flags = option_map_or (λ n. n / 8 % 2 == 1) (number_in AsWritten (2 ^ 32 - 1) flags) false

-- the outcome if the interface keeps its name whatever files say
abbrev pub by_present : Option Text → OutcomeValue
by_present None = succeeding [] (needs_of (codes "INTERFACE" ∷ []))
by_present (Some name) = succeeding ((codes "ID_NET_NAME", name) ∷ []) (needs_of [])

-- The outcome of net_setup_link: on `add`, `bind` and `move` by the files, on any other action the name that the interface
-- has. It fails without an index. Nothing is set for the machine's own interface, nor for one without flags.
unfoldable pub net_setup_link : (files : List LinkFileValue) → EventValue → (env : List Pair) → OutcomeValue
net_setup_link files event env =
    if not (is_among looking_actions event.action) then by_present (present_name env)
    else if not (is_some (value_of event.device.env (codes "IFINDEX"))) then failing (needs_of (codes "IFINDEX" ∷ []))
    else option_map_or (λ flags. if is_loopback flags then succeeding [] (needs_of []) else by_files event env files)
    (attribute event.device (codes "flags")) (succeeding [] (needs_of (codes "flags" ∷ [])))
