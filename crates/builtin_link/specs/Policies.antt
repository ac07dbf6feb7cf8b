-- The name of an interface.
use Rattle.std.specs.Prelude.{ℕ, ◌&&◌, ◌||◌, not, Bool, false, List, [], ◌∷◌, codes, fold}
use Rattle.std.specs.Prelude.{Option, Some, None, option_and_then, if◌then◌else◌}
use Rattle.std.specs.Bool.{then_some}
use Rattle.std.specs.Option.{option_map_or, option_or}
use Rattle.text_bytes.specs.Texts.{is_empty}
use Rattle.text_bytes.specs.Text.{Text}
use Rattle.text_tables.specs.Texts.{same_text}
use Rattle.text_tables.specs.Pairs.{Pair, value_of}
use Rattle.device_core.specs.Values.{EventValue}
use Rattle.builtin_devices.specs.Files.{file_at}
use Rattle.builtin_devices.specs.Numbers.{is_number}
use Rattle.builtin_link.specs.Numbers.{own_number}
use Rattle.eval_commands.specs.Cmdline.{cmdline_value}
use Rattle.link_files.specs.Booleans.{is_no}
use Rattle.link_files.specs.Lists.{is_of, last_of, link_section}
use Rattle.link_files.specs.Names.{is_interface_name}
use Rattle.link_files.specs.Words.{words_of}
use Rattle.link_files.specs.declared.settings.Setting.{Setting}
use Rattle.link_files.specs.declared.words.WordKind.TheVariants.{Plain}

-- whether a policy says that the interface keeps its name, by where that comes from, as the kernel counts it: 2 for one that
-- it can predict, 3 and 4 for one that a program gave it as it was made or later
unfoldable pub keeps_name : (source : Option ℕ) → (policy : Text) → Bool
keeps_name source policy =
    same_text policy (codes "kernel") && is_number 2 source
    || same_text policy (codes "keep") && (is_number 3 source || is_number 4 source)

-- the property that has the name by a policy
unfoldable pub property_of : (policy : Text) → Option Text
property_of policy =
    if same_text policy (codes "database") then Some (codes "ID_NET_NAME_FROM_DATABASE")
    else if same_text policy (codes "onboard") then Some (codes "ID_NET_NAME_ONBOARD")
    else if same_text policy (codes "slot") then Some (codes "ID_NET_NAME_SLOT")
    else if same_text policy (codes "path") then Some (codes "ID_NET_NAME_PATH")
    else if same_text policy (codes "mac") then Some (codes "ID_NET_NAME_MAC")
    else None

-- the name by a policy, if it may be the name of an interface
abbrev pub name_by : List Pair → (policy : Text) → Option Text
name_by env policy = option_and_then (λ name. then_some (is_interface_name name) name) (option_and_then (value_of env) (property_of policy))

-- The name by policies in turn: the first that says that the name is kept, or that has a name, counts. If none does,
-- it is the one that is left.
abbrev pub name_by_policies : (source : Option ℕ) → List Pair → (kept left : Option Text) → (policies : List Text) → Option Text
name_by_policies source env kept left [] = left
name_by_policies source env kept left (policy ∷ policies) =
    if keeps_name source policy then kept
    else option_or (name_by env policy) (name_by_policies source env kept left policies)

-- what one more setting makes of the name that is given: an empty value takes it back, and an invalid one is ignored
abbrev pub with_name : Option Text → Setting → Option Text
with_name held setting =
    if not (is_of link_section (codes "Name") setting) then held
    else if is_empty setting.value then None
    else if is_interface_name setting.value then Some setting.value
    else held

-- the name that is given
unfoldable pub given_name : List Setting → Option Text
given_name settings = fold with_name None settings

-- the policies, of which the last list counts
unfoldable pub policies_of : List Setting → List Text
policies_of settings = words_of Plain (last_of link_section (codes "NamePolicy") settings)

-- whether policies count: the kernel's command line, or the words of it that the block gives, may give `net.ifnames` a word for no
unfoldable pub policies_count : EventValue → Bool
policies_count event =
    let line = option_or (file_at event (codes "cmdline")) (file_at event (codes "cmdline.part")) in
    not (option_map_or is_no (option_and_then (cmdline_value (codes "net.ifnames")) line) false)

-- the name that an interface has
abbrev pub present_name : List Pair → Option Text
present_name env = value_of env (codes "INTERFACE")

-- the name if no policy has one: the one that is given, or else the one that it has
abbrev pub name_left : List Pair → List Setting → Option Text
name_left env settings = option_or (given_name settings) (present_name env)

-- The name that a new interface gets.
unfoldable pub new_name : EventValue → (env : List Pair) → List Setting → Option Text
new_name event env settings =
    if policies_count event
    then name_by_policies (own_number event (codes "name_assign_type")) env (present_name env) (name_left env settings) (policies_of settings)
    else name_left env settings

-- the name by the event: only a new interface is named
unfoldable pub name_of : EventValue → (env : List Pair) → List Setting → Option Text
name_of event env settings = if same_text event.action (codes "add") then new_name event env settings else present_name env
