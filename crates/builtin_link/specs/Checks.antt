-- Whether a .link file is for an interface, and what a block would have to report to tell.
use Rattle.std.specs.Prelude.{◌&&◌, Bool, true, false, List, [], ◌∷◌, ◌++◌, codes, filter_map, map}
use Rattle.std.specs.Prelude.{Option, Some, None, if◌then◌else◌}
use Rattle.std.specs.List.{list_all, list_any}
use Rattle.std.specs.Option.{option_map_or}
use Rattle.text_bytes.specs.Texts.{is_empty}
use Rattle.text_bytes.specs.Text.{Text}
use Rattle.text_tables.specs.Pairs.{Pair, value_of}
use Rattle.text_bytes.specs.Kernels.{kernel_name}
use Rattle.device_core.specs.Values.{EventValue}
use Rattle.builtin_devices.specs.Devices.{attribute, some_text}
use Rattle.builtin_devices.specs.Numbers.{is_number}
use Rattle.builtin_link.specs.Addresses.{are_addresses, has_address}
use Rattle.builtin_link.specs.Globs.{are_true_of, passes_if}
use Rattle.builtin_link.specs.Hardware.{type_text}
use Rattle.builtin_link.specs.Machines.{written_holds}
use Rattle.builtin_link.specs.Numbers.{own_number}
use Rattle.link_files.specs.Lists.{last_of, list_of, match_section}
use Rattle.link_files.specs.declared.settings.Setting.{Setting}
use Rattle.link_files.specs.declared.words.WordKind.TheVariants.{Plain, Name, Glob, Property}
use Rattle.builtin_link.specs.declared.checks.Check.{Check}
use Rattle.builtin_link.specs.declared.checks.Check.TheVariants.{Absent, Holds, Fails, Lacks}
use Rattle.builtin_link.specs.declared.checks.Need.{Need}
use Rattle.builtin_link.specs.declared.checks.Need.TheVariants.{Driver, Kind, Hardware, Address, PermanentAddress, MacAddress}
use Rattle.builtin_link.specs.declared.checks.Need.TheVariants.{Host, Virtualization, KernelCommandLine, KernelVersion, Credential, Architecture, Firmware}

-- the word for what a block lacks
abbrev pub word_of : Need → Text
word_of Driver = codes "ID_NET_DRIVER"
word_of Kind = codes "Kind"
word_of Hardware = codes "type"
word_of Address = codes "address"
word_of PermanentAddress = codes "permaddr"
word_of MacAddress = codes "MACAddress"
word_of Host = codes "Host"
word_of Virtualization = codes "Virtualization"
word_of KernelCommandLine = codes "cmdline"
word_of KernelVersion = codes "KernelVersion"
word_of Credential = codes "Credential"
word_of Architecture = codes "Architecture"
word_of Firmware = codes "Firmware"

-- a check of a key that is given
abbrev pub check_of : (holds : Bool) → Check
check_of holds = if holds then Holds else Fails

-- whether the name, the path .. fits the words that are given for it; a word with `!` may fit even what is not there
unfoldable pub text_check : List Text → Option Text → Check
text_check words text = if is_empty words then Absent else check_of (passes_if words text)

-- the same for what each interface has: without it, it is not known
unfoldable pub known_check : Need → List Text → Option Text → Check
known_check need words None = if is_empty words then Absent else Lacks need
known_check need words (Some text) = text_check words (Some text)

-- whether an address, which the block may lack, is one of the words that are given for it: not known if it is none of them and
-- a word is no address of six or twenty bytes
unfoldable pub address_check : Need → List Text → Option Text → Check
address_check need words text =
    if is_empty words then Absent
    else option_map_or (λ t. if has_address words t then Holds else if are_addresses words then Fails else Lacks MacAddress) text (Lacks need)

-- the address of the hardware: that of the interface, if the block says that this is it, or else what the block says of it
unfoldable pub permanent_address : EventValue → Option Text
permanent_address event =
    if is_number 0 (own_number event (codes "addr_assign_type"))
    then attribute event.device (codes "address")
    else value_of event.constants (codes "permaddr")

-- whether the words are true of the properties
unfoldable pub property_check : List Pair → List Text → Check
property_check env words = if is_empty words then Absent else check_of (are_true_of env words)

-- a condition on the machine, by its key, if the block tells whether it holds; an empty value asks nothing
abbrev pub condition_check : EventValue → List Setting → Text × Need → Check
condition_check event settings condition =
    let value = last_of match_section condition.0 settings in
    if is_empty value then Absent else option_map_or check_of (written_holds event condition.1 value) (Lacks condition.1)

-- whether the kind of an interface fits the words that are given for it: an empty kind is none
unfoldable pub kind_check : List Text → Option Text → Check
kind_check words None = known_check Kind words None
kind_check words (Some kind) = text_check words (some_text (Some kind))

-- the conditions on the machine
abbrev pub conditions : List (Text × Need)
conditions =
    (codes "Host", Host)
    ∷ (codes "Virtualization", Virtualization)
    ∷ (codes "KernelCommandLine", KernelCommandLine)
    ∷ (codes "KernelVersion", KernelVersion)
    ∷ (codes "Credential", Credential)
    ∷ (codes "Architecture", Architecture)
    ∷ (codes "Firmware", Firmware)
    ∷ []

-- what the keys about the interface say of its name, its place and its driver
unfoldable pub name_checks : EventValue → (env : List Pair) → List Setting → List Check
name_checks event env settings =
    text_check (list_of Name (codes "OriginalName") settings) (Some (kernel_name event.device.path))
    ∷ text_check (list_of Glob (codes "Path") settings) (value_of env (codes "ID_PATH"))
    ∷ known_check Driver (list_of Glob (codes "Driver") settings) (value_of env (codes "ID_NET_DRIVER"))
    ∷ []

-- what they say of its type, its kind, its addresses and its properties
unfoldable pub kind_checks : EventValue → (env : List Pair) → List Setting → List Check
kind_checks event env settings =
    known_check Hardware (list_of Glob (codes "Type") settings) (type_text event)
    ∷ kind_check (list_of Glob (codes "Kind") settings) (value_of event.constants (codes "kind"))
    ∷ address_check Address (list_of Plain (codes "MACAddress") settings) (attribute event.device (codes "address"))
    ∷ address_check PermanentAddress (list_of Plain (codes "PermanentMACAddress") settings) (permanent_address event)
    ∷ property_check env (list_of Property (codes "Property") settings)
    ∷ []

-- what the keys of [Match] say, each by itself
unfoldable pub checks_of : EventValue → (env : List Pair) → List Setting → List Check
checks_of event env settings = name_checks event env settings ++ kind_checks event env settings ++ map (condition_check event settings) conditions

-- whether a key is given
abbrev pub is_given : Check → Bool
is_given Absent = false
is_given _ = true

-- whether a key says nothing against the interface
abbrev pub is_met : Check → Bool
is_met Absent = true
is_met Holds = true
is_met _ = false

-- whether a key says that the file is not for the interface
abbrev pub is_failing : Check → Bool
is_failing Fails = true
is_failing _ = false

-- the word for what is not known
abbrev pub lacked_word : Check → Option Text
lacked_word (Lacks need) = Some (word_of need)
lacked_word _ = None

-- A file is for an interface if a key is given, and each that is given says so.
abbrev pub is_for : List Check → Bool
is_for checks = list_any is_given checks && list_all is_met checks

-- what would tell whether it is, if no key says that it is not
abbrev pub lacked_words : List Check → List Text
lacked_words checks = if list_any is_failing checks then [] else filter_map lacked_word checks
