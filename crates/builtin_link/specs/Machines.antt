-- The conditions of a .link file on the machine, by what a block tells of it.
use Rattle.std.specs.Prelude.{Bool, true, false, not, ◌&&◌, ◌||◌, if◌then◌else◌, List, [], ◌∷◌, Option, Some, None, option_map, option_and_then, codes}
use Rattle.std.specs.Bool.{beq, then_some}
use Rattle.std.specs.List.{list_any}
use Rattle.std.specs.Option.{option_eq, option_map_or, option_or}
use Rattle.text_bytes.specs.Texts.{first, following, is_empty, unindented}
use Rattle.text_bytes.specs.Text.{Text}
use Rattle.text_tables.specs.Texts.{is_among, same_text}
use Rattle.text_tables.specs.Pairs.{value_of}
use Rattle.link_files.specs.Booleans.{is_no, is_yes}
use Rattle.link_files.specs.Words.{words_of}
use Rattle.link_files.specs.declared.words.WordKind.TheVariants.{Property}
use Rattle.device_core.specs.Values.{EventValue}
use Rattle.builtin_devices.specs.Files.{file_at}
use Rattle.eval_commands.specs.Cmdline.{has_word}
use Rattle.eval_commands.specs.Words.{is_quote}
use Rattle.builtin_link.specs.Versions.{asked, is_as_value_asks}
use Rattle.builtin_link.specs.declared.checks.Need.{Need}
use Rattle.builtin_link.specs.declared.checks.Need.TheVariants.{Architecture, KernelCommandLine, KernelVersion, Virtualization}

-- the names of virtualization that are those of containers
abbrev pub containers : List Text
containers =
    codes "systemd-nspawn" ∷ codes "lxc-libvirt" ∷ codes "lxc" ∷ codes "openvz" ∷ codes "docker" ∷ codes "podman" ∷ codes "rkt" ∷ codes "wsl"
    ∷ codes "proot" ∷ codes "pouch" ∷ codes "container-other" ∷ []

-- whether the value of Virtualization is true of a machine, by the name of its virtualization: it is a word for whether the machine is
-- virtual, or for one that is virtual the kind of virtualization, or its name
abbrev pub is_virtualized : (virt value : Text) → Bool
is_virtualized virt value =
    if is_yes value then not (same_text virt (codes "none"))
    else if is_no value then same_text virt (codes "none")
    else if same_text virt (codes "none") then false
    else if same_text value (codes "vm") then not (is_among containers virt)
    else if same_text value (codes "container") then is_among containers virt
    else same_text value virt

-- the same by what the event tells; whether users are mapped it does not tell
abbrev pub virtualization_holds : EventValue → Text → Option Bool
virtualization_holds event value =
    if same_text value (codes "private-users") then None
    else option_map (λ virt. is_virtualized virt value) (value_of event.constants (codes "virt"))

-- whether the value of Architecture is that of the machine, if the event tells it
abbrev pub architecture_holds : EventValue → Text → Option Bool
architecture_holds event value = option_map (λ arch. same_text value arch || same_text value (codes "native")) (value_of event.constants (codes "arch"))

-- whether the kernel's command line has a word: the whole line, if the event gives that, or else a part of it, which does not tell
-- what it lacks
abbrev pub command_line_holds : EventValue → Text → Option Bool
command_line_holds event word =
    option_or (option_map (has_word word) (file_at event (codes "cmdline")))
    (option_and_then (λ part. then_some (has_word word part) true) (file_at event (codes "cmdline.part")))

-- whether a value begins with an operator alone, whose text udev takes with its quotes, and there are some
abbrev pub is_unclear : Text → Bool
is_unclear value = option_map_or (λ word. is_empty (asked word).text && list_any is_quote value) (first (words_of Property value)) false

-- whether the value of KernelVersion, which may be negated, is true of the kernel, if the event tells it; what can't be understood is
-- true of none
abbrev pub version_holds : EventValue → (is_negated : Bool) → Text → Option Bool
version_holds event is_negated value =
    if is_unclear value then None
    else option_map (λ version. option_eq beq (is_as_value_asks version value) (Some (not is_negated))) (value_of event.constants (codes "kernel"))

-- whether a condition holds of the machine, by what would tell it and its value, if the event tells it
abbrev pub condition_holds : EventValue → Need → Text → Option Bool
condition_holds event Architecture value = architecture_holds event value
condition_holds event Virtualization value = virtualization_holds event value
condition_holds event KernelCommandLine value = command_line_holds event value
condition_holds event KernelVersion value = version_holds event false value
condition_holds event need value = None

-- the same for a value with a `!` in front, by what follows that
abbrev pub negated_holds : EventValue → Need → Text → Option Bool
negated_holds event KernelVersion value = version_holds event true value
negated_holds event need value = option_map not (condition_holds event need value)

-- whether a condition holds, as it is written
unfoldable pub written_holds : EventValue → Need → Text → Option Bool
written_holds event need value =
    option_map_or (λ rest. negated_holds event need (unindented rest)) (following (codes "!") value) (condition_holds event need value)
