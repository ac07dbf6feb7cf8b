-- No property that is given has more than 127 bytes.
use Rattle.std.proofs.Common.{◌≡◌, ◌≤◌, ◌++◌, ◌∷◌, [], List, Bool, true, false, All, Option, Some, None, cond, length, nat_le, lit≤, refl, codes}
use Rattle.std.proofs.lemmas.Bool.{leb-true}
use Rattle.std.proofs.lemmas.List.Elements.{All-append, All-cons, All-nil}
use Rattle.std.specs.Prelude.{option_map}
use Rattle.std.specs.Option.{option_map_or}
use Rattle.text_bytes.specs.Text.{Text}
use Rattle.text_tables.specs.Pairs.{Pair}
use Rattle.device_core.specs.Values.{DeviceValue, EventValue}
use Rattle.builtin_devices.specs.Devices.{kernel_of}
use Rattle.builtin_devices.specs.Outcomes.{failing, succeeding}
use Rattle.builtin_net.specs.Allowed.{interface}
use Rattle.builtin_net.specs.Buses.{by_ccw, by_netdevsim, by_platform, by_vio, by_xen}
use Rattle.builtin_net.specs.Function.{function}
use Rattle.builtin_net.specs.Identity.{is_identified, naming}
use Rattle.builtin_net.specs.Names.{Given, all_names, alone, board_text, by_address, by_buses, by_carrier, by_function, by_kernels, by_pci}
use Rattle.builtin_net.specs.Names.{carrier, giving, label_of, of_function, of_named, own_pci, path_text, prefixed, slot_text, suffix_of, tail}
use Rattle.builtin_net.specs.Names.{with_suffix, with_tail}
use Rattle.builtin_net.specs.NetId.{names_of, needs, net_id}
use Rattle.builtin_net.specs.Port.{port_text}
use Rattle.builtin_net.specs.Prefixes.{prefix_text}
use Rattle.builtin_net.specs.Slots.{pci_above, slot_of}
use Rattle.builtin_net.specs.Trees.{by_tree}
use Rattle.builtin_net.specs.Virtual.{Named, named_function}
use Rattle.builtin_net.specs.declared.carriers.Bus.{Bus}
use Rattle.builtin_net.specs.declared.carriers.Bus.TheVariants.{Usb, Bcma}
use Rattle.builtin_net.specs.declared.functions.Function.{Function}
use Rattle.builtin_net.specs.declared.prefixes.Prefix.{Prefix}

abbrev Short : Pair → Type 0
Short pair = length pair.1 ≤ 127

record AreShort (pairs : List Pair) : Type 0 where
  each : All Short pairs

none : AreShort []
none = record { each = All-nil Short }

joined : {xs ys : List Pair} → AreShort xs → AreShort ys → AreShort (xs ++ ys)
joined {xs} {ys} p q = record { each = All-append Short xs ys p.each q.each }

kept : (key name : Text) (b : Bool) → nat_le (length name) 127 ≡ b → AreShort (cond b ((key, name) ∷ []) [])
kept key name true e = record { each = All-cons Short (key, name) [] (leb-true (length name) 127 e) (All-nil Short) }
kept key name false e = none

of_given : (key prefix : Text) (text : Option Text) → AreShort (prefixed key prefix text)
unfolding prefixed
of_given key prefix None = none
of_given key prefix (Some text) = kept key (prefix ++ text) (nat_le (length (prefix ++ text)) 127) refl

of_tail : (event : EventValue) (prefix : Prefix) (pci : DeviceValue) (f : Function) (tail : Text) → AreShort (with_tail event prefix pci f tail).properties
of_tail event prefix pci f tail =
    joined (of_given (codes "ID_NET_NAME_PATH") (prefix_text prefix) (Some (path_text f tail)))
    (of_given (codes "ID_NET_NAME_SLOT") (prefix_text prefix) (option_map (slot_text f tail) (slot_of event pci)))

-- what is given by something that may not be there
of_some : {A : Type 0} (gives : A → Given) (each : (a : A) → AreShort (gives a).properties) (some : Option A)
    → AreShort (option_map_or gives some (giving [])).properties
of_some gives each None = none
of_some gives each (Some a) = each a

of_by_function : (event : EventValue) (prefix : Prefix) (interface pci : DeviceValue) (suffix : Text)
    → AreShort (by_function event prefix interface pci suffix).properties
unfolding by_function
of_by_function event prefix interface pci suffix =
    of_some (of_function event prefix interface pci suffix)
    (λ f. of_some (λ text. with_tail event prefix pci f (tail event pci f text suffix))
    (λ text. of_tail event prefix pci f (tail event pci f text suffix)) (port_text prefix interface true))
    (function pci)

of_a_named : (event : EventValue) (prefix : Prefix) (interface : DeviceValue) (own : Option Named) → AreShort (of_named event prefix interface own).properties
of_a_named event prefix interface None = none
of_a_named event prefix interface (Some own) =
    joined
    (joined (of_given (codes "ID_NET_LABEL_ONBOARD") [] (label_of own.0 own.1))
    (of_given (codes "ID_NET_NAME_ONBOARD") (prefix_text prefix) (board_text prefix interface own.0 own.1)))
    (of_by_function event prefix interface own.0 own.1)

of_by_pci : (event : EventValue) (prefix : Prefix) (interface : DeviceValue) → AreShort (by_pci event prefix interface).properties
unfolding by_pci
of_by_pci event prefix interface =
    of_some (λ pci. of_named event prefix interface (named_function event pci)) (λ pci. of_a_named event prefix interface (named_function event pci))
    (own_pci event)

of_alone : (bus : Bus) (prefix : Prefix) (suffix : Text) → AreShort (alone bus prefix suffix)
of_alone Usb prefix suffix = of_given (codes "ID_NET_NAME_PATH") (prefix_text prefix) (Some suffix)
of_alone Bcma prefix suffix = none

of_suffix : (bus : Bus) (event : EventValue) (prefix : Prefix) (interface : DeviceValue) (pci : Option DeviceValue) (suffix : Option Text)
    → AreShort (with_suffix bus event prefix interface pci suffix).properties
of_suffix bus event prefix interface None None = none
of_suffix bus event prefix interface (Some pci) None = none
of_suffix bus event prefix interface None (Some suffix) = of_alone bus prefix suffix
of_suffix bus event prefix interface (Some pci) (Some suffix) = of_by_function event prefix interface pci suffix

of_by_carrier : (bus : Bus) (event : EventValue) (prefix : Prefix) (interface : DeviceValue) → AreShort (by_carrier bus event prefix interface).properties
unfolding by_carrier
of_by_carrier bus event prefix interface =
    of_some (λ device. with_suffix bus event prefix interface (pci_above event device) (suffix_of bus (kernel_of device)))
    (λ device. of_suffix bus event prefix interface (pci_above event device) (suffix_of bus (kernel_of device))) (carrier bus event)

of_by_kernels : (event : EventValue) (prefix : Text) → AreShort (by_kernels event prefix)
unfolding by_kernels
of_by_kernels event prefix =
    joined
    (joined (of_given (codes "ID_NET_NAME_PATH") prefix (by_ccw event)) (of_given (codes "ID_NET_NAME_SLOT") prefix (by_vio event)))
    (of_given (codes "ID_NET_NAME_PATH") prefix (by_platform event))

of_by_buses : (event : EventValue) (prefix : Text) (interface : DeviceValue) → AreShort (by_buses event prefix interface)
unfolding by_buses
of_by_buses event prefix interface =
    joined (joined (of_by_kernels event prefix) (of_given (codes "ID_NET_NAME_PATH") prefix (by_netdevsim event interface)))
    (of_given (codes "ID_NET_NAME_SLOT") prefix (by_xen event))

scheme : AreShort ((codes "ID_NET_NAMING_SCHEME", codes "v257") ∷ [])
scheme = record { each = All-cons Short (codes "ID_NET_NAMING_SCHEME", codes "v257") [] (lit≤ tt) (All-nil Short) }

of_names : (event : EventValue) (prefix : Prefix) (interface : DeviceValue) → AreShort (all_names event prefix interface).properties
unfolding all_names
of_names event prefix interface =
    joined
    (joined
    (joined
    (joined
    (joined (joined scheme (of_given (codes "ID_NET_NAME_MAC") (prefix_text prefix) (by_address prefix interface)))
    (of_given (codes "ID_NET_NAME_ONBOARD") (prefix_text prefix) (by_tree event prefix)))
    (of_by_buses event (prefix_text prefix) interface))
    (of_by_pci event prefix interface))
    (of_by_carrier Usb event prefix interface))
    (of_by_carrier Bcma event prefix interface)

outcome_short : (pairs : List Pair) (words : List Text) (b : Bool) → AreShort pairs
    → AreShort (cond b (succeeding pairs words) (failing words)).properties
outcome_short pairs words true h = h
outcome_short pairs words false h = none

pub all_short : (event : EventValue) (env : List Pair) → All (λ pair. length pair.1 ≤ 127) (net_id event env).properties
unfolding net_id
all_short event env =
    let i = interface event env in
    (outcome_short (names_of event i).properties (needs event i) (is_identified event i)
    (of_some (λ prefix. all_names event prefix i) (λ prefix. of_names event prefix i) (naming event i))).each
