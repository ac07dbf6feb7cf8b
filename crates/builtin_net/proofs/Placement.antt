-- Interfaces upon others, and those of which names may use nothing.
use Rattle.std.proofs.Common.{◌≡◌, ◌&&◌, List, [], Bool, true, false, Some, None, cond, refl, ap, ◌∙◌, is_some}
use Rattle.std.specs.Prelude.{option_and_then}
use Rattle.std.specs.Option.{option_map_or}
use Rattle.link_files.specs.Booleans.{is_yes}
use Rattle.text_bytes.specs.Text.{Text}
use Rattle.text_tables.specs.Pairs.{Pair, value_of}
use Rattle.device_core.specs.Values.{DeviceValue, EventValue}
use Rattle.builtin_devices.specs.Devices.{type_of}
use Rattle.builtin_devices.specs.Outcomes.{failing, succeeding}
use Rattle.builtin_net.specs.Allowed.{attribute_name, interface, is_allowed, number, permission, permission_of_all, permits, read}
use Rattle.builtin_net.specs.Identity.{index, is_alone, is_identified, is_link, naming}
use Rattle.builtin_net.specs.Names.{all_names, giving}
use Rattle.builtin_net.specs.NetId.{names_of, needs, net_id}
use Rattle.builtin_net.specs.Prefixes.{prefix_of}
use Rattle.builtin_net.specs.declared.allowed.Attribute.TheVariants.{Hardware, Iflink}

no_naming : (event : EventValue) (i : DeviceValue) → is_alone event i ≡ false → naming event i ≡ None
unfolding naming
no_naming event i h = ap (λ b. cond b (option_and_then (λ hardware. prefix_of hardware (type_of event.device)) (number i Hardware)) None) h

empty_outcome : (pairs : List Pair) (words : List Text) (b : Bool) → pairs ≡ [] → (cond b (succeeding pairs words) (failing words)).properties ≡ []
empty_outcome pairs words true h = h
empty_outcome pairs words false h = refl

pub stacked : (event : EventValue) (env : List Pair) → is_alone event (interface event env) ≡ false → (net_id event env).properties ≡ []
unfolding net_id
stacked event env h =
    let i = interface event env in
    empty_outcome (names_of event i).properties (needs event i) (is_identified event i)
    (ap (λ prefix. (option_map_or (λ p. all_names event p i) prefix (giving [])).properties) (no_naming event i h))

not_allowed : (env : List Pair) (word : Text) → value_of env permission_of_all ≡ Some word → is_yes word ≡ false
    → value_of env (permission Iflink) ≡ None → is_allowed env Iflink ≡ false
unfolding is_allowed
not_allowed env word all denied own =
    ap (λ o. permits o (value_of env permission_of_all)) own ∙ ap (λ o. permits None o) all ∙ denied

not_read : (i : DeviceValue) → is_allowed i.env Iflink ≡ false → read i Iflink ≡ None
unfolding read
not_read i h = ap (λ b. cond b (value_of i.attrs (attribute_name Iflink)) None) h

and_false : (b : Bool) → (b && false) ≡ false
and_false true = refl
and_false false = refl

not_identified : (event : EventValue) (i : DeviceValue) → read i Iflink ≡ None → is_identified event i ≡ false
unfolding is_identified
not_identified event i h = ap (λ o. is_some (index event) && option_map_or is_link o false) h ∙ and_false (is_some (index event))

pub forbidden : (event : EventValue) (env : List Pair) (word : Text)
    → value_of env permission_of_all ≡ Some word → is_yes word ≡ false → value_of env (permission Iflink) ≡ None
    → (net_id event env).is_done ≡ false
unfolding net_id
forbidden event env word all denied own =
    let i = interface event env in
    ap (λ b. (cond b (succeeding (names_of event i).properties (needs event i)) (failing (needs event i))).is_done)
    (not_identified event i (not_read i (not_allowed env word all denied own)))
