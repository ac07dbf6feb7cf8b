use Rattle.std.proofs.Common.{◌≡◌, ◌∙◌, List, [], ◌∷◌, ap, codes, refl, rules}
use Rattle.text_tables.specs.Pairs.{Pair, value_of}
use Rattle.device_core.specs.Values.{DeviceValue, EventValue}
use Rattle.builtin_devices.specs.Devices.{attribute}
use Rattle.link_files.specs.Lists.{list_of}
use Rattle.link_files.specs.declared.settings.Setting.{Setting}
use Rattle.link_files.specs.declared.words.WordKind.TheVariants.{Glob, Plain, Property}
use Rattle.builtin_link.specs.Checks.{address_check, kind_check, kind_checks, known_check, permanent_address, property_check}
use Rattle.builtin_link.specs.Hardware.{type_text}
use Rattle.builtin_link.specs.declared.checks.Check.{Check}
use Rattle.builtin_link.specs.declared.checks.Need.TheVariants.{Address, Hardware, PermanentAddress}
use Rattle.builtin_link.proofs.keys.kind_checks.Goals as goal

each : (event : EventValue) (env : List Pair) (settings : List Setting) (hardware kind address permanent property : Check)
    → hardware ≡ known_check Hardware (list_of Glob (codes "Type") settings) (type_text event)
    → kind ≡ kind_check (list_of Glob (codes "Kind") settings) (value_of event.constants (codes "kind"))
    → address ≡ address_check Address (list_of Plain (codes "MACAddress") settings) (attribute event.device (codes "address"))
    → permanent ≡ address_check PermanentAddress (list_of Plain (codes "PermanentMACAddress") settings) (permanent_address event)
    → property ≡ property_check env (list_of Property (codes "Property") settings)
    → hardware ∷ kind ∷ address ∷ permanent ∷ property ∷ [] ≡ kind_checks event env settings
unfolding kind_checks
each event env settings hardware kind address permanent property h k a p o = rw h (rw k (rw a (rw p (rw o refl))))

pub returns : goal.returns
returns c =
    let constants : c.constants.result.now ≡ c.args.event.now.constants = search rules in
    let device : c.device.result.now ≡ c.args.event.now.device = search rules in
    each c.args.event.now c.args.env.now c.args.settings.now c.in_ok-hardware.hardware c.in_ok-kind.kind c.in_ok-address.address
    c.in_ok-permanent.permanent c.in_ok-property.property
    (c.in_ok-hardware.ensures ∙ ap (known_check Hardware (list_of Glob (codes "Type") c.args.settings.now)) c.type_text.ensures)
    (c.in_ok-kind.ensures
    ∙ ap (kind_check (list_of Glob (codes "Kind") c.args.settings.now)) (c.get.ensures ∙ ap (λ (pairs : List Pair). value_of pairs (codes "kind")) constants))
    (c.in_ok-address.ensures
    ∙ ap (address_check Address (list_of Plain (codes "MACAddress") c.args.settings.now))
    (c.attribute-own.ensures ∙ ap (λ (d : DeviceValue). attribute d (codes "address")) device))
    (c.in_ok-permanent.ensures
    ∙ ap (address_check PermanentAddress (list_of Plain (codes "PermanentMACAddress") c.args.settings.now)) c.permanent_address-own.ensures)
    c.in_ok-property.ensures
