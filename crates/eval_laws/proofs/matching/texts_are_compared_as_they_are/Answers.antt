use Rattle.std.proofs.Common.{◌≡◌, ◌≢◌, ℕ, zero, suc, List, [], ◌∷◌, Option, Some, option_map, option_and_then, unwrap_or, ap, refl, subst, sym}
use Rattle.text_bytes.specs.declared.profile.Profile.{Profile}
use Rattle.text_bytes.specs.declared.profile.Profile.TheVariants.{Manual}
use Rattle.text_bytes.specs.Text.{Text}
use Rattle.text_tables.specs.Pairs.{value_of}
use Rattle.rule_types.specs.declared.roles.PlainKey.{PlainKey}
use Rattle.rule_types.specs.declared.roles.PlainKey.TheVariants as plain
use Rattle.rule_types.specs.declared.roles.UpKey.{UpKey}
use Rattle.rule_types.specs.declared.roles.UpKey.TheVariants as up
use Rattle.device_core.specs.Values.{DeviceValue}
use Rattle.eval_state.specs.Chains.{device_at, kernel_of}
use Rattle.eval_state.specs.Texts.{or_empty}
use Rattle.eval_state.specs.declared.state.State.{State}
use Rattle.eval_laws.specs.Comparing.{ComparesAsItIs, device_texts, event_texts}
use Rattle.eval_rendering.specs.Holding.{one}
use Rattle.eval_rendering.specs.Subjects.{is_known, members_by, plain_subject, subsystem_by, tags_at, up_subject}
use Rattle.eval_laws.proofs.Compared.{constant_in_place, members_in_place, one_in_place, unread_in_place}
use Rattle.eval_laws.proofs.matching.texts_are_compared_as_they_are.Goals as goal

subsystem_in_place : (profile : Profile) (text : Text) → profile ≡ Manual → ComparesAsItIs (subsystem_by profile text) (text ∷ [])
subsystem_in_place profile text e = subst (λ p. ComparesAsItIs (subsystem_by p text) (text ∷ [])) (sym e) (one_in_place text)

texts_are_there : (profile : Profile) (texts : List Text) → profile ≡ Manual → ComparesAsItIs (members_by profile texts) texts
texts_are_there profile texts e = subst (λ p. ComparesAsItIs (members_by p texts) texts) (sym e) (members_in_place texts)

event_in_place : (key : PlainKey) (state : State) → ((name : Text) → ¬ (key ≡ plain.Attr name)) → key ≢ plain.Subsystem → key ≢ plain.Symlink → key ≢ plain.Tag → ComparesAsItIs (plain_subject key state) (event_texts key state)
event_in_place plain.Action state other s l t = one_in_place _
event_in_place plain.Devpath state other s l t = one_in_place _
event_in_place plain.Kernel state other s l t = one_in_place _
event_in_place plain.Subsystem state other s l t = absurd (s refl)
event_in_place plain.Driver state other s l t = one_in_place _
event_in_place plain.Name state other s l t = one_in_place _
event_in_place plain.Symlink state other s l t = absurd (l refl)
event_in_place plain.Tag state other s l t = absurd (t refl)
event_in_place (plain.Attr name) state other s l t = absurd (other name refl)
event_in_place (plain.Sysctl name) state other s l t = unread_in_place
event_in_place (plain.Env name) state other s l t = one_in_place _
event_in_place (plain.Const name) state other s l t = constant_in_place (is_known name) (value_of state.event.constants name)

manual_event : (key : PlainKey) (state : State) → state.event.profile ≡ Manual → ((name : Text) → ¬ (key ≡ plain.Attr name)) → ComparesAsItIs (plain_subject key state) (event_texts key state)
manual_event plain.Action state manual other = one_in_place _
manual_event plain.Devpath state manual other = one_in_place _
manual_event plain.Kernel state manual other = one_in_place _
manual_event plain.Subsystem state manual other = subsystem_in_place state.event.profile (or_empty state.event.device.subsystem) manual
manual_event plain.Driver state manual other = one_in_place _
manual_event plain.Name state manual other = one_in_place _
manual_event plain.Symlink state manual other = texts_are_there state.event.profile state.links manual
manual_event plain.Tag state manual other = texts_are_there state.event.profile state.tags manual
manual_event (plain.Attr name) state manual other = absurd (other name refl)
manual_event (plain.Sysctl name) state manual other = unread_in_place
manual_event (plain.Env name) state manual other = one_in_place _
manual_event (plain.Const name) state manual other = constant_in_place (is_known name) (value_of state.event.constants name)

-- a device of the chain
one_there : (f : DeviceValue → Text) (o : Option DeviceValue) (device : DeviceValue) → o ≡ Some device → ComparesAsItIs (one (or_empty (option_map f o))) (f device ∷ [])
one_there f o device at = subst (λ p. ComparesAsItIs (one (or_empty (option_map f p))) (f device ∷ [])) (sym at) (one_in_place (f device))

maybe_there : (f : DeviceValue → Option Text) (o : Option DeviceValue) (device : DeviceValue) → o ≡ Some device
    → ComparesAsItIs (one (or_empty (option_and_then f o))) (or_empty (f device) ∷ [])
maybe_there f o device at = subst (λ p. ComparesAsItIs (one (or_empty (option_and_then f p))) (or_empty (f device) ∷ [])) (sym at) (one_in_place (or_empty (f device)))

device_in_place : (key : UpKey) (state : State) (place : ℕ) (device : DeviceValue) → device_at state.event place ≡ Some device → ((name : Text) → ¬ (key ≡ up.Attrs name)) → key ≢ up.Tags
    → ComparesAsItIs (up_subject key state place) (device_texts key state place device)
device_in_place up.Kernels state place device at other t = one_there kernel_of (device_at state.event place) device at
device_in_place up.Subsystems state place device at other t = maybe_there (λ d. d.subsystem) (device_at state.event place) device at
device_in_place up.Drivers state place device at other t = maybe_there (λ d. d.driver) (device_at state.event place) device at
device_in_place up.Tags state place device at other t = absurd (t refl)
device_in_place (up.Attrs name) state place device at other t = absurd (other name refl)

tags_there : (state : State) (place : ℕ) (device : DeviceValue) → device_at state.event place ≡ Some device → tags_at state place ≡ device_texts up.Tags state place device
tags_there state zero device at = refl
tags_there state (suc above) device at = ap (λ (o : Option DeviceValue). unwrap_or (option_map (λ (d : DeviceValue). d.tags) o) []) at

manual_device : (key : UpKey) (state : State) (place : ℕ) (device : DeviceValue) → device_at state.event place ≡ Some device → state.event.profile ≡ Manual → ((name : Text) → ¬ (key ≡ up.Attrs name))
    → ComparesAsItIs (up_subject key state place) (device_texts key state place device)
manual_device up.Kernels state place device at manual other = one_there kernel_of (device_at state.event place) device at
manual_device up.Subsystems state place device at manual other = maybe_there (λ d. d.subsystem) (device_at state.event place) device at
manual_device up.Drivers state place device at manual other = maybe_there (λ d. d.driver) (device_at state.event place) device at
manual_device up.Tags state place device at manual other =
    subst (ComparesAsItIs (members_by state.event.profile (tags_at state place))) (tags_there state place device at) (texts_are_there state.event.profile (tags_at state place) manual)
manual_device (up.Attrs name) state place device at manual other = absurd (other name refl)

pub returns : goal.returns
returns c = record { event = manual_event; device = manual_device; udev_event = event_in_place; udev_device = device_in_place; program = λ state. one_in_place state.result }
