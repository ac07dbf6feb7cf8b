use Rattle.std.proofs.Common.{◌≡◌, ℕ, Bool, true, cond, List, Option, Some, ap, refl, subst, sym}
use Rattle.text_bytes.specs.declared.profile.Profile.{Profile}
use Rattle.text_bytes.specs.declared.profile.Profile.TheVariants.{Manual}
use Rattle.text_bytes.specs.Text.{Text}
use Rattle.text_tables.specs.Pairs.{value_of}
use Rattle.rule_types.specs.declared.roles.PlainKey.{PlainKey}
use Rattle.rule_types.specs.declared.roles.PlainKey.TheVariants as plain
use Rattle.rule_types.specs.declared.roles.UpKey.{UpKey}
use Rattle.rule_types.specs.declared.roles.UpKey.TheVariants as up
use Rattle.device_core.specs.Values.{DeviceValue}
use Rattle.eval_state.specs.Chains.{device_at}
use Rattle.eval_state.specs.Texts.{or_empty}
use Rattle.eval_state.specs.declared.state.State.{State}
use Rattle.eval_rendering.specs.Attributes.{attribute_by, own_attribute, value_by}
use Rattle.eval_rendering.specs.Holding.{constant, holds, never}
use Rattle.eval_rendering.specs.Subjects.{is_known, members_by, plain_subject, subsystem_by, tags_at, tried, up_subject}
use Rattle.eval_laws.specs.Comparing.{AreOpposite}
use Rattle.eval_laws.proofs.Compared.{attribute_opposite, constant_opposite, members_opposite, never_both, one_opposite, unread_opposite}
use Rattle.eval_laws.proofs.matching.unequal_holds_just_where_equal_does_not.Goals as goal

subsystem_opposite : (profile : Profile) (text : Text) → profile ≡ Manual → AreOpposite (subsystem_by profile text)
subsystem_opposite profile text e = subst (λ p. AreOpposite (subsystem_by p text)) (sym e) (one_opposite text)

texts_opposite : (profile : Profile) (texts : List Text) → profile ≡ Manual → AreOpposite (members_by profile texts)
texts_opposite profile texts e = subst (λ p. AreOpposite (members_by p texts)) (sym e) (members_opposite texts)

value_opposite : (profile : Profile) (name : Text) (state : State) (at : Option DeviceValue) (value : Option Text) → profile ≡ Manual → AreOpposite (attribute_by profile name state.event at value)
value_opposite profile name state at value e = subst (λ p. AreOpposite (attribute_by p name state.event at value)) (sym e) (attribute_opposite value)

known_opposite : (known : Bool) (value : Option Text) → known ≡ true → AreOpposite (cond known (constant value) never)
known_opposite known value e = subst (λ b. AreOpposite (cond b (constant value) never)) (sym e) (constant_opposite value)

event_opposite : (key : PlainKey) (state : State) → state.event.profile ≡ Manual → ((name : Text) → key ≡ plain.Const name → is_known name ≡ true) → AreOpposite (plain_subject key state)
event_opposite plain.Subsystem state manual known = subsystem_opposite state.event.profile (or_empty state.event.device.subsystem) manual
event_opposite plain.Symlink state manual known = texts_opposite state.event.profile state.links manual
event_opposite plain.Tag state manual known = texts_opposite state.event.profile state.tags manual
event_opposite (plain.Attr name) state manual known = value_opposite state.event.profile name state (Some state.event.device) (value_by state.event.profile name state state.event.device) manual
event_opposite (plain.Sysctl name) state manual known = unread_opposite
event_opposite (plain.Const name) state manual known = known_opposite (is_known name) (value_of state.event.constants name) (known name refl)
event_opposite key state manual known = one_opposite _

device_opposite : (key : UpKey) (state : State) (place : ℕ) → state.event.profile ≡ Manual → AreOpposite (up_subject key state place)
device_opposite up.Tags state place manual = texts_opposite state.event.profile (tags_at state place) manual
device_opposite (up.Attrs name) state place manual = value_opposite state.event.profile name state (device_at state.event place) (own_attribute name (tried state place) place) manual
device_opposite key state place manual = one_opposite _

pub returns : goal.returns
unfolding holds
returns c = record {
  event = event_opposite;
  device = device_opposite;
  program = λ state. one_opposite state.result;
  unknown = (λ name state wanted e. ap (λ b. holds (cond b (constant (value_of state.event.constants name)) never) wanted) e);
  udev = never_both;
}
