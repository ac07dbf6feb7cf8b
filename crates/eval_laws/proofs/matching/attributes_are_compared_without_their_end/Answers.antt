use Rattle.std.proofs.Common.{◌≡◌, Option, Some, subst, sym, option_and_then}
use Rattle.text_bytes.specs.declared.profile.Profile.{Profile}
use Rattle.text_bytes.specs.declared.profile.Profile.TheVariants.{Manual}
use Rattle.text_bytes.specs.Text.{Text}
use Rattle.text_tables.specs.Pairs.{value_of}
use Rattle.device_core.specs.Values.{DeviceValue}
use Rattle.eval_state.specs.declared.state.State.{State}
use Rattle.eval_laws.specs.Comparing.{ComparesWithoutItsEnd}
use Rattle.eval_rendering.specs.Attributes.{attribute_by, value_by}
use Rattle.eval_rendering.specs.Holding.{attribute}
use Rattle.eval_rendering.specs.Subjects.{tried}
use Rattle.eval_laws.proofs.Compared.{attribute_cut}
use Rattle.eval_laws.proofs.matching.attributes_are_compared_without_their_end.Goals as goal

-- by the manual the attribute of this name is looked at, and no other
manual_cut : (profile : Profile) (name : Text) (state : State) (at : Option DeviceValue) (device : DeviceValue) (text : Text) → profile ≡ Manual → value_of device.attrs name ≡ Some text
    → ComparesWithoutItsEnd (attribute_by profile name state.event at (value_by profile name state device)) text
manual_cut profile name state at device text manual is =
    subst (λ p. ComparesWithoutItsEnd (attribute_by p name state.event at (value_by p name state device)) text) (sym manual)
    (subst (λ v. ComparesWithoutItsEnd (attribute v) text) (sym is) (attribute_cut text))

pub returns : goal.returns
returns c = record {
  event = (λ name text state manual at. manual_cut state.event.profile name state (Some state.event.device) state.event.device text manual at);
  device = (λ name text state place device manual at value.
      subst (λ (o : Option DeviceValue). ComparesWithoutItsEnd (attribute_by state.event.profile name state.event o (option_and_then (λ d. value_by state.event.profile name (tried state place) d) o)) text) (sym at)
      (manual_cut state.event.profile name (tried state place) (Some device) device text manual value));
}
