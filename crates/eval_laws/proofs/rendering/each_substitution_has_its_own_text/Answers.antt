use Rattle.std.proofs.Common.{◌≡◌, ℕ, Option, Some, None, option_and_then, option_map, unwrap_or, codes, ap, refl, ◌∙◌}
use Rattle.text_bytes.specs.Texts.{trimmed}
use Rattle.text_bytes.specs.declared.profile.Profile.{Profile}
use Rattle.text_bytes.specs.Text.{Text}
use Rattle.device_core.specs.Values.{DeviceValue, NumberValue}
use Rattle.text_bytes.specs.Safe.{attribute_marks, safe}
use Rattle.eval_state.specs.Chains.{device_at, kernel_of}
use Rattle.eval_state.specs.Texts.{or_empty}
use Rattle.eval_state.specs.declared.state.State.{State}
use Rattle.eval_rendering.specs.Pieces.{attribute_as, number_as, own_name, selected_device}
use Rattle.eval_laws.proofs.rendering.each_substitution_has_its_own_text.Goals as goal

-- the selected device
selected_is : (state : State) (place : ℕ) (device : DeviceValue) → state.selected ≡ Some place → device_at state.event place ≡ Some device → selected_device state ≡ Some device
selected_is state place device selected at = ap (λ (o : Option ℕ). option_and_then (device_at state.event) o) selected ∙ at

none_is : (state : State) → state.selected ≡ None → selected_device state ≡ None
none_is state selected = ap (λ (o : Option ℕ). option_and_then (device_at state.event) o) selected

pub returns : goal.returns
returns c = record {
  device = (λ state. (refl, refl, refl));
  numbers = (λ state number e. (
    ap (λ (o : Option NumberValue). unwrap_or (option_map (λ (n : NumberValue). n.major) o) (codes "0")) e,
    ap (λ (o : Option NumberValue). unwrap_or (option_map (λ (n : NumberValue). n.minor) o) (codes "0")) e,
  ));
  no_numbers = (λ state e. (
    ap (λ (o : Option NumberValue). unwrap_or (option_map (λ (n : NumberValue). n.major) o) (codes "0")) e,
    ap (λ (o : Option NumberValue). unwrap_or (option_map (λ (n : NumberValue). n.minor) o) (codes "0")) e,
  ));
  selected = (λ state place device selected at. (
    ap (λ (o : Option DeviceValue). or_empty (option_map kernel_of o)) (selected_is state place device selected at),
    ap (λ (o : Option DeviceValue). or_empty (option_and_then (λ (d : DeviceValue). d.driver) o)) (selected_is state place device selected at),
  ));
  none_selected = (λ state selected. (
    ap (λ (o : Option DeviceValue). or_empty (option_map kernel_of o)) (none_is state selected),
    ap (λ (o : Option DeviceValue). or_empty (option_and_then (λ (d : DeviceValue). d.driver) o)) (none_is state selected),
  ));
  parent = (λ state parent at. ap (λ (o : Option DeviceValue). or_empty (option_and_then (λ (d : DeviceValue). d.node) o)) at);
  program = (λ state number. (refl, refl, refl));
  kept = (λ state name. (refl, refl));
  assigned = (λ state name e. ap (λ (o : Option Text). unwrap_or o (own_name state.event.profile state.event.device)) e);
  manual = (λ state manual. (
    ap (λ (p : Profile). number_as p (kernel_of state.event.device)) manual,
    (λ name. ap (λ (p : Profile). safe attribute_marks (trimmed (attribute_as p name state))) manual),
    (λ e. ap (λ (o : Option Text). unwrap_or o (own_name state.event.profile state.event.device)) e
        ∙ ap (λ (p : Profile). own_name p state.event.device) manual),
  ));
  written = (λ state text. (refl, refl, refl));
}
