-- What is found by a name that is rendered.
use Rattle.std.proofs.Common.{◌≡◌, ◌≤◌, ◌<◌, Bool, true, false, not, ◌&&◌, nat_lt, length, Some, None, option_map, cond, refl, ap, ◌∙◌, arith}
use Rattle.std.proofs.lemmas.Bool.Decides.{nat_tests}
use Rattle.std.specs.Option.{option_and_then}
use Rattle.text_bytes.specs.Names.{open_bracket}
use Rattle.text_bytes.specs.Texts.{begins_with}
use Rattle.text_bytes.specs.Text.{Text}
use Rattle.device_core.specs.Values.{DeviceValue}
use Rattle.rule_tokens.specs.Substituted.{has_sign}
use Rattle.eval_state.specs.declared.state.State.{State}
use Rattle.eval_rendering.specs.Bounds.{short}
use Rattle.eval_rendering.specs.Names.{name_text}
use Rattle.eval_rendering.specs.Paths.{read_value}
use Rattle.eval_rendering.specs.Pieces.{as_read}
use Rattle.eval_rendering.specs.Attributes.{udev_value}

long_enough : (name : Text) → 511 < length name → nat_lt 511 (length name) ≡ true
long_enough name h = grind (arith, nat_tests)

short_enough : (name : Text) → length name ≤ 511 → nat_lt 511 (length name) ≡ false
short_enough name h = grind (arith, nat_tests)

pub plain_name : (name : Text) (state : State) (device : DeviceValue) → has_sign name ≡ false → udev_value name state device ≡ option_map as_read (read_value state.event device name)
unfolding udev_value
plain_name name state device none = ap (option_map as_read) (by (begins_with open_bracket name))
  where
    by : (b : Bool) → cond (not b && has_sign name) (option_and_then (read_value state.event device) (short (name_text name state))) (read_value state.event device name) ≡ read_value state.event device name
    by true = refl
    by false = ap (λ b. cond b (option_and_then (read_value state.event device) (short (name_text name state))) (read_value state.event device name)) none

by_rendering : (name : Text) (state : State) (device : DeviceValue) → begins_with open_bracket name ≡ false → has_sign name ≡ true
    → udev_value name state device ≡ option_map as_read (option_and_then (read_value state.event device) (short (name_text name state)))
unfolding udev_value
by_rendering name state device plain some =
    ap (λ b. option_map as_read (cond (not b && has_sign name) (option_and_then (read_value state.event device) (short (name_text name state))) (read_value state.event device name))) plain
    ∙ ap (λ b. option_map as_read (cond b (option_and_then (read_value state.event device) (short (name_text name state))) (read_value state.event device name))) some

pub short_name : (name : Text) (state : State) (device : DeviceValue) → begins_with open_bracket name ≡ false → has_sign name ≡ true → length (name_text name state) ≤ 511
    → udev_value name state device ≡ option_map as_read (read_value state.event device (name_text name state))
short_name name state device plain some fits =
    by_rendering name state device plain some ∙ ap (λ b. option_map as_read (option_and_then (read_value state.event device) (cond b None (Some (name_text name state))))) (short_enough (name_text name state) fits)

pub long_name : (name : Text) (state : State) (device : DeviceValue) → begins_with open_bracket name ≡ false → has_sign name ≡ true → 511 < length (name_text name state) → udev_value name state device ≡ None
long_name name state device plain some long =
    by_rendering name state device plain some ∙ ap (λ b. option_map as_read (option_and_then (read_value state.event device) (cond b None (Some (name_text name state))))) (long_enough (name_text name state) long)
