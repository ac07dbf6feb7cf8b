use Rattle.std.proofs.Common.{◌≡◌, cond, Option, None, is_some, option_map, codes, refl, ap, ◌∙◌}
use Rattle.std.specs.Option.{option_and_then, option_or}
use Rattle.text_bytes.specs.declared.profile.Profile.{Profile}
use Rattle.text_bytes.specs.declared.profile.Profile.TheVariants.{Manual, Udev}
use Rattle.text_bytes.specs.Text.{Text}
use Rattle.text_tables.specs.Pairs.{value_of}
use Rattle.device_core.specs.Values.{EventValue, NumberValue}
use Rattle.eval_assignments.specs.Modes.{four_digits}
use Rattle.eval_unread.specs.KernelModes.{kernel_mode, written_mode}
use Rattle.eval_unread.proofs.laws.the_mode_of_a_node_is_the_kernels_unless_rules_set_one.Goals as goal

-- a device without a number has none, by either profile
numberless : (event : EventValue) (profile : Profile) → event.device.number ≡ None → kernel_mode profile event ≡ None
numberless event Manual none = refl
numberless event Udev none =
    ap (λ (o : Option NumberValue). cond (is_some o) (option_map four_digits (option_and_then written_mode (value_of event.device.env (codes "DEVMODE")))) None) none

pub returns : goal.returns
returns c = record {
  set = (λ event o mode set. ap (λ (given : Option Text). option_or given (kernel_mode event.profile event)) set);
  manual = (λ event o manual none. ap (λ (given : Option Text). option_or given (kernel_mode event.profile event)) none ∙ ap (λ profile. kernel_mode profile event) manual);
  kernel = (λ event o number digits mode udev none has written read.
      ap (λ (given : Option Text). option_or given (kernel_mode event.profile event)) none
      ∙ ap (λ profile. kernel_mode profile event) udev
      ∙ ap (λ (n : Option NumberValue). cond (is_some n) (option_map four_digits (option_and_then written_mode (value_of event.device.env (codes "DEVMODE")))) None) has
      ∙ ap (λ (t : Option Text). option_map four_digits (option_and_then written_mode t)) written
      ∙ ap (option_map four_digits) read);
  numberless = (λ event o none absent. ap (λ (given : Option Text). option_or given (kernel_mode event.profile event)) none ∙ numberless event event.profile absent);
}
