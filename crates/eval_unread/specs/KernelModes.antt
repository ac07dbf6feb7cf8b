-- The mode that the kernel gives the node of a device, which counts if no rule sets one.
use Rattle.std.specs.Prelude.{ℕ, if◌then◌else◌, Option, None, is_some, option_map, codes}
use Rattle.std.specs.Option.{option_and_then, option_or}
use Rattle.text_bytes.specs.Names.{digit_zero}
use Rattle.text_bytes.specs.Texts.{begins_with}
use Rattle.text_bytes.specs.declared.profile.Profile.{Profile}
use Rattle.text_bytes.specs.declared.profile.Profile.TheVariants.{Manual, Udev}
use Rattle.text_bytes.specs.Text.{Text}
use Rattle.text_tables.specs.Pairs.{value_of}
use Rattle.rule_types.specs.Topics.{mode_of}
use Rattle.device_core.specs.Values.{DeviceValue, EventValue}
use Rattle.eval_assignments.specs.Modes.{four_digits}
use Rattle.eval_rules.specs.declared.outcome.Outcome.{Outcome}

-- the mode that a text is, if it is written as the kernel writes it: octal digits after a zero
abbrev pub written_mode : Text → Option ℕ
written_mode text = if begins_with digit_zero text then mode_of text else None

-- the mode of the node of a device by its property DEVMODE, if it has a number
abbrev pub node_mode : DeviceValue → Option Text
node_mode device =
    if is_some device.number then option_map four_digits (option_and_then written_mode (value_of device.env (codes "DEVMODE"))) else None

-- the mode that the kernel gives by a profile: by the manual none is looked at
abbrev pub kernel_mode : Profile → EventValue → Option Text
kernel_mode Manual event = None
kernel_mode Udev event = node_mode event.device

-- an outcome with the kernel's mode, if it has none
abbrev pub with_kernel_mode : EventValue → Outcome → Outcome
with_kernel_mode event o = record o { mode = option_or o.mode (kernel_mode event.profile event) }
