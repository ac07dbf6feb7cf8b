-- Names of attributes that also name a device, as udev has them: `[SUBSYSTEM/KERNEL]ATTRIBUTE`.
use Rattle.std.specs.Prelude.{ℕ, Bool, false, ◌&&◌, if◌then◌else◌, [], ◌∷◌, length, drop, Option, Some, None, position}
use Rattle.std.specs.List.{range_with_len}
use Rattle.text_bytes.specs.Names.{close_bracket, open_bracket, slash}
use Rattle.text_bytes.specs.Texts.{begins_with, split_once}
use Rattle.text_bytes.specs.Text.{Text}
use Rattle.text_tables.specs.Texts.{same_text}
use Rattle.device_core.specs.Values.{DeviceValue, EventValue, chain}
use Rattle.eval_state.specs.Chains.{device_at, kernel_of}

-- a device that is named by its subsystem and its kernel's name, and an attribute of it
pub record NamedValue : Type 0 where
  pub subsystem : Text
  pub kernel : Text
  pub attribute : Text

-- a text without the slash that it begins with, if it begins with one
abbrev pub after_slash : Text → Text
after_slash text = if begins_with slash text then drop 1 text else text

-- a subsystem, and a text that is cut at the first `]`
abbrev pub named_by : Text → Option (Text × Text) → Option NamedValue
named_by subsystem None = None
named_by subsystem (Some cut) = Some (record { subsystem = subsystem; kernel = cut.0; attribute = after_slash cut.1 })

-- what follows `[`, cut at its first slash
abbrev pub named_after : Option (Text × Text) → Option NamedValue
named_after None = None
named_after (Some cut) = named_by cut.0 (split_once close_bracket cut.1)

-- what a name of an attribute names, if it names a device: the subsystem comes before the first slash, the kernel's
-- name before the first `]` after that, and one slash after it is not part of the attribute
unfoldable pub named : Text → Option NamedValue
named [] = None
named (b ∷ text) = if begins_with open_bracket (b ∷ text) then named_after (split_once slash text) else None

-- whether there is a subsystem, and it is this one
abbrev pub is_subsystem : Text → Option Text → Bool
is_subsystem name None = false
is_subsystem name (Some subsystem) = same_text subsystem name

-- whether there is a device, and it is the one that is named
abbrev pub is_named : NamedValue → Option DeviceValue → Bool
is_named n None = false
is_named n (Some device) = is_subsystem n.subsystem device.subsystem && same_text (kernel_of device) n.kernel

-- the place in the chain of the nearest device that is named so
unfoldable pub named_place : NamedValue → EventValue → Option ℕ
named_place n event = position (λ place. is_named n (device_at event place)) (range_with_len 0 (length (chain event)))
