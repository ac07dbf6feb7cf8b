-- W1: MODE is not an octal number.
use Rattle.std.specs.Prelude.{Bool, ◌||◌, if◌then◌else◌, Option, Some, None, is_some}
use Rattle.std.specs.Option.{option_and_then}
use Rattle.text_bytes.specs.Text.{Text}
use Rattle.text_bytes.specs.declared.profile.Profile.{Profile}
use Rattle.text_bytes.specs.declared.profile.Profile.TheVariants.{Manual, Udev}
use Rattle.rule_tokens.specs.Substituted.{has_sign}
use Rattle.rule_types.specs.Topics.{is_mode, mode_of}
use Rattle.rule_types.specs.declared.part.Change.{Change}
use Rattle.rule_types.specs.declared.part.Change.TheVariants as change
use Rattle.rule_types.specs.declared.part.Part.{Part}
use Rattle.rule_types.specs.declared.roles.Target.TheVariants as target
use Rattle.rule_lints.specs.Parts.{change_of}

-- whether a text is taken as a mode: udev passes over blanks before the digits
abbrev pub is_mode_by : Profile → Text → Bool
is_mode_by Manual text = is_mode text
is_mode_by Udev text = is_some (mode_of text)

-- a text, if it is not a mode whatever the device is
abbrev pub no_mode : Profile → Text → Option Text
no_mode profile text = if has_sign text || is_mode_by profile text then None else Some text

-- the text that a change gives to MODE
abbrev pub mode_in : Change → Option Text
mode_in (change.Text target.Mode t) = Some t.written
mode_in _ = None

-- the same of a part
abbrev pub mode_given : Part → Option Text
mode_given p = option_and_then mode_in (change_of p)

-- the value with which W1 is reported
abbrev pub wrong_mode : Profile → Part → Option Text
wrong_mode profile p = option_and_then (no_mode profile) (mode_given p)
