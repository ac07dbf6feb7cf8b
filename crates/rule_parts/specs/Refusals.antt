-- What udev refuses in a token whose key, attribute and operator are taken.
use Rattle.std.specs.Prelude.{Bool, ◌||◌, List, [], ◌∷◌, Option, Some, None, is_some, nat_eq, codes, if◌then◌else◌}
use Rattle.std.specs.Cmp.Lexicographic.{pointwise}
use Rattle.std.specs.List.{list_any}
use Rattle.text_bytes.specs.Text.{Text}
use Rattle.text_bytes.specs.Texts.{is_empty}
use Rattle.file_messages.specs.declared.message.MessageKind.TheVariants.{ReservedProperty, NameWithoutEffect, UnknownBuiltin}
use Rattle.text_bytes.specs.declared.profile.Profile.{Profile}
use Rattle.text_bytes.specs.declared.profile.Profile.TheVariants as profile
use Rattle.rule_types.specs.declared.types.ImportType.{ImportType}
use Rattle.rule_types.specs.declared.types.ImportType.TheVariants as import_of
use Rattle.rule_types.specs.declared.types.RunType.{RunType}
use Rattle.rule_types.specs.declared.types.RunType.TheVariants as run_of
use Rattle.rule_types.specs.declared.roles.Target.{Target}
use Rattle.rule_types.specs.declared.roles.Target.TheVariants as target
use Rattle.rule_types.specs.declared.roles.Role.{Role}
use Rattle.rule_types.specs.declared.roles.Role.TheVariants as role
use Rattle.rule_types.specs.Builtins.{builtin_of}
use Rattle.rule_parts.specs.Values.{finding}
use Rattle.rule_parts.specs.declared.finding.Finding.{Finding}

-- the properties that udev sets by itself, which no rule may set
abbrev pub reserved : List Text
reserved =
    codes "ACTION" ∷ codes "DEVLINKS" ∷ codes "DEVNAME" ∷ codes "DEVPATH" ∷ codes "DEVTYPE" ∷ codes "DRIVER"
    ∷ codes "IFINDEX" ∷ codes "MAJOR" ∷ codes "MINOR" ∷ codes "SEQNUM" ∷ codes "SUBSYSTEM" ∷ codes "TAGS" ∷ []

-- whether a property is one of these
abbrev pub is_reserved : Text → Bool
is_reserved property = list_any (λ name. pointwise nat_eq name property) reserved

-- whether a name leaves a device with the one that it has: the empty name, or that of the kernel
abbrev pub is_no_name : Text → Bool
is_no_name text = is_empty text || pointwise nat_eq text (codes "%k")

-- what udev refuses in an assignment of a text
abbrev pub refused_text : Target → Text → Option Finding
refused_text (target.Env property) text = if is_reserved property then Some (finding ReservedProperty property) else None
refused_text target.Name text = if is_no_name text then Some (finding NameWithoutEffect text) else None
refused_text _ text = None

-- what udev refuses in a text that has to ask for a builtin
abbrev pub refused_builtin : Text → Option Finding
refused_builtin text = if is_some (builtin_of text) then None else Some (finding UnknownBuiltin text)

-- what udev refuses in a command, by its type
abbrev pub refused_run : Option RunType → Text → Option Finding
refused_run (Some run_of.Builtin) text = refused_builtin text
refused_run _ text = None

-- what udev refuses in an import, by its type
abbrev pub refused_import : ImportType → Text → Option Finding
refused_import import_of.Builtin text = refused_builtin text
refused_import _ text = None

-- what udev refuses in a role with a value
unfoldable pub refusal_of : Role → Text → Option Finding
refusal_of (role.Set about o) text = refused_text about text
refusal_of (role.Run type o) text = refused_run type text
refusal_of (role.Import type o) text = refused_import type text
refusal_of _ text = None

-- the same by a profile: the manual refuses none of this
abbrev pub refusal_by : Profile → Role → Text → Option Finding
refusal_by profile.Manual r text = None
refusal_by profile.Udev r text = refusal_of r text
