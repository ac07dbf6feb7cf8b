-- The key and the attribute with which each part is written.
use Rattle.std.specs.Prelude.{Option, Some, None, option_map}
use Rattle.text_bytes.specs.Text.{Text}
use Rattle.rule_types.specs.Names.{import_name, run_name}
use Rattle.rule_types.specs.Written.{attribute_of_plain, attribute_of_target, attribute_of_up, key_of_plain, key_of_target, key_of_up}
use Rattle.rule_types.specs.declared.keys.Key.{Key}
use Rattle.rule_types.specs.declared.keys.Key.TheVariants as key
use Rattle.rule_types.specs.declared.types.ImportType.{ImportType}
use Rattle.rule_types.specs.declared.types.ImportType.TheVariants as import_of
use Rattle.rule_types.specs.declared.part.Part.{Part}
use Rattle.rule_types.specs.declared.part.Part.TheVariants as part
use Rattle.rule_types.specs.declared.part.ActKind.{ActKind}
use Rattle.rule_types.specs.declared.part.ActKind.TheVariants as act_kind
use Rattle.rule_types.specs.declared.part.Import.{Import}
use Rattle.rule_types.specs.declared.part.Import.TheVariants as import
use Rattle.rule_types.specs.declared.part.Change.{Change}
use Rattle.rule_types.specs.declared.part.Change.TheVariants as change

-- the type of an IMPORT
abbrev pub type_of : Import → ImportType
type_of (import.Program t) = import_of.Program
type_of (import.Builtin t) = import_of.Builtin
type_of (import.File t) = import_of.File
type_of (import.Parent names text) = import_of.Parent
type_of (import.Cmdline name) = import_of.Cmdline
type_of (import.Db name) = import_of.Db

-- the key of what an act does
abbrev pub key_of_act_kind : ActKind → Key
key_of_act_kind (act_kind.Test mask t) = key.Test
key_of_act_kind (act_kind.Program t) = key.Program
key_of_act_kind (act_kind.Import i) = key.Import

-- its attribute
abbrev pub attribute_of_act_kind : ActKind → Option Text
attribute_of_act_kind (act_kind.Test mask t) = mask
attribute_of_act_kind (act_kind.Program t) = None
attribute_of_act_kind (act_kind.Import i) = Some (import_name (type_of i))

-- the key of what an assignment changes
abbrev pub key_of_change : Change → Key
key_of_change (change.Option known) = key.Options
key_of_change (change.Text t text) = key_of_target t
key_of_change (change.Run type text) = key.Run

-- its attribute
abbrev pub attribute_of_change : Change → Option Text
attribute_of_change (change.Option known) = None
attribute_of_change (change.Text t text) = attribute_of_target t
attribute_of_change (change.Run type text) = option_map run_name type

-- the key of a part
abbrev pub key_of_part : Part → Key
key_of_part (part.Plain m) = key_of_plain m.key
key_of_part (part.Up m) = key_of_up m.key
key_of_part (part.Act a) = key_of_act_kind a.kind
key_of_part (part.Result c) = key.Result
key_of_part (part.Set a) = key_of_change a.change
key_of_part (part.Label name) = key.Label
key_of_part (part.Goto name) = key.Goto

-- the attribute of a part, if it has one
abbrev pub attribute_of_part : Part → Option Text
attribute_of_part (part.Plain m) = attribute_of_plain m.key
attribute_of_part (part.Up m) = attribute_of_up m.key
attribute_of_part (part.Act a) = attribute_of_act_kind a.kind
attribute_of_part (part.Set a) = attribute_of_change a.change
attribute_of_part _ = None
