-- The names of keys, and those of the types of IMPORT and RUN.
use Rattle.std.specs.Prelude.{List, [], ◌∷◌, Option, nat_eq, codes}
use Rattle.std.specs.List.{find}
use Rattle.std.specs.Cmp.Lexicographic.{pointwise}
use Rattle.text_bytes.specs.Text.{Text}
use Rattle.rule_types.specs.declared.keys.Key.{Key}
use Rattle.rule_types.specs.declared.keys.Key.TheVariants as key
use Rattle.rule_types.specs.declared.types.ImportType.{ImportType}
use Rattle.rule_types.specs.declared.types.ImportType.TheVariants as import_of
use Rattle.rule_types.specs.declared.types.RunType.{RunType}
use Rattle.rule_types.specs.declared.types.RunType.TheVariants as run_of

-- the name of a key
abbrev pub key_name : Key → Text
key_name key.Action = codes "ACTION"
key_name key.Devpath = codes "DEVPATH"
key_name key.Kernel = codes "KERNEL"
key_name key.Subsystem = codes "SUBSYSTEM"
key_name key.Driver = codes "DRIVER"
key_name key.Kernels = codes "KERNELS"
key_name key.Subsystems = codes "SUBSYSTEMS"
key_name key.Drivers = codes "DRIVERS"
key_name key.Tags = codes "TAGS"
key_name key.Result = codes "RESULT"
key_name key.Attrs = codes "ATTRS"
key_name key.Const = codes "CONST"
key_name key.Test = codes "TEST"
key_name key.Program = codes "PROGRAM"
key_name key.Import = codes "IMPORT"
key_name key.Name = codes "NAME"
key_name key.Symlink = codes "SYMLINK"
key_name key.Tag = codes "TAG"
key_name key.Attr = codes "ATTR"
key_name key.Sysctl = codes "SYSCTL"
key_name key.Env = codes "ENV"
key_name key.Owner = codes "OWNER"
key_name key.Group = codes "GROUP"
key_name key.Mode = codes "MODE"
key_name key.Seclabel = codes "SECLABEL"
key_name key.Run = codes "RUN"
key_name key.Options = codes "OPTIONS"
key_name key.Label = codes "LABEL"
key_name key.Goto = codes "GOTO"

-- all keys
abbrev pub keys : List Key
keys =
    key.Action ∷ key.Devpath ∷ key.Kernel ∷ key.Subsystem ∷ key.Driver ∷ key.Kernels ∷ key.Subsystems ∷ key.Drivers
    ∷ key.Tags ∷ key.Result ∷ key.Attrs ∷ key.Const ∷ key.Test ∷ key.Program ∷ key.Import ∷ key.Name ∷ key.Symlink
    ∷ key.Tag ∷ key.Attr ∷ key.Sysctl ∷ key.Env ∷ key.Owner ∷ key.Group ∷ key.Mode ∷ key.Seclabel ∷ key.Run
    ∷ key.Options ∷ key.Label ∷ key.Goto ∷ []

-- the key with a name, if there is one
unfoldable pub key_of : Text → Option Key
key_of text = find (λ k. pointwise nat_eq (key_name k) text) keys

-- the name of a type of IMPORT
abbrev pub import_name : ImportType → Text
import_name import_of.Program = codes "program"
import_name import_of.Builtin = codes "builtin"
import_name import_of.File = codes "file"
import_name import_of.Parent = codes "parent"
import_name import_of.Cmdline = codes "cmdline"
import_name import_of.Db = codes "db"

-- all types of IMPORT
abbrev pub import_types : List ImportType
import_types = import_of.Program ∷ import_of.Builtin ∷ import_of.File ∷ import_of.Parent ∷ import_of.Cmdline ∷ import_of.Db ∷ []

-- the type of IMPORT with a name, if there is one
unfoldable pub import_type_of : Text → Option ImportType
import_type_of text = find (λ t. pointwise nat_eq (import_name t) text) import_types

-- the name of a type of RUN
abbrev pub run_name : RunType → Text
run_name run_of.Program = codes "program"
run_name run_of.Builtin = codes "builtin"

-- the type of RUN with a name, if there is one
unfoldable pub run_type_of : Text → Option RunType
run_type_of text = find (λ t. pointwise nat_eq (run_name t) text) (run_of.Program ∷ run_of.Builtin ∷ [])
