-- Which words may stand at a place of a row, and where the one that is begun there begins.
use Rattle.std.specs.Prelude.{◌-◌, ◌==◌, if◌then◌else◌, List, [], ◌∷◌, codes, length, Option, Some, None, option_map}
use Rattle.std.specs.List.{list_any, prefix_len}
use Rattle.text_bytes.specs.Names.{dollar, equals, hash, is_blank, space}
use Rattle.text_bytes.specs.Texts.{begins_with}
use Rattle.text_bytes.specs.declared.source_file.FileKind.{FileKind}
use Rattle.text_bytes.specs.declared.source_file.FileKind.TheVariants as file
use Rattle.text_bytes.specs.Text.{Text}
use Rattle.text_tables.specs.Texts.{is_among}
use Rattle.rule_types.specs.Names.{import_type_of, key_of, run_type_of}
use Rattle.rule_types.specs.declared.keys.Key.{Key}
use Rattle.rule_types.specs.declared.keys.Key.TheVariants as key
use Rattle.rule_types.specs.declared.types.ImportType.{ImportType}
use Rattle.rule_types.specs.declared.types.ImportType.TheVariants as import_of
use Rattle.rule_types.specs.declared.types.RunType.{RunType}
use Rattle.rule_types.specs.declared.types.RunType.TheVariants as run_of
use Rattle.lsp_words.specs.Contexts.{Context, context_of}
use Rattle.lsp_words.specs.declared.kinds.WordKind.{WordKind}
use Rattle.lsp_words.specs.declared.kinds.WordKind.TheVariants as kind
use Rattle.lsp_words.specs.declared.moves.Place.{Place}
use Rattle.lsp_words.specs.declared.moves.Place.TheVariants as place
use Rattle.lsp_words.specs.declared.slots.Slot.{Slot}

-- what is in the braces of a key
abbrev pub kind_in_braces : Option Key → Option WordKind
kind_in_braces (Some key.Attr) = Some kind.Attribute
kind_in_braces (Some key.Attrs) = Some kind.Attribute
kind_in_braces (Some key.Env) = Some kind.Property
kind_in_braces (Some key.Import) = Some kind.ImportType
kind_in_braces (Some key.Run) = Some kind.RunType
kind_in_braces (Some key.Const) = Some kind.Constant
kind_in_braces (Some key.Seclabel) = Some kind.Module
kind_in_braces _ = None

-- what an IMPORT of a type begins with
abbrev pub kind_in_import : Option ImportType → Option WordKind
kind_in_import (Some import_of.Builtin) = Some kind.Builtin
kind_in_import (Some import_of.Db) = Some kind.Property
kind_in_import (Some import_of.Parent) = Some kind.Property
kind_in_import _ = None

-- what a RUN of a type begins with
abbrev pub kind_in_run : Option RunType → Option WordKind
kind_in_run (Some run_of.Builtin) = Some kind.Builtin
kind_in_run _ = None

-- what the value of a key is made of, by what is in the key's braces
abbrev pub kind_in_value : Option Key → Text → Option WordKind
kind_in_value (Some key.Action) braces = Some kind.Action
kind_in_value (Some key.Subsystem) braces = Some kind.Subsystem
kind_in_value (Some key.Subsystems) braces = Some kind.Subsystem
kind_in_value (Some key.Options) braces = Some kind.RuleOption
kind_in_value (Some key.Import) braces = kind_in_import (import_type_of braces)
kind_in_value (Some key.Run) braces = kind_in_run (run_type_of braces)
kind_in_value _ braces = None

-- what is in the braces of a substitution
abbrev pub kind_in_name : Text → Option WordKind
kind_in_name name =
    if is_among (codes "$env" ∷ codes "%E" ∷ []) name then Some kind.Property
    else if is_among (codes "$attr" ∷ codes "%s" ∷ []) name then Some kind.Attribute
    else None

-- which words may stand at a place
abbrev pub kind_at : Place → Context → Option WordKind
kind_at place.Indent c = Some kind.Key
kind_at place.Gap c = Some kind.Key
kind_at place.Key c = Some kind.Key
kind_at place.Braces c = kind_in_braces (key_of c.key)
kind_at place.Head c = Some kind.Operator
kind_at place.Operator c = Some kind.Operator
kind_at place.Value c = kind_in_value (key_of c.key) c.braces
kind_at place.Name c = if begins_with dollar c.word then Some kind.Substitution else Some kind.Letter
kind_at place.Inner c = kind_in_name c.name
kind_at _ c = None

-- which words may stand at the end of these bytes of a rules file's row, and where the word that is begun there begins
abbrev pub slot_in : Text → Context → Option Slot
slot_in before c = option_map (λ k. record { kind = k; start = length before - length c.word }) (kind_at c.place c)

-- The same for a row of a database file: a property is indented, and ends at its `=`; any other row is a match, and a
-- `#` begins a comment.
abbrev pub database_slot : Text → Option Slot
database_slot before =
    if list_any (λ b. b == hash) before then None
    else (if begins_with space before
    then (if list_any (λ b. b == equals) before then None else Some (record { kind = kind.DatabaseProperty; start = prefix_len is_blank before }))
    else Some (record { kind = kind.Match; start = 0 }))

-- which words may stand at the end of these bytes of a row
unfoldable pub slot_of : FileKind → Text → Option Slot
slot_of file.Rules before = slot_in before (context_of before)
slot_of file.Hwdb before = database_slot before
