-- Acts of a rule that are written with `==`.
use Rattle.std.specs.Prelude.{List, Option}
use Rattle.text_bytes.specs.Text.{Text}
use Rattle.text_core.specs.declared.item.Item.{Item}
use Rattle.rule_tokens.specs.Template.{Parts as Template}
use Rattle.rule_types.specs.declared.part.Act.{Act}
use Rattle.rule_types.specs.declared.part.ActKind.TheVariants as act_kind
use Rattle.rule_types.specs.declared.part.Import.TheVariants as import
use Rattle.rule_types.specs.declared.roles.MatchOperator.TheVariants.{Equal}

-- TEST of a path, with a mask if there is one
abbrev pub test : Option Text → Template → Act
test mask path = record { operator = Equal; kind = act_kind.Test mask path }

-- IMPORT{parent} of names, as they are written
abbrev pub parent_import : List (List Item) → Text → Act
parent_import names written = record { operator = Equal; kind = act_kind.Import (import.Parent names written) }

-- IMPORT{builtin} of a command
abbrev pub builtin_import : Template → Act
builtin_import command = record { operator = Equal; kind = act_kind.Import (import.Builtin command) }
