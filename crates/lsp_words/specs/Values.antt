-- What the value of a token is made of, by its key, what is in the braces, and its operator.
use Rattle.std.specs.Prelude.{Bool, true, false, not, ◌||◌, Option, Some, None, codes}
use Rattle.std.specs.Option.{option_map_or}
use Rattle.text_bytes.specs.Text.{Text}
use Rattle.text_tables.specs.Texts.{same_text}
use Rattle.rule_types.specs.Names.{import_type_of, key_of}
use Rattle.rule_types.specs.declared.keys.Key.{Key}
use Rattle.rule_types.specs.declared.keys.Key.TheVariants as key
use Rattle.rule_types.specs.declared.types.ImportType.{ImportType}
use Rattle.rule_types.specs.declared.types.ImportType.TheVariants as import_of

-- whether an operator compares
abbrev pub is_comparison : Text → Bool
is_comparison operator = same_text operator (codes "==") || same_text operator (codes "!=")

-- whether what an IMPORT of a type takes has substitutions
abbrev pub import_substitutes : Option ImportType → Bool
import_substitutes (Some import_of.Cmdline) = false
import_substitutes (Some import_of.Db) = false
import_substitutes _ = true

-- whether the value of a key has substitutions, if it is compared or if it is assigned
abbrev pub key_substitutes : Key → Text → Bool → Bool
key_substitutes key.Test braces compares = true
key_substitutes key.Program braces compares = true
key_substitutes key.Import braces compares = import_substitutes (import_type_of braces)
key_substitutes key.Name braces compares = not compares
key_substitutes key.Symlink braces compares = not compares
key_substitutes key.Tag braces compares = not compares
key_substitutes key.Attr braces compares = not compares
key_substitutes key.Sysctl braces compares = not compares
key_substitutes key.Env braces compares = not compares
key_substitutes key.Owner braces compares = true
key_substitutes key.Group braces compares = true
key_substitutes key.Mode braces compares = true
key_substitutes key.Seclabel braces compares = true
key_substitutes key.Run braces compares = true
key_substitutes _ braces compares = false

-- whether the value of a token has substitutions: not if there is no such key
unfoldable pub substitutes : Text → Text → Text → Bool
substitutes key braces operator = option_map_or (λ k. key_substitutes k braces (is_comparison operator)) (key_of key) false

-- whether a key takes words that a bar can stand between
abbrev pub key_splits : Option Key → Bool
key_splits (Some key.Action) = true
key_splits (Some key.Subsystem) = true
key_splits (Some key.Subsystems) = true
key_splits _ = false

-- whether a bar ends a word in the values of a key
unfoldable pub is_split : Text → Bool
is_split key = key_splits (key_of key)
