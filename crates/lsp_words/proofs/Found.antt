-- Each word is found by its name: for each kind, by computing.
use Rattle.std.proofs.Common.{◌≡◌, length, map, refl}
use Rattle.std.specs.Prelude.{Some}
use Rattle.lsp_words.specs.Entries.{entry_at, fits}
use Rattle.lsp_words.specs.Tables.{entries_of}
use Rattle.lsp_words.specs.declared.kinds.WordKind.{WordKind}
use Rattle.lsp_words.specs.declared.kinds.WordKind.TheVariants as kind

-- the words of a kind are found by their names
abbrev pub AreFound : WordKind → Type 0
AreFound k = map (λ row. entry_at (entries_of k) (length row.name) row.name) (entries_of k) ≡ map Some (entries_of k)

key_found : AreFound kind.Key
unfolding entries_of fits
key_found = refl

operator_found : AreFound kind.Operator
unfolding entries_of fits
operator_found = refl

import_type_found : AreFound kind.ImportType
unfolding entries_of fits
import_type_found = refl

run_type_found : AreFound kind.RunType
unfolding entries_of fits
run_type_found = refl

attribute_found : AreFound kind.Attribute
unfolding entries_of fits
attribute_found = refl

property_found : AreFound kind.Property
unfolding entries_of fits
property_found = refl

constant_found : AreFound kind.Constant
unfolding entries_of fits
constant_found = refl

module_found : AreFound kind.Module
unfolding entries_of fits
module_found = refl

builtin_found : AreFound kind.Builtin
unfolding entries_of fits
builtin_found = refl

rule_option_found : AreFound kind.RuleOption
unfolding entries_of fits
rule_option_found = refl

action_found : AreFound kind.Action
unfolding entries_of fits
action_found = refl

subsystem_found : AreFound kind.Subsystem
unfolding entries_of fits
subsystem_found = refl

substitution_found : AreFound kind.Substitution
unfolding entries_of fits
substitution_found = refl

letter_found : AreFound kind.Letter
unfolding entries_of fits
letter_found = refl

match_found : AreFound kind.Match
unfolding entries_of fits
match_found = refl

database_property_found : AreFound kind.DatabaseProperty
unfolding entries_of fits
database_property_found = refl

-- the words of any kind are
pub all_found : (k : WordKind) → AreFound k
all_found kind.Key = key_found
all_found kind.Operator = operator_found
all_found kind.ImportType = import_type_found
all_found kind.RunType = run_type_found
all_found kind.Attribute = attribute_found
all_found kind.Property = property_found
all_found kind.Constant = constant_found
all_found kind.Module = module_found
all_found kind.Builtin = builtin_found
all_found kind.RuleOption = rule_option_found
all_found kind.Action = action_found
all_found kind.Subsystem = subsystem_found
all_found kind.Substitution = substitution_found
all_found kind.Letter = letter_found
all_found kind.Match = match_found
all_found kind.DatabaseProperty = database_property_found
