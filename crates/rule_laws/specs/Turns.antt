-- In which order the assignments of a rule are evaluated, in terms of how their values are written.
use Rattle.std.specs.Prelude.{◌≡◌, ◌↔◌, ◌⊎◌, ◌<◌, ◌≤◌, ◌+◌, ◌==◌, ℕ, Bool, true, List, [], ◌∷◌, ◌++◌, Option, Some, None, length, map, filter, All}
use Rattle.std.specs.List.{AllByRecursion}
use Rattle.text_bytes.specs.Text.{Text}
use Rattle.text_bytes.specs.Names.{digit_zero, dollar, is_blank, open_bracket, percent}
use Rattle.rule_tokens.specs.Grammar.{AllAre}
use Rattle.rule_types.specs.WrittenParts.{key_of_act_kind, key_of_change, type_of}
use Rattle.rule_types.specs.declared.keys.Key.{Key}
use Rattle.rule_types.specs.declared.keys.Key.TheVariants as key
use Rattle.rule_types.specs.declared.types.ImportType.{ImportType}
use Rattle.rule_types.specs.declared.types.ImportType.TheVariants as import_of
use Rattle.rule_types.specs.declared.part.ActKind.{ActKind}
use Rattle.rule_types.specs.declared.part.ActKind.TheVariants as act_kind
use Rattle.rule_types.specs.declared.part.Assignment.{Assignment}
use Rattle.rule_types.specs.declared.part.Change.{Change}
use Rattle.rule_types.specs.declared.part.Change.TheVariants as change
use Rattle.rule_types.specs.declared.roles.Target.TheVariants as target

-- a text has a byte somewhere
pub record HasByte (byte : ℕ) (text : Text) : Type 0 where
  pub before : Text
  pub following : Text
  pub cut : text ≡ before ++ byte ∷ following

-- a text has a `$` or a `%`, or begins with `[`
abbrev pub HasSubstitution : Text → Type 0
HasSubstitution text = HasByte dollar text ⊎ (HasByte percent text ⊎ ((rest : Text) × (text ≡ open_bracket ∷ rest)))

-- a text writes a mode, which is at most 7777: blanks, zeros, and one to four octal digits
pub record WritesMode (text : Text) : Type 0 where
  pub blanks : Text
  pub zeros : Text
  pub digits : Text
  pub written : text ≡ blanks ++ (zeros ++ map (λ d. digit_zero + d) digits)
  pub blank : AllAre is_blank blanks
  pub are_zero : AllAre (λ b. b == digit_zero) zeros
  pub octal : AllByRecursion (λ d. d < 8) digits
  pub some : 0 < length digits
  pub few : length digits ≤ 4

-- a change of OWNER or GROUP to a text without substitutions, or of MODE to a mode: known when the rule is read
abbrev pub IsKnown : Change → Type 0
IsKnown (change.Text target.Owner t) = ¬ HasSubstitution t.written
IsKnown (change.Text target.Group t) = ¬ HasSubstitution t.written
IsKnown (change.Text target.Mode t) = WritesMode t.written
IsKnown _ = ⊥

-- a change of OWNER, GROUP or MODE to another text, which is rendered for each event
abbrev pub IsRendered : Change → Type 0
IsRendered (change.Text target.Owner t) = HasSubstitution t.written
IsRendered (change.Text target.Group t) = HasSubstitution t.written
IsRendered (change.Text target.Mode t) = ¬ WritesMode t.written
IsRendered _ = ⊥

-- none that is rendered comes after one that is known
abbrev pub KnownComeLast : List Assignment → Type 0
KnownComeLast sets =
    (before : List Assignment) (known : Assignment) (following : List Assignment) → sets ≡ before ++ known ∷ following → IsKnown known.change
    → All (λ other. ¬ IsRendered other.change) following

-- the keys that assign, in the order in which the assignments of a rule are made by the manual
abbrev pub keys_in_order : List Key
keys_in_order =
    key.Options ∷ key.Owner ∷ key.Group ∷ key.Mode ∷ key.Tag ∷ key.Seclabel ∷ key.Env ∷ key.Name ∷ key.Symlink ∷ key.Attr ∷ key.Sysctl
    ∷ key.Run ∷ []

-- the types of IMPORT, in the order in which those of a rule are done, after TEST and PROGRAM
abbrev pub imports_in_order : List ImportType
imports_in_order = import_of.File ∷ import_of.Program ∷ import_of.Builtin ∷ import_of.Db ∷ import_of.Cmdline ∷ import_of.Parent ∷ []

-- what acts in the order in which it is done: each key, and of an IMPORT its type
abbrev pub acts_in_order : List (Key × Option ImportType)
acts_in_order = (key.Test, None) ∷ (key.Program, None) ∷ map (λ type. (key.Import, Some type)) imports_in_order

-- the key of what an act does, and of an IMPORT its type
abbrev pub key_and_type : ActKind → Key × Option ImportType
key_and_type (act_kind.Import import) = (key.Import, Some (type_of import))
key_and_type other = (key_of_act_kind other, None)

-- the assignments of each key, by any test that just these pass, are those that were written, in that order
abbrev pub EachKeyAsWritten : List Assignment → List Assignment → Type 0
EachKeyAsWritten written sets =
    (k : Key) (is_of : Assignment → Bool) → ((a : Assignment) → (is_of a ≡ true) ↔ (key_of_change a.change ≡ k)) → filter is_of sets ≡ filter is_of written
