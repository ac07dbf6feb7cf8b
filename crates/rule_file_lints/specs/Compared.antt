-- Values that rules compare, and assignments of them for which a comparison was most likely meant.
use Rattle.std.specs.Prelude.{if◌then◌else◌, List, [], ◌∷◌, ◌++◌, filter_map, flat_map, Option, Some, None, option_map}
use Rattle.std.specs.List.{list_any}
use Rattle.text_bytes.specs.Names.{open_brace, close_brace}
use Rattle.text_bytes.specs.Text.{Text}
use Rattle.text_tables.specs.Texts.{is_among}
use Rattle.rule_lints.specs.declared.lint.Lint.{Lint}
use Rattle.rule_types.specs.Names.{key_name}
use Rattle.rule_types.specs.declared.keys.Key.{Key}
use Rattle.rule_types.specs.declared.keys.Key.TheVariants as key
use Rattle.rule_lints.specs.declared.lint.Lint.TheVariants.{MeantToCompare}
use Rattle.rule_types.specs.declared.part.Change.{Change}
use Rattle.rule_types.specs.declared.part.Change.TheVariants as change
use Rattle.rule_types.specs.declared.part.Part.{Part}
use Rattle.rule_types.specs.declared.part.Part.TheVariants as part
use Rattle.rule_types.specs.declared.roles.AssignOperator.{AssignOperator}
use Rattle.rule_types.specs.declared.roles.AssignOperator.TheVariants as assign
use Rattle.rule_types.specs.declared.roles.PlainKey.{PlainKey}
use Rattle.rule_types.specs.declared.roles.PlainKey.TheVariants as plain
use Rattle.rule_types.specs.declared.roles.Target.{Target}
use Rattle.rule_types.specs.declared.roles.Target.TheVariants as target
use Rattle.rule_file_lints.specs.FileRules.{FileRule}
use Rattle.rule_file_lints.specs.Matches.{by_equal, is_match}
use Rattle.rule_types.specs.Tokens.{WrittenPart}
use Rattle.rule_types.specs.Spots.{spot_at_key}
use Rattle.rule_types.specs.declared.spot.Spot.{Spot}

-- a property or an attribute with a value: its key, its name, and the value
pub record Valued : Type 0 where
  pub key : Key
  pub name : Text
  pub value : Text

-- the same as a rule writes it, without operator and quotes
abbrev pub text_of : Valued → Text
text_of v = key_name v.key ++ open_brace ∷ v.name ++ close_brace ∷ v.value

-- a property or an attribute with a value
abbrev pub valued : Key → Text → Text → Valued
valued k name value = record { key = k; name = name; value = value }

-- the property or the attribute of the event device that a match looks at, with a value
abbrev pub looked_at : PlainKey → Text → Option Valued
looked_at (plain.Env name) value = Some (valued key.Env name value)
looked_at (plain.Attr name) value = Some (valued key.Attr name value)
looked_at _ value = None

-- the property or the attribute that a part of a rule compares by `==`, with the value as it was given
abbrev pub compared_in : Part → Option Valued
compared_in (part.Plain m) = by_equal m.wanted.operator (looked_at m.key m.wanted.written)
compared_in _ = None

-- the property or the attribute that takes a value
abbrev pub changed : Target → Text → Option Valued
changed (target.Env name) value = Some (valued key.Env name value)
changed (target.Attr name) value = Some (valued key.Attr name value)
changed _ value = None

-- the same for a change
abbrev pub changed_by : Change → Option Valued
changed_by (change.Text t text) = changed t text.written
changed_by _ = None

-- what is assigned, if the operator is `=`
abbrev pub by_assign : AssignOperator → Option Valued → Option Valued
by_assign assign.Assign v = v
by_assign _ v = None

-- the property or the attribute that a part of a rule assigns by `=`, with the value as it was given
abbrev pub assigned_value : Part → Option Valued
assigned_value (part.Set a) = by_assign a.operator (changed_by a.change)
assigned_value _ = None

-- what the tokens of a rule compare by `==`
abbrev pub compared_by : List WrittenPart → List Text
compared_by tokens = filter_map (λ w. option_map text_of (compared_in w.part)) tokens

-- what rules compare by `==`
abbrev pub compared_texts : List FileRule → List Text
compared_texts rules = flat_map (λ r. compared_by r.draft.parts) rules

-- an assignment, if what it gives is compared
abbrev pub meant_spots : List Text → WrittenPart → Option Valued → List (Spot Lint)
meant_spots compared w None = []
meant_spots compared w (Some v) = if is_among compared (text_of v) then spot_at_key MeantToCompare v.name w.token ∷ [] else []

-- the assignments among tokens that a match follows, if what they give is compared
abbrev pub meant_to_compare : List Text → List WrittenPart → List (Spot Lint)
meant_to_compare compared [] = []
meant_to_compare compared (w ∷ tokens) =
    (if list_any (λ x. is_match x.part) tokens then meant_spots compared w (assigned_value w.part) else [])
    ++ meant_to_compare compared tokens
