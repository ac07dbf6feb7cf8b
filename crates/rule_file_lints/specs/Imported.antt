-- Properties that rules import or assign, and matches of those that are imported only further down.
use Rattle.std.specs.Prelude.{◌-◌, Bool, not, ◌&&◌, ◌||◌, ◌==◌, if◌then◌else◌, nat_eq, List, [], ◌∷◌, ◌++◌, codes, filter, flat_map, length, map, take}
use Rattle.std.specs.Prelude.{Option, Some, None}
use Rattle.std.specs.List.{list_any, starts_with}
use Rattle.text_bytes.specs.Names.{bar, open_bracket, question_mark, star}
use Rattle.text_core.specs.Choices.{choice_fits}
use Rattle.text_core.specs.declared.item.Item.{Item}
use Rattle.text_bytes.specs.Text.{Text}
use Rattle.text_tables.specs.Texts.{is_among, same_text}
use Rattle.rule_lints.specs.declared.lint.Lint.{Lint}
use Rattle.rule_lints.specs.declared.lint.Lint.TheVariants.{ImportedBelow}
use Rattle.rule_types.specs.declared.part.Change.{Change}
use Rattle.rule_types.specs.declared.part.Change.TheVariants as change
use Rattle.rule_types.specs.declared.part.ActKind.{ActKind}
use Rattle.rule_types.specs.declared.part.ActKind.TheVariants as act_kind
use Rattle.rule_types.specs.declared.part.Import.{Import}
use Rattle.rule_types.specs.declared.part.Import.TheVariants as import
use Rattle.rule_types.specs.declared.part.Part.{Part}
use Rattle.rule_types.specs.declared.part.Part.TheVariants as part
use Rattle.rule_types.specs.declared.roles.PlainKey.{PlainKey}
use Rattle.rule_types.specs.declared.roles.PlainKey.TheVariants as plain
use Rattle.rule_types.specs.declared.roles.Target.{Target}
use Rattle.rule_types.specs.declared.roles.Target.TheVariants as target
use Rattle.rule_lints.specs.Commands.{first_word}
use Rattle.rule_file_lints.specs.FileRules.{FileRule}
use Rattle.rule_file_lints.specs.Matches.{by_equal}
use Rattle.rule_types.specs.Tokens.{WrittenPart}
use Rattle.rule_types.specs.Spots.{spot_at_key}
use Rattle.rule_types.specs.declared.spot.Spot.{Spot}

-- builtins, each with a family of properties that it imports: a family is written as what its names begin with, and
-- then a `*`
abbrev pub families : List (Text × Text)
families =
    (codes "blkid", codes "ID_FS_*")
    ∷ (codes "blkid", codes "ID_PART_*")
    ∷ (codes "path_id", codes "ID_PATH*")
    ∷ (codes "input_id", codes "ID_INPUT*")
    ∷ (codes "net_id", codes "ID_NET_NAME_*")
    ∷ (codes "usb_id", codes "ID_USB_*")
    ∷ []

-- the families that a builtin imports
abbrev pub families_in : List (Text × Text) → Text → List Text
families_in rows builtin = map (λ row. row.1) (filter (λ row. same_text row.0 builtin) rows)

-- whether a property is of a family
abbrev pub is_of : Text → Text → Bool
is_of family name = starts_with nat_eq name (take (length family - 1) family)

-- what an IMPORT imports: properties and families
abbrev pub names_in_import : Import → List Text
names_in_import (import.Builtin t) = families_in families (first_word t.written)
names_in_import (import.Cmdline name) = name ∷ []
names_in_import _ = []

-- this stands for every property, if a rule may import any
abbrev pub any_property : Text
any_property = codes "*"

-- whether the value of an IMPORT names more than one property: it has a sign of patterns
abbrev pub names_several : Text → Bool
names_several value = list_any (λ b. b == star || (b == question_mark || (b == open_bracket || b == bar))) value

-- every property, if there are no families
abbrev pub else_any : List Text → List Text
else_any [] = any_property ∷ []
else_any (family ∷ families) = []

-- what an IMPORT may import, which only udev knows: from the database the property that it names, from the parent
-- that property or every one, and every one by a program, a file, or a builtin without a family here
abbrev pub names_perhaps : Import → List Text
names_perhaps (import.Program t) = any_property ∷ []
names_perhaps (import.File t) = any_property ∷ []
names_perhaps (import.Builtin t) = else_any (families_in families (first_word t.written))
names_perhaps (import.Db name) = name ∷ []
names_perhaps (import.Parent choice value) = (if names_several value then any_property else value) ∷ []
names_perhaps _ = []

-- what an act may import
abbrev pub perhaps_in_act_kind : ActKind → List Text
perhaps_in_act_kind (act_kind.Import i) = names_perhaps i
perhaps_in_act_kind _ = []

-- what a part of a rule may import
abbrev pub perhaps_in : Part → List Text
perhaps_in (part.Act a) = perhaps_in_act_kind a.kind
perhaps_in _ = []

-- what an act imports
abbrev pub names_in_act_kind : ActKind → List Text
names_in_act_kind (act_kind.Import i) = names_in_import i
names_in_act_kind _ = []

-- what a part of a rule imports
abbrev pub imported_in : Part → List Text
imported_in (part.Act a) = names_in_act_kind a.kind
imported_in _ = []

-- the property that a text is assigned to
abbrev pub name_in_target : Target → List Text
name_in_target (target.Env name) = name ∷ []
name_in_target _ = []

-- the property that a change is about
abbrev pub name_in_change : Change → List Text
name_in_change (change.Text t text) = name_in_target t
name_in_change _ = []

-- the property that a part of a rule assigns, by any operator
abbrev pub assigned_in : Part → List Text
assigned_in (part.Set a) = name_in_change a.change
assigned_in _ = []

-- what the tokens of a rule import
abbrev pub imported_by : List WrittenPart → List Text
imported_by tokens = flat_map (λ w. imported_in w.part) tokens

-- what the tokens of a rule import, may import or assign
abbrev pub given_by : List WrittenPart → List Text
given_by tokens = flat_map (λ w. imported_in w.part ++ (perhaps_in w.part ++ assigned_in w.part)) tokens

-- what rules import
abbrev pub imported_names : List FileRule → List Text
imported_names rules = flat_map (λ r. imported_by r.draft.parts) rules

-- what rules import, may import or assign
abbrev pub given_names : List FileRule → List Text
given_names rules = flat_map (λ r. given_by r.draft.parts) rules

-- whether a family of a property is among names
abbrev pub has_family : List Text → List (Text × Text) → Text → Bool
has_family names rows name = list_any (λ row. is_of row.1 name && is_among names row.1) rows

-- whether a property, or a family of it, is among names
abbrev pub has_property : List Text → Text → Bool
has_property names name = is_among names name || has_family names families name

-- whether a property, a family of it, or every property is among the names that are given
abbrev pub is_given : List Text → Text → Bool
is_given names name = is_among names any_property || has_property names name

-- the property that patterns are compared with, if none of them fits the empty text
abbrev pub asked_for : PlainKey → List (List Item) → Option Text
asked_for (plain.Env name) choice = if choice_fits choice [] then None else Some name
asked_for _ choice = None

-- the property without which a part of a rule holds for no device: it is compared by `==`, and not with the empty text
abbrev pub wanted_in : Part → Option Text
wanted_in (part.Plain m) = by_equal m.wanted.operator (asked_for m.key m.wanted.choice)
wanted_in _ = None

-- a match that asks for a property, if the file imports this and it is not given before
abbrev pub below_spots : List Text → List Text → WrittenPart → Option Text → List (Spot Lint)
below_spots imported given w None = []
below_spots imported given w (Some name) = if has_property imported name && not (is_given given name) then spot_at_key ImportedBelow name w.token ∷ [] else []

-- a match that asks for a property that the file imports, if it is not given before
abbrev pub imported_below : List Text → List Text → WrittenPart → List (Spot Lint)
imported_below imported given w = below_spots imported given w (wanted_in w.part)
