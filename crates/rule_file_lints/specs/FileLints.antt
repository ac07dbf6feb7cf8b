-- All lints of a rules file, with their places.
use Rattle.std.specs.Prelude.{Bool, false, List, [], ◌∷◌, ◌++◌, flat_map, map, Option}
use Rattle.std.specs.List.{list_any}
use Rattle.text_bytes.specs.declared.profile.Profile.{Profile}
use Rattle.text_bytes.specs.declared.source_file.SourceFile.{SourceFile}
use Rattle.text_bytes.specs.Text.{Text}
use Rattle.rule_lints.specs.declared.lint.Lint.{Lint}
use Rattle.rule_types.specs.declared.jumps.Landing.{Landing}
use Rattle.rule_core.specs.Rules.{Reading}
use Rattle.rule_places.specs.Kept.{kept_lines}
use Rattle.rule_places.specs.Placed.{placed}
use Rattle.rule_places.specs.declared.kept.KeptLine.{KeptLine}
use Rattle.rule_file_lints.specs.Compared.{compared_texts, meant_to_compare}
use Rattle.rule_file_lints.specs.FileRules.{FileRule, file_rules, rules_from}
use Rattle.rule_file_lints.specs.ByName.{later_families}
use Rattle.rule_file_lints.specs.Imported.{given_names, imported_below, imported_names}
use Rattle.rule_file_lints.specs.Reached.{jumps_above, never_reached}
use Rattle.rule_lints.specs.RuleLints.{lints_of_rule}
use Rattle.rule_lints.specs.ValueLints.{value_lints}
use Rattle.rule_lints.specs.Assignments.{is_about_tags}
use Rattle.rule_file_lints.specs.Beside.{imported_beside}
use Rattle.rule_file_lints.specs.Guarded.{are_guarded, have_program, no_result, unguarded}
use Rattle.rule_file_lints.specs.Late.{are_late, have_tag, late_tag}
use Rattle.rule_places.specs.declared.placed_finding.PlacedFinding.{PlacedFinding}
use Rattle.rule_types.specs.declared.spot.Spot.{Spot}

-- what the lints of each rule of a file need to know about all of it: what its rules and later files import, what its
-- rules compare, whether some are about tags, and whether the tag `uaccess` comes too late
pub record FileNames : Type 0 where
  pub imported : List Text
  pub compared : List Text
  pub tagged : Bool
  pub late : Bool

-- what the lints of a rule need of the rules above it: what they import or assign, the label to which the nearest of them
-- jumps for every device, and whether one of them may jump, has a program, or gives the tag `uaccess`
pub record RulesAbove : Type 0 where
  pub given : List Text
  pub jump : Option Text
  pub guarded : Bool
  pub programs : Bool
  pub tag : Bool

-- the lints of a rule that its file and the rules above it decide
abbrev pub spots_among : FileNames → RulesAbove → FileRule → List (Spot Lint)
spots_among names a r =
    flat_map (imported_below names.imported a.given) r.draft.parts
    ++ (imported_beside a.given false r.draft.parts
    ++ (meant_to_compare names.compared r.draft.parts
    ++ (never_reached a.jump r
    ++ (unguarded a.guarded r.draft.parts
    ++ (no_result a.programs r.draft.parts
    ++ late_tag names.late a.tag r.draft.parts)))))

-- the lints of a rule, by what its file and the rules above it are about
abbrev pub spots_by : Profile → FileNames → RulesAbove → FileRule → List (Spot Lint)
spots_by profile names a r = lints_of_rule profile r.draft.parts ++ (value_lints names.tagged r.draft.parts ++ spots_among names a r)

-- what the rules of a file with a name are about
abbrev pub names_of : Text → List FileRule → FileNames
names_of path all =
    record {
      imported = imported_names all ++ later_families path;
      compared = compared_texts all;
      tagged = list_any (λ r. is_about_tags r.draft.parts) all;
      late = are_late path all;
    }

-- what the rules above a rule leave, the nearest first
abbrev pub left_by : List FileRule → RulesAbove
left_by above = record { given = given_names above; jump = jumps_above above; guarded = are_guarded above; programs = have_program above; tag = have_tag above }

-- the lints of a rule among all of its file, given those above it, from the nearest on
abbrev pub spots_of : Profile → Text → List FileRule → List FileRule → FileRule → List (Spot Lint)
spots_of profile path all above r = spots_by profile (names_of path all) (left_by above) r

-- the lints of rules among all of a file at their places, given those above them, from the nearest on
abbrev pub lints_below : Profile → Text → List KeptLine → List FileRule → List FileRule → List FileRule → List (PlacedFinding Lint)
lints_below profile path kept all above [] = []
lints_below profile path kept all above (r ∷ below) =
    map (placed kept r.number r.start) (spots_of profile path all above r) ++ lints_below profile path kept all (r ∷ above) below

-- the lints of the rules of a file with a name and with these kept lines, in their order
abbrev pub lints_of : Profile → Text → List KeptLine → List FileRule → List (PlacedFinding Lint)
lints_of profile path kept rules = lints_below profile path kept rules [] rules

-- the lints of the lines of a file that were read
abbrev pub lints_of_lines : Profile → Text → List KeptLine → List (Reading × Landing) → List (PlacedFinding Lint)
lints_of_lines profile path kept lines = lints_of profile path kept (rules_from 0 lines)

-- the lints of a file, in the order of its rules
unfoldable pub placed_lints : Profile → SourceFile → List (PlacedFinding Lint)
placed_lints profile f = lints_of profile f.name (kept_lines f.bytes) (file_rules profile f.bytes)
