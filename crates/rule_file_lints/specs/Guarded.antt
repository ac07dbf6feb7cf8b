-- W15 and W25: rules that change every device, and results that no program gives yet.
use Rattle.std.specs.Prelude.{Bool, not, ◌&&◌, ◌||◌, if◌then◌else◌, List, [], ◌∷◌, find, is_some, Option, Some, None, codes}
use Rattle.std.specs.List.{list_any}
use Rattle.text_tables.specs.Texts.{same_text}
use Rattle.rule_types.specs.Tokens.{WrittenPart}
use Rattle.rule_types.specs.declared.spot.Spot.{Spot}
use Rattle.rule_lints.specs.RuleLints.{spots_with}
use Rattle.rule_lints.specs.declared.lint.Lint.{Lint}
use Rattle.rule_lints.specs.declared.lint.Lint.TheVariants.{NoMatch, NoResultYet}
use Rattle.rule_lints.specs.Assignments.{changes_device, has_key}
use Rattle.rule_file_lints.specs.FileRules.{FileRule}
use Rattle.rule_file_lints.specs.Matches.{may_end_at}

-- a lint about the key of a token, if there is one
abbrev pub first_spots : Lint → Option WrittenPart → List (Spot Lint)
first_spots lint None = []
first_spots lint (Some w) = spots_with lint w.token (Some w.token.parts.head.key)

-- whether a rule may jump to a later one
abbrev pub may_jump : FileRule → Bool
may_jump r = is_some r.draft.goto && not r.landing.lost

-- whether one of the rules above may jump, so that not every device comes to those below
abbrev pub are_guarded : List FileRule → Bool
are_guarded above = list_any may_jump above

-- the first assignment of a rule that changes the device, if the rule is for every device: it has no match and nothing
-- else that may end it, and no rule above may jump
abbrev pub unguarded : Bool → List WrittenPart → List (Spot Lint)
unguarded guarded tokens =
    if guarded || list_any (λ w. may_end_at w.part) tokens then [] else first_spots NoMatch (find (λ w. changes_device w.token) tokens)

-- whether a token is a match of RESULT
abbrev pub is_result : WrittenPart → Bool
is_result w = same_text w.token.parts.head.key (codes "RESULT")

-- whether a rule has a program that gives a result
abbrev pub has_program : List WrittenPart → Bool
has_program tokens = has_key (codes "PROGRAM" ∷ []) tokens

-- whether one of the rules above has one
abbrev pub have_program : List FileRule → Bool
have_program above = list_any (λ r. has_program r.draft.parts) above

-- the first match of RESULT of a rule, if neither the rule nor one above has a program
abbrev pub no_result : Bool → List WrittenPart → List (Spot Lint)
no_result programs tokens = if programs || has_program tokens then [] else first_spots NoResultYet (find is_result tokens)
