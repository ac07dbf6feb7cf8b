-- Rules that no rule leads to, since the rule above jumps away whenever it is reached.
use Rattle.std.specs.Prelude.{Bool, ◌||◌, if◌then◌else◌, List, [], ◌∷◌, Option, Some, None, is_some}
use Rattle.std.specs.List.{list_any}
use Rattle.text_bytes.specs.Text.{Text}
use Rattle.rule_lints.specs.declared.lint.Lint.{Lint}
use Rattle.rule_lints.specs.declared.lint.Lint.TheVariants.{NeverReached}
use Rattle.rule_core.specs.Rules.{name_of}
use Rattle.rule_file_lints.specs.FileRules.{FileRule}
use Rattle.rule_file_lints.specs.Matches.{may_end_at}
use Rattle.rule_types.specs.Tokens.{WrittenPart}
use Rattle.rule_types.specs.Spots.{spot_at_key}
use Rattle.rule_types.specs.declared.spot.Spot.{Spot}

-- whether a rule may lead to the one after it though it has a jump: there is no later label, or the rule may end before it jumps
abbrev pub may_go_on : FileRule → Bool
may_go_on r = r.landing.lost || list_any (λ w. may_end_at w.part) r.draft.parts

-- the label of a later rule to which a rule jumps for every device
abbrev pub jumps_to : FileRule → Option Text
jumps_to r = if may_go_on r then None else name_of r.draft.goto

-- the label to which the nearest rule above jumps for every device
abbrev pub jumps_above : List FileRule → Option Text
jumps_above [] = None
jumps_above (r ∷ farther) = jumps_to r

-- whether a rule has a label; S4 reports one that no jump leads to
abbrev pub is_labelled : FileRule → Bool
is_labelled r = is_some r.draft.label

-- the first of these tokens, reported with a label
abbrev pub first_spot : Text → List WrittenPart → List (Spot Lint)
first_spot name [] = []
first_spot name (w ∷ tokens) = spot_at_key NeverReached name w.token ∷ []

-- the first token of a rule without a label, if the rule above jumps to a label
abbrev pub never_reached : Option Text → FileRule → List (Spot Lint)
never_reached None r = []
never_reached (Some name) r = if is_labelled r then [] else first_spot name r.draft.parts
