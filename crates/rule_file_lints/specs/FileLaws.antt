-- What is true of the lints of a file.
use Rattle.std.specs.Prelude.{◌≡◌, true, false, List, [], ◌∷◌, ◌++◌, map, reverse}
use Rattle.std.specs.List.{list_any}
use Rattle.text_bytes.specs.declared.profile.Profile.{Profile}
use Rattle.text_bytes.specs.Text.{Text}
use Rattle.rule_lints.specs.declared.lint.Lint.{Lint}
use Rattle.rule_file_lints.specs.ByName.{later_families}
use Rattle.rule_file_lints.specs.Compared.{meant_to_compare}
use Rattle.rule_file_lints.specs.FileLints.{spots_of}
use Rattle.rule_file_lints.specs.FileRules.{FileRule}
use Rattle.rule_file_lints.specs.Imported.{given_names, has_property, imported_below, is_given, imported_names}
use Rattle.rule_file_lints.specs.Matches.{is_match, may_end_at}
use Rattle.rule_file_lints.specs.Reached.{is_labelled, jumps_above, never_reached}
use Rattle.rule_types.specs.Tokens.{WrittenPart}
use Rattle.rule_places.specs.declared.placed_finding.PlacedFinding.{PlacedFinding}
use Rattle.rule_types.specs.declared.spot.Spot.{Spot}

-- if a match is reported in a rule of a file, below others, the nearest first, its property is imported by this rule,
-- further down or by a later file, and neither given nor perhaps given by one of the others
pub record IsImportedBelow (path : Text) (above : List FileRule) (r : FileRule) (below : List FileRule) (name : Text) : Type 0 where
  pub here : has_property (imported_names (r ∷ below) ++ later_families path) name ≡ true
  pub before : is_given (given_names above) name ≡ false

abbrev pub ImportsFurtherDown : Type 0
ImportsFurtherDown =
    (path : Text) (above : List FileRule) (r : FileRule) (below : List FileRule) (w : WrittenPart) (reported : Spot Lint)
    → imported_below (imported_names (reverse above ++ r ∷ below) ++ later_families path) (given_names above) w ≡ reported ∷ []
    → IsImportedBelow path above r below reported.word

-- assignments after the last match of a rule are not reported
abbrev pub NoneAfterMatches : Type 0
NoneAfterMatches = (compared : List Text) (tokens : List WrittenPart) → list_any (λ w. is_match w.part) tokens ≡ false → meant_to_compare compared tokens ≡ []

-- if no rule compares, nothing is reported
abbrev pub NoneUncompared : Type 0
NoneUncompared = (tokens : List WrittenPart) → meant_to_compare [] tokens ≡ []

-- the first rule of a file is reached
abbrev pub FirstIsReached : Type 0
FirstIsReached = (r : FileRule) → never_reached (jumps_above []) r ≡ []

-- so is a rule after one that may end before it jumps
abbrev pub ReachedAfterMatches : Type 0
ReachedAfterMatches = (nearest : FileRule) (farther : List FileRule) (r : FileRule) → list_any (λ w. may_end_at w.part) nearest.draft.parts ≡ true
    → never_reached (jumps_above (nearest ∷ farther)) r ≡ []

-- so is a rule after one whose label no later rule has
abbrev pub ReachedAfterLostJumps : Type 0
ReachedAfterLostJumps = (nearest : FileRule) (farther : List FileRule) (r : FileRule) → nearest.landing.lost ≡ true
    → never_reached (jumps_above (nearest ∷ farther)) r ≡ []

-- nothing is reported for a rule with a label, to which a jump may lead
abbrev pub ReachedByLabels : Type 0
ReachedByLabels = (above : List FileRule) (r : FileRule) → is_labelled r ≡ true → never_reached (jumps_above above) r ≡ []

-- a lint without its place
abbrev pub without_place : PlacedFinding Lint → Lint × Text
without_place p = (p.kind, p.word)

-- the lints of rules among all of a file with a name, given those above them, from the nearest on, without their places
abbrev pub lints_without_places : Profile → Text → List FileRule → List FileRule → List FileRule → List (Lint × Text)
lints_without_places profile path all above [] = []
lints_without_places profile path all above (r ∷ below) =
    map (λ s. (s.kind, s.word)) (spots_of profile path all above r) ++ lints_without_places profile path all (r ∷ above) below
