-- What is reported for the values, the names and the assignments of a rule.
use Rattle.std.specs.Prelude.{Bool, not, ◌&&◌, List, [], ◌∷◌, flat_map, Option, None}
use Rattle.std.specs.Bool.{then_some}
use Rattle.std.specs.List.{list_any}
use Rattle.text_bytes.specs.Text.{Text}
use Rattle.rule_types.specs.Tokens.{WrittenPart}
use Rattle.rule_types.specs.declared.spot.Spot.{Spot}
use Rattle.rule_lints.specs.RuleLints.{spots_with}
use Rattle.rule_lints.specs.declared.lint.Lint.{Lint}
use Rattle.rule_lints.specs.declared.lint.Lint.TheVariants.{NeverFits, BlankBesideBar, UnknownName, NotSubstituted, ListReplaced, MeantAsMatch}
use Rattle.rule_lints.specs.declared.lint.Lint.TheVariants.{NameTooLong, WantedWithoutTag}
use Rattle.rule_lints.specs.Assignments.{changes_device, is_meant_to_match, is_untagged, replaces_list, wants_unit}
use Rattle.rule_lints.specs.Near.{known_instead}
use Rattle.rule_lints.specs.Never.{impossible}
use Rattle.rule_lints.specs.Values.{is_blank_beside_bar, is_compared, is_long_name, is_no_substitution}

-- what a rule's tokens are together: whether they change the device, and hold only for devices that systemd does not see
pub record Setting : Type 0 where
  pub changes : Bool
  pub unseen : Bool

-- the same of a rule's tokens, in a file some of whose rules are about tags or none
abbrev pub setting_of : Bool → List WrittenPart → Setting
setting_of tagged tokens =
    record { changes = list_any (λ w. changes_device w.token) tokens; unseen = not tagged && list_any (λ w. is_untagged w.token) tokens }

-- the text with which a lint is reported for a token, if it is reported
abbrev pub word_of : Setting → Lint → WrittenPart → Option Text
word_of s NeverFits w = impossible w.part
word_of s BlankBesideBar w = then_some (is_compared w.part && is_blank_beside_bar w.token.parts.value) w.token.parts.value
word_of s UnknownName w = known_instead w.token
word_of s NotSubstituted w = then_some (is_no_substitution (is_compared w.part) w.token.parts.value) w.token.parts.value
word_of s ListReplaced w = then_some (replaces_list w.token) w.token.parts.head.key
word_of s MeantAsMatch w = then_some (is_meant_to_match s.changes w.token) w.token.parts.head.key
word_of s NameTooLong w = then_some (is_long_name w.token) w.token.parts.value
word_of s WantedWithoutTag w = then_some (s.unseen && wants_unit w.token) w.token.parts.head.key
word_of s _ w = None

-- these lints, in the order of their codes
abbrev pub lints : List Lint
lints = NeverFits ∷ BlankBesideBar ∷ UnknownName ∷ NotSubstituted ∷ ListReplaced ∷ MeantAsMatch ∷ NameTooLong ∷ WantedWithoutTag ∷ []

-- what lints find in a token, in their order
abbrev pub found_in : Setting → WrittenPart → List Lint → List (Spot Lint)
found_in s w which = flat_map (λ lint. spots_with lint w.token (word_of s lint w)) which

-- what they find in a rule's tokens, in written order
abbrev pub found_by : Setting → List WrittenPart → List (Spot Lint)
found_by s tokens = flat_map (λ w. found_in s w lints) tokens

-- what is reported for a rule's tokens, in a file some of whose rules are about tags or none: token by token in written
-- order, and for each in the order of the codes
abbrev pub value_lints : Bool → List WrittenPart → List (Spot Lint)
value_lints tagged tokens = found_by (setting_of tagged tokens) tokens
