-- What udev reads otherwise in a line.
use Rattle.std.specs.Prelude.{◌≡◌, ℕ, List, [], ◌∷◌, ◌++◌, take, drop, Some}
use Rattle.text_bytes.specs.Text.{Text}
use Rattle.text_bytes.specs.declared.profile.Profile.TheVariants.{Udev}
use Rattle.rule_tokens.specs.Grammar.{AllAre, BeginsOther, Placed, is_gap_byte}
use Rattle.rule_types.specs.declared.part.Part.TheVariants as part
use Rattle.rule_core.specs.Drafts.{draft, given_again_after, lost_name, name_place}
use Rattle.rule_types.specs.Tokens.{WrittenPart}

-- only commas and blanks come before a place of a line, and none there
pub record IsFirstPlace (line : Text) (place : ℕ) : Type 0 where
  pub before : AllAre is_gap_byte (take place line)
  pub there : BeginsOther is_gap_byte (drop place line)

-- a token that gives a label of this name
abbrev pub label_token : Placed → Text → WrittenPart
label_token t name = record { token = t; part = part.Label name }

-- after other tokens a label of this name counts, and the one that counted before is reported as lost
pub record CountsInPlace (line : Text) (parts : List WrittenPart) (t : Placed) (name : Text) : Type 0 where
  pub counts : (draft Udev line (parts ++ label_token t name ∷ [])).label ≡ Some (name_place t name)
  pub reported : given_again_after Udev [] (parts ++ label_token t name ∷ []) ≡ given_again_after Udev [] parts ++ lost_name (draft Udev line parts).label
