-- What sorting the parts of a rule keeps, in which order they are then, which names are given twice, and how a line
-- is written about which there is no finding.
use Rattle.std.specs.Prelude.{◌≡◌, ℕ, ◌+◌, ◌<◌, ◌≤◌, false, List, [], ◌∷◌, ◌++◌, ⊤, drop, filter_map, length}
use Rattle.text_bytes.specs.Text.{Text}
use Rattle.text_bytes.specs.Names.{comma, is_blank}
use Rattle.file_messages.specs.declared.message.MessageKind.TheVariants.{GivenTwice}
use Rattle.text_bytes.specs.declared.profile.Profile.{Profile}
use Rattle.text_bytes.specs.declared.profile.Profile.TheVariants.{Manual}
use Rattle.rule_tokens.specs.Grammar.{AllAre, Placed}
use Rattle.rule_parts.specs.Parts.{is_read_as_assign}
use Rattle.rule_types.specs.declared.part.Part.{Part}
use Rattle.rule_types.specs.declared.part.Part.TheVariants as part
use Rattle.rule_core.specs.Drafts.{act_in, acts_of, assignment_in, given_again_after, goto_in, label_in, plain_in, result_in, sets_of, up_in}
use Rattle.rule_types.specs.Spots.{value_spot}
use Rattle.rule_types.specs.Tokens.{WrittenPart}
use Rattle.rule_core.specs.Style.{between}
use Rattle.rule_core.specs.Turns.{of_turn, turn_of_act, turn_of_assignment}

-- none has its turn before this one, nor before the one that it follows
abbrev pub RisesFrom : {X : Type 0} → (X → ℕ) → ℕ → List X → Type 0
RisesFrom turn t [] = ⊤
RisesFrom turn t (x ∷ xs) = (t ≤ turn x) × RisesFrom turn (turn x) xs

-- The sorted ones are those that were written: those of each turn in written order, and turn by turn.
pub record IsInOrder {X : Type 0} (turn : X → ℕ) (written sorted : List X) : Type 0 where
  pub each : (t : ℕ) → of_turn turn sorted t ≡ of_turn turn written t
  pub rises : RisesFrom turn 0 sorted

-- the acts and the assignments among parts are put in the order of evaluation
pub record AreInOrder (profile : Profile) (parts : List Part) : Type 0 where
  pub acts : IsInOrder turn_of_act (filter_map act_in parts) (acts_of parts)
  pub sets : IsInOrder (turn_of_assignment profile) (filter_map assignment_in parts) (sets_of profile parts)

-- each part is in one of five lists, or gives a label or a jump
abbrev pub NoneIsLost : List Part → Type 0
NoneIsLost parts =
    length (filter_map plain_in parts) + (length (filter_map up_in parts) + (length (filter_map act_in parts) + (length (filter_map result_in parts)
    + (length (filter_map assignment_in parts) + (length (filter_map label_in parts) + length (filter_map goto_in parts)))))) ≡ length parts

-- both parts give a label, or both a jump, and the later one gives this name
abbrev pub GivesAgain : Part → Part → Text → Type 0
GivesAgain (part.Label earlier) (part.Label later) name = later ≡ name
GivesAgain (part.Goto earlier) (part.Goto later) name = later ≡ name
GivesAgain _ _ _ = ⊥

-- one of the tokens has this token's key, and this token gives the name
pub record IsGivenAmong (parts : List WrittenPart) (w : WrittenPart) (name : Text) : Type 0 where
  pub before : List WrittenPart
  pub earlier : WrittenPart
  pub following : List WrittenPart
  pub cut : parts ≡ before ++ earlier ∷ following
  pub again : GivesAgain earlier.part w.part name

-- By the manual, a token after others is reported at its value as one given twice exactly if one with its key is among
-- these, and otherwise nothing is said.
pub record IsReportedWhereAgain (parts : List WrittenPart) (w : WrittenPart) : Type 0 where
  pub again : (name : Text) → IsGivenAmong parts w name → given_again_after Manual [] (parts ++ w ∷ [])
      ≡ given_again_after Manual [] parts ++ value_spot GivenTwice name w.token ∷ []
  pub once : ((name : Text) → IsGivenAmong parts w name → ⊥) → given_again_after Manual [] (parts ++ w ∷ []) ≡ given_again_after Manual [] parts

-- blanks, one comma, and blanks, of which there is at least one
pub record IsPlainGap (gap : Text) : Type 0 where
  pub before : Text
  pub following : Text
  pub spelled : gap ≡ before ++ comma ∷ following
  pub blank_before : AllAre is_blank before
  pub blank_after : AllAre is_blank following
  pub some_after : 0 < length following

-- after a place where a token ends, each gap is plain, no operator is read as `=`, and only blanks are at the end
abbrev pub IsPlainAfter : Text → ℕ → List Placed → Type 0
IsPlainAfter line place [] = AllAre is_blank (drop place line)
IsPlainAfter line place (t ∷ tokens) = IsPlainGap (between place t.span.start line) × (is_read_as_assign t ≡ false) × IsPlainAfter line t.span.end tokens

-- a line is written as it should be
abbrev pub IsPlain : Text → List Placed → Type 0
IsPlain line [] = ⊤
IsPlain line (t ∷ tokens) = (is_read_as_assign t ≡ false) × IsPlainAfter line t.span.end tokens
