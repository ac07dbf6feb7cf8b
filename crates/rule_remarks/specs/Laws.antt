-- What is true of the remarks.
use Rattle.std.specs.Prelude.{◌≡◌, ◌∷◌, ◌++◌, true, is_ok, List, codes}
use Rattle.text_bytes.specs.Text.{Text}
use Rattle.text_bytes.specs.Lines.{NumberedLine}
use Rattle.text_bytes.specs.declared.profile.Profile.TheVariants.{Udev}
use Rattle.file_messages.specs.declared.message.MessageKind.{MessageKind}
use Rattle.rule_tokens.specs.Grammar.{Placed}
use Rattle.rule_core.specs.Drafts.{draft_of}
use Rattle.rule_places.specs.Shown.{IsAmong}
use Rattle.rule_places.specs.declared.placed_finding.PlacedFinding.{PlacedFinding}
use Rattle.rule_remarks.specs.Remarks.{is_program, is_result}

-- a text has `../` in it
pub record HasWayUp (text : Text) : Type 0 where
  pub prefix : Text
  pub following : Text
  pub whole : text ≡ prefix ++ (codes "../" ++ following)

-- what is reported is reported for one of these lines, which is a rule for udev
pub record IsOfRule (ls : List NumberedLine) (reported : PlacedFinding MessageKind) : Type 0 where
  pub line : NumberedLine
  pub among : IsAmong line ls
  pub read : is_ok (draft_of Udev line.text) ≡ true
  pub number : reported.begins ≡ line.number

-- one of these tokens is a PROGRAM, and a RESULT comes before it
pub record HasLateProgram (tokens : List Placed) (program : Placed) : Type 0 where
  pub prefix : List Placed
  pub result : Placed
  pub between : List Placed
  pub following : List Placed
  pub whole : tokens ≡ prefix ++ result ∷ (between ++ program ∷ following)
  pub asked : is_result result ≡ true
  pub runs : is_program program ≡ true
