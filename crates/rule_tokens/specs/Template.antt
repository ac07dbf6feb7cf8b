-- What a contract sees of a template.
use Rattle.std.specs.Prelude.{◌≡◌, List, Ok}
use Rattle.text_bytes.specs.Text.{Text}
use Rattle.text_bytes.specs.declared.profile.Profile.{Profile}
use Rattle.rule_tokens.specs.TemplateReading.{pieces_as}
use Rattle.rule_tokens.specs.declared.piece.Piece.{Piece}

-- the text that was read, and its pieces
pub record Parts : Type 0 where
  pub written : Text
  pub pieces : List Piece

-- the template has this text, and the pieces that reading the text by this profile gives
pub record IsReadFrom (profile : Profile) (text : Text) (template : Parts) : Type 0 where
  pub written : template.written ≡ text
  pub pieces : pieces_as profile text ≡ Ok template.pieces
