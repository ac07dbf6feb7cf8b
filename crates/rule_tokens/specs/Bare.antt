-- For a law only: texts in which no brace closes, as names between braces are.
use Rattle.std.specs.Prelude.{Bool, true, false, ◌==◌}
use Rattle.std.specs.List.{list_any}
use Rattle.text_bytes.specs.Text.{Text}
use Rattle.text_bytes.specs.Names.{close_brace}
use Rattle.rule_tokens.specs.declared.piece.Piece.{Piece}
use Rattle.rule_tokens.specs.declared.piece.Piece.TheVariants as piece

-- whether a text has a brace that closes
abbrev pub has_close : Text → Bool
has_close text = list_any (λ b. b == close_brace) text

-- whether a piece is an attribute
abbrev pub is_attribute : Piece → Bool
is_attribute (piece.Attr name) = true
is_attribute other = false
