-- The name of an attribute that a match asks for, as udev renders it while it compares.
use Rattle.std.specs.Prelude.{[], flat_map}
use Rattle.text_bytes.specs.Text.{Text}
use Rattle.rule_tokens.specs.TemplateReading.{left_of}
use Rattle.rule_tokens.specs.declared.piece.Piece.{Piece}
use Rattle.rule_tokens.specs.declared.piece.Piece.TheVariants as piece
use Rattle.eval_state.specs.declared.state.State.{State}
use Rattle.eval_rendering.specs.Pieces.{piece_text}

-- what is in a name in place of each piece; no attribute can be asked for there, as the brace after it would end the name
abbrev pub name_piece : State → Piece → Text
name_piece state (piece.Attr name) = []
name_piece state other = piece_text state other

-- a name with its substitutions made, as far as reading takes it
unfoldable pub name_text : Text → State → Text
name_text name state = flat_map (name_piece state) (left_of name)
