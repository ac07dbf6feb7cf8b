-- Serves proofs alone: what an act leaves, and the text of a command without substitutions.
use Rattle.std.specs.Prelude.{nat_lt, Bool, List, [], ◌∷◌, length, Option, Some, None, if◌then◌else◌}
use Rattle.std.specs.Option.{option_and_then}
use Rattle.text_bytes.specs.Text.{Text}
use Rattle.rule_tokens.specs.declared.piece.Piece.{Piece}
use Rattle.rule_tokens.specs.declared.piece.Piece.TheVariants.{Plain}
use Rattle.rule_types.specs.declared.part.ActKind.{ActKind}
use Rattle.rule_types.specs.Rules.{Rule}
use Rattle.eval_rendering.specs.Bounds.{most_command_bytes}
use Rattle.eval_state.specs.declared.scene.Scene.{Scene}
use Rattle.eval_acts.specs.Acts.{too_long_noted}

-- the scene after an act, with a note if its text is too long
abbrev pub left : Rule → ActKind → Scene × Option Bool → Scene
left r kind after = too_long_noted r kind after.1 after.0

-- the text of a piece that is not a substitution
abbrev pub text_of : Piece → Option Text
text_of (Plain text) = Some text
text_of other = None

-- the text of the only piece, if it is not a substitution
abbrev pub only_text : List Piece → Option Text
only_text (piece ∷ []) = text_of piece
only_text others = None

-- a command, unless it has more bytes than each profile has room for
abbrev pub short_command : Text → Option Text
short_command text = if nat_lt most_command_bytes (length text) then None else Some text

-- the text of a command without substitutions, if each profile has room for it
abbrev pub plain_command : List Piece → Option Text
plain_command pieces = option_and_then short_command (only_text pieces)
