-- Serves inner proofs only: the text of a piece, borrowed, made or joined.
use Rattle.std.specs.Prelude.{map}
use Rattle.text_bytes.specs.Text.{Text}
use Rattle.eval_rendering.specs.declared.pieces.PieceText.{PieceText}
use Rattle.eval_rendering.specs.Words.{spaced}
use Rattle.eval_rendering.specs.declared.pieces.PieceText.TheVariants.{Borrowed, Made, Spaced}

-- the text that a piece has
abbrev pub shown : PieceText → Text
shown (Borrowed text) = text.now
shown (Made text) = text.items
shown (Spaced texts) = spaced (map (λ t. t.items) texts.now)
