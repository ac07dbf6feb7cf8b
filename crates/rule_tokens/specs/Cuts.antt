-- What a piece that is still in its text becomes.
use Rattle.rule_tokens.specs.declared.cut.Cut.{Cut}
use Rattle.rule_tokens.specs.declared.cut.Cut.TheVariants as cut
use Rattle.rule_tokens.specs.declared.piece.Piece.{Piece}
use Rattle.rule_tokens.specs.declared.piece.Piece.TheVariants as piece

-- the piece with its bytes copied
abbrev pub copied : Cut → Piece
copied (cut.Plain text) = piece.Plain text.now
copied (cut.Attr text) = piece.Attr text.now
copied (cut.Env text) = piece.Env text.now
copied (cut.Other p) = p
