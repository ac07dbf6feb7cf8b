-- Rules that ask for attributes of which a block may tell nothing: the only ones whose searches and assignments can leave notes.
use Rattle.std.specs.Prelude.{Bool, false, ◌||◌, List, []}
use Rattle.std.specs.List.{list_any}
use Rattle.rule_tokens.specs.declared.piece.Piece.{Piece}
use Rattle.rule_tokens.specs.declared.piece.Piece.TheVariants as piece
use Rattle.rule_types.specs.declared.part.Change.{Change}
use Rattle.rule_types.specs.declared.part.Change.TheVariants as change
use Rattle.rule_types.specs.declared.roles.UpKey.{UpKey}
use Rattle.rule_types.specs.declared.roles.UpKey.TheVariants as up
use Rattle.rule_types.specs.Rules.{Rule}
use Rattle.eval_unread.specs.Given.{is_of_others}

-- whether a piece is an attribute of such a name
abbrev pub piece_asks : Piece → Bool
piece_asks (piece.Attr name) = is_of_others name
piece_asks other = false

-- the pieces of the text of an assignment, whether it is rendered or not
abbrev pub pieces_of : Change → List Piece
pieces_of (change.Option known) = []
pieces_of (change.Text about template) = template.pieces
pieces_of (change.Run braces template) = template.pieces

-- whether the text of an assignment asks for such an attribute
abbrev pub change_asks : Change → Bool
change_asks c = list_any piece_asks (pieces_of c)

-- whether a match of one device asks for such an attribute
abbrev pub up_asks : UpKey → Bool
up_asks (up.Attrs name) = is_of_others name
up_asks other = false

-- whether a match of one device or an assignment of a rule does
abbrev pub rule_asks : Rule → Bool
rule_asks r = list_any (λ part. up_asks part.key) r.up || list_any (λ a. change_asks a.change) r.sets

-- whether one of these rules does
abbrev pub ask_others : List Rule → Bool
ask_others rules = list_any rule_asks rules
