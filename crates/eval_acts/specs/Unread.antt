-- The attributes that a text asks for and that a dry run does not read.
use Rattle.std.specs.Prelude.{if◌then◌else◌, List, [], ◌∷◌, ◌++◌, Option, Some, None}
use Rattle.std.specs.Option.{option_or}
use Rattle.text_bytes.specs.Text.{Text}
use Rattle.device_core.specs.Values.{EventValue}
use Rattle.rule_tokens.specs.Template.{Parts as Template}
use Rattle.rule_tokens.specs.declared.piece.Piece.{Piece}
use Rattle.rule_tokens.specs.declared.piece.Piece.TheVariants as piece
use Rattle.rule_types.specs.Rules.{Rule}
use Rattle.eval_rendering.specs.Attributes.{is_not_read}
use Rattle.eval_state.specs.Notes.{note_about}
use Rattle.eval_state.specs.declared.note_kind.NoteKind.TheVariants.{AttributeNotRead}
use Rattle.eval_state.specs.declared.notes.Note.{Note}
use Rattle.eval_state.specs.declared.scene.Scene.{Scene}

-- the name of the attribute that a piece stands for, if udev would read that and a dry run does not
abbrev pub unread_in : EventValue → Piece → Option Text
unread_in event (piece.Attr name) = if is_not_read name event then Some name else None
unread_in event other = None

-- the name of the first such attribute in a text
unfoldable pub first_unread : EventValue → List Piece → Option Text
first_unread event [] = None
first_unread event (p ∷ pieces) = option_or (unread_in event p) (first_unread event pieces)

-- a note on an attribute that is not read, if there is one
abbrev pub unread_notes : Rule → Option Text → List Note
unread_notes r None = []
unread_notes r (Some name) = note_about r AttributeNotRead name ∷ []

-- a text that is rendered: the first attribute in it that is not read leaves a note
abbrev pub unread_noted : Rule → Template → Scene → Scene
unread_noted r template s = record s { notes = s.notes ++ unread_notes r (first_unread s.state.event template.pieces) }
