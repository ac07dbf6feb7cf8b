-- A template with its substitutions made.
use Rattle.std.specs.Prelude.{Bool, true, false, not, if◌then◌else◌, flat_map, Option, Some, None}
use Rattle.text_bytes.specs.Text.{Text}
use Rattle.text_bytes.specs.Safe.{link_marks, safe}
use Rattle.text_bytes.specs.Underscores.{underscored}
use Rattle.rule_tokens.specs.TemplateReading.{left_of}
use Rattle.rule_tokens.specs.Template.{Parts as Template}
use Rattle.rule_tokens.specs.declared.piece.Piece.{Piece}
use Rattle.rule_tokens.specs.declared.piece.Piece.TheVariants as piece
use Rattle.eval_state.specs.declared.state.State.{State}
use Rattle.eval_rendering.specs.Bounds.{bounded}
use Rattle.eval_rendering.specs.Pieces.{has_long, piece_text}
use Rattle.eval_rendering.specs.declared.rendered.Mode.{Mode}
use Rattle.eval_rendering.specs.declared.rendered.Mode.TheVariants.{Plain, Link}
use Rattle.eval_rendering.specs.declared.rendered.Rendered.{Rendered}
use Rattle.eval_rendering.specs.declared.rendered.Rendered.TheVariants as rendered

-- whether a piece is put into a link as it is: what is written in the template, and the result of a program
abbrev pub is_raw : Piece → Bool
is_raw (piece.Plain text) = true
is_raw piece.Result = true
is_raw (piece.Word number) = true
is_raw (piece.From number) = true
is_raw other = false

-- whether a piece is put in as one word: in a link, unless it is raw
abbrev pub is_one_word : Mode → Piece → Bool
is_one_word Plain p = false
is_one_word Link p = not (is_raw p)

-- what a piece is replaced with
abbrev pub text_in : Mode → State → Piece → Text
text_in mode state p = if is_one_word mode p then underscored (piece_text state p) else piece_text state p

-- a whole text: in a link it is made safe
abbrev pub finished_text : Mode → Text → Text
finished_text Plain text = text
finished_text Link text = safe link_marks text

-- a text as it is returned
abbrev pub as_rendered : Mode → Option Text → Rendered
as_rendered mode None = rendered.TooLong
as_rendered mode (Some text) = rendered.Text (finished_text mode text)

-- a template with each substitution made, unless that is too long
unfoldable pub render : Template → State → Mode → Rendered
render template state mode =
    if has_long state.event.profile state template.pieces then rendered.TooLong
    else as_rendered mode (bounded (flat_map (text_in mode state) template.pieces))

-- a text that udev renders only as it evaluates a rule, taking what reading leaves of it
abbrev pub rendered_as_udev : Text → State → Rendered
rendered_as_udev text state = render (record { written = text; pieces = left_of text }) state Plain
