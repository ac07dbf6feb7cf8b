-- A text that is rendered for a link was made safe.
use Rattle.std.proofs.Common.{◌≡◌, Bool, true, false, if◌then◌else◌, Option, Some, None, ap, subst, flat_map}
use Rattle.text_bytes.specs.Text.{Text}
use Rattle.text_bytes.specs.Safe.{link_marks, safe}
use Rattle.rule_tokens.specs.Template.{Parts as Template}
use Rattle.eval_state.specs.declared.state.State.{State}
use Rattle.eval_rendering.specs.Bounds.{bounded}
use Rattle.eval_rendering.specs.Pieces.{has_long}
use Rattle.eval_rendering.specs.Rendering.{as_rendered, render, text_in}
use Rattle.eval_rendering.specs.declared.rendered.Mode.TheVariants.{Link}
use Rattle.eval_rendering.specs.declared.rendered.Rendered.{Rendered}
use Rattle.eval_rendering.specs.declared.rendered.Rendered.TheVariants as rendered
use Rattle.eval_laws.specs.SafeTexts.{IsSafe}

-- the text of an answer, or another if there is none
abbrev text_of : Text → Rendered → Text
text_of other (rendered.Text text) = text
text_of other rendered.TooLong = other

pub link_is_safe : ((text : Text) → IsSafe link_marks (safe link_marks text)) → (template : Template) (state : State) (text : Text)
    → render template state Link ≡ rendered.Text text → IsSafe link_marks text
unfolding render
link_is_safe are_safe template state text e = by (has_long state.event.profile state template.pieces) e
  where
    go : (whole : Option Text) → as_rendered Link whole ≡ rendered.Text text → IsSafe link_marks text
    go None e = absurd (cc)
    go (Some whole) e = let same : safe link_marks whole ≡ text = ap (text_of text) e in subst (IsSafe link_marks) same (are_safe whole)

    by : (b : Bool) → (if b then rendered.TooLong else as_rendered Link (bounded (flat_map (text_in Link state) template.pieces))) ≡ rendered.Text text → IsSafe link_marks text
    by true e = absurd (cc)
    by false e = go (bounded (flat_map (text_in Link state) template.pieces)) e
