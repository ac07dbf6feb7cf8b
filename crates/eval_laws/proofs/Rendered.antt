-- A rendered text has at most 16,384 bytes.
use Rattle.std.proofs.Common.{◌≡◌, ◌≤◌, Bool, true, false, nat_lt, ltb-false, length, flat_map, Option, Some, None, refl, if◌then◌else◌, ℕ, arith}
use Rattle.text_bytes.specs.Text.{Text}
use Rattle.text_bytes.specs.Safe.{link_marks}
use Rattle.text_bytes.proofs.LinkPlaces.{length-safe}
use Rattle.rule_tokens.specs.Template.{Parts as Template}
use Rattle.eval_state.specs.declared.state.State.{State}
use Rattle.eval_rendering.specs.Bounds.{bounded, most_bytes, within}
use Rattle.eval_rendering.specs.Pieces.{has_long}
use Rattle.eval_rendering.specs.Rendering.{as_rendered, finished_text, render, text_in}
use Rattle.eval_rendering.specs.declared.rendered.Mode.{Mode}
use Rattle.eval_rendering.specs.declared.rendered.Mode.TheVariants.{Plain, Link}
use Rattle.eval_rendering.specs.declared.rendered.Rendered.{Rendered}
use Rattle.eval_rendering.specs.declared.rendered.Rendered.TheVariants as rendered

-- a text that is rendered, if it is one
abbrev pub IsShort : Rendered → Type 0
IsShort (rendered.Text text) = length text ≤ 16384
IsShort rendered.TooLong = Unit {0}

-- a text that is not too long, if it is one
abbrev pub IsBounded : Option Text → Type 0
IsBounded None = Unit {0}
IsBounded (Some text) = length text ≤ 16384

pub bounded_short : (text : Text) → IsBounded (bounded text)
bounded_short text = by (nat_lt most_bytes (length text)) refl
  where
    by : (b : Bool) → nat_lt most_bytes (length text) ≡ b → IsBounded (if b then None else Some text)
    by true e = tt
    by false e = ltb-false most_bytes (length text) e

finished_same : (mode : Mode) (text : Text) → length (finished_text mode text) ≡ length text
finished_same Plain text = refl
finished_same Link text = length-safe link_marks text

answer_short : (mode : Mode) (whole : Option Text) → IsBounded whole → IsShort (as_rendered mode whole)
answer_short mode None short = tt
answer_short mode (Some text) short = let same = finished_same mode text in omega (arith, same, short)

pub rendered_short : (template : Template) (state : State) (mode : Mode) → IsShort (render template state mode)
unfolding render
rendered_short template state mode = by (has_long state.event.profile state template.pieces)
  where
    found : Option Text
    found = bounded (flat_map (text_in mode state) template.pieces)

    by : (b : Bool) → IsShort (if b then rendered.TooLong else as_rendered mode found)
    by true = tt
    by false = answer_short mode found (bounded_short (flat_map (text_in mode state) template.pieces))

-- and so it has within a bound
pub within_short : (most : ℕ) (text : Rendered) → IsShort text → IsShort (within most text)
within_short most rendered.TooLong short = tt
within_short most (rendered.Text text) short = by (nat_lt most (length text))
  where
    by : (b : Bool) → IsShort (if b then rendered.TooLong else rendered.Text text)
    by true = tt
    by false = short
