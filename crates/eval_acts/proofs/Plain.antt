-- A command without substitutions is its text.
use Rattle.std.proofs.Common.{◌≡◌, ℕ, true, false, List, [], ◌∷◌, length, refl, ap, sym, ◌∙◌, arith, append-nil}
use Rattle.std.proofs.lemmas.Bool.Decides.{nat_tests}
use Rattle.std.specs.Prelude.{Bool, Option, Some, None, nat_lt}
use Rattle.std.specs.Option.{option_and_then}
use Rattle.text_bytes.specs.declared.profile.Profile.{Profile}
use Rattle.text_bytes.specs.declared.profile.Profile.TheVariants.{Manual, Udev}
use Rattle.text_bytes.specs.Text.{Text}
use Rattle.rule_tokens.specs.Template.{Parts as Template}
use Rattle.rule_tokens.specs.declared.piece.Piece.{Piece}
use Rattle.rule_tokens.specs.declared.piece.Piece.TheVariants as piece
use Rattle.eval_state.specs.declared.state.State.{State}
use Rattle.eval_rendering.specs.Bounds.{most_bytes, most_command_bytes}
use Rattle.eval_rendering.specs.Pieces.{has_long}
use Rattle.eval_rendering.specs.Rendering.{render}
use Rattle.eval_rendering.specs.declared.rendered.Mode.TheVariants.{Plain}
use Rattle.eval_rendering.specs.declared.rendered.Rendered.TheVariants as rendered
use Rattle.eval_acts.specs.ActTexts.{import_text, within_by}
use Rattle.eval_acts.specs.Inner.{only_text, plain_command, short_command, text_of}

plain_piece : (p : Piece) (text : Text) → text_of p ≡ Some text → p ≡ piece.Plain text
plain_piece (piece.Plain t) text e = cc
plain_piece piece.Kernel text e = cc
plain_piece piece.Number text e = cc
plain_piece piece.Devpath text e = cc
plain_piece piece.Id text e = cc
plain_piece piece.Driver text e = cc
plain_piece (piece.Attr name) text e = cc
plain_piece (piece.Env name) text e = cc
plain_piece piece.Major text e = cc
plain_piece piece.Minor text e = cc
plain_piece piece.Result text e = cc
plain_piece (piece.Word number) text e = cc
plain_piece (piece.From number) text e = cc
plain_piece piece.Parent text e = cc
plain_piece piece.Name text e = cc
plain_piece piece.Links text e = cc
plain_piece piece.Root text e = cc
plain_piece piece.Sys text e = cc
plain_piece piece.Devnode text e = cc

only_piece : (pieces : List Piece) (text : Text) → only_text pieces ≡ Some text → pieces ≡ piece.Plain text ∷ []
only_piece [] text e = cc
only_piece (p ∷ []) text e = ap (λ one. one ∷ []) (plain_piece p text e)
only_piece (p ∷ other ∷ more) text e = cc

-- a command that is kept is short enough, and the only piece
short_is : (test : Bool) (text kept : Text) → nat_lt most_command_bytes (length text) ≡ test → short_command text ≡ Some kept → (text ≡ kept) × (test ≡ false)
short_is true text kept long e = let none : None ≡ Some kept = rw long at e in cc
short_is false text kept long e = let some : Some text ≡ Some kept = rw long at e in (cc, refl)

kept_is : (found : Option Text) (kept : Text) → option_and_then short_command found ≡ Some kept → (found ≡ Some kept) × (nat_lt most_command_bytes (length kept) ≡ false)
kept_is None kept e = cc
kept_is (Some text) kept e =
    let s = short_is (nat_lt most_command_bytes (length text)) text kept refl e in
    (ap Some s.0, ap (λ t. nat_lt most_command_bytes (length t)) (sym s.0) ∙ s.1)

fits_all : (n : ℕ) → nat_lt most_command_bytes n ≡ false → nat_lt most_bytes n ≡ false
fits_all n e = grind (arith, nat_tests)

not_long : (profile : Profile) (state : State) (text : Text) → has_long profile state (piece.Plain text ∷ []) ≡ false
not_long Manual state text = refl
not_long Udev state text = refl

within_room : (profile : Profile) (text : Text) → nat_lt most_command_bytes (length text) ≡ false → within_by profile most_command_bytes (rendered.Text text) ≡ rendered.Text text
within_room Manual text e = refl
within_room Udev text e = rw e refl

rendered_plain : (template : Template) (state : State) (text : Text) → template.pieces ≡ piece.Plain text ∷ [] → nat_lt most_bytes (length text) ≡ false → render template state Plain ≡ rendered.Text text
unfolding render
rendered_plain template state text pieces fits = rw (pieces, not_long state.event.profile state text, append-nil, fits) refl

-- the text of a command without substitutions is what rendering makes of it
pub is_its_text : (template : Template) (state : State) (text : Text) → Some text ≡ plain_command template.pieces → import_text most_command_bytes template state ≡ rendered.Text text
is_its_text template state text e =
    let k = kept_is (only_text template.pieces) text (sym e) in
    ap (within_by state.event.profile most_command_bytes) (rendered_plain template state text (only_piece template.pieces text k.0) (fits_all (length text) k.1))
    ∙ within_room state.event.profile text k.1
