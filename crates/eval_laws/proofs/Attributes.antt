-- Attributes in texts.
use Rattle.std.proofs.Common.{◌≡◌, ℕ, ◌<◌, Bool, true, false, cond, ◌||◌, nat_lt, List, [], ◌∷◌, ◌++◌, flat_map, length, take, Option, Some, None, option_map, unwrap_or, refl, ap, ◌∙◌}
use Rattle.std.specs.List.{list_any}
use Rattle.std.specs.Option.{option_and_then}
use Rattle.std.proofs.lemmas.Bool.{lt-ltb}
use Rattle.text_bytes.specs.Texts.{is_empty, trimmed}
use Rattle.text_bytes.specs.declared.profile.Profile.{Profile}
use Rattle.text_bytes.specs.declared.profile.Profile.TheVariants.{Manual, Udev}
use Rattle.text_tables.specs.Pairs.{value_of}
use Rattle.text_bytes.specs.Text.{Text}
use Rattle.device_core.specs.Values.{DeviceValue}
use Rattle.rule_tokens.specs.Template.{Parts as Template}
use Rattle.rule_tokens.specs.declared.piece.Piece.{Piece}
use Rattle.rule_tokens.specs.declared.piece.Piece.TheVariants as piece
use Rattle.eval_state.specs.Chains.{device_at}
use Rattle.eval_state.specs.Named.{NamedValue, named, named_place}
use Rattle.eval_state.specs.Texts.{or_empty}
use Rattle.eval_state.specs.declared.state.State.{State}
use Rattle.eval_rendering.specs.Bounds.{bounded, most_value_bytes}
use Rattle.eval_rendering.specs.Pieces.{as_read, attribute_as, attribute_named, attribute_of, attribute_read, cut_off, has_long, is_long, named_attribute, or_else, piece_text}
use Rattle.eval_rendering.specs.Rendering.{as_rendered, render, text_in}
use Rattle.text_bytes.specs.Safe.{attribute_marks, safe}
use Rattle.eval_rendering.specs.declared.rendered.Mode.{Mode}
use Rattle.eval_rendering.specs.declared.rendered.Rendered.TheVariants as rendered

pub manual_renders : (template : Template) (state : State) (mode : Mode) → state.event.profile ≡ Manual → render template state mode ≡ as_rendered mode (bounded (flat_map (text_in mode state) template.pieces))
unfolding render
manual_renders template state mode manual =
    ap (λ (p : Profile). cond (has_long p state template.pieces) rendered.TooLong (as_rendered mode (bounded (flat_map (text_in mode state) template.pieces)))) manual

any_among : {X : Type 0} (test : X → Bool) (before following : List X) (x : X) → test x ≡ true → list_any test (before ++ x ∷ following) ≡ true
any_among test [] following x h = ap (λ b. b || list_any test following) h
any_among test (y ∷ before) following x h = by (test y) (any_among test before following x h)
  where
    by : (b : Bool) → list_any test (before ++ x ∷ following) ≡ true → (b || list_any test (before ++ x ∷ following)) ≡ true
    by true more = refl
    by false more = more

pub long_is_too_long : (template : Template) (state : State) (mode : Mode) (before following : List Piece) (name : Text) → state.event.profile ≡ Udev → template.pieces ≡ before ++ piece.Attr name ∷ following
    → named_attribute name state.event ≡ None → 511 < length (as_read (or_empty (attribute_read name state))) → render template state mode ≡ rendered.TooLong
unfolding render
long_is_too_long template state mode before following name udev whole none long =
    let other = as_rendered mode (bounded (flat_map (text_in mode state) template.pieces)) in
    let found : attribute_as Udev name state ≡ as_read (or_empty (attribute_read name state)) = ap (λ (o : Option Text). unwrap_or (option_map cut_off o) (as_read (or_empty (attribute_read name state)))) none in
    let here : is_long state (piece.Attr name) ≡ true = ap (λ (t : Text). nat_lt most_value_bytes (length t)) found ∙ lt-ltb 511 (length (as_read (or_empty (attribute_read name state)))) long in
    ap (λ (p : Profile). cond (has_long p state template.pieces) rendered.TooLong other) udev
    ∙ ap (λ (ps : List Piece). cond (list_any (is_long state) ps) rendered.TooLong other) whole
    ∙ ap (λ (b : Bool). cond b rendered.TooLong other) (any_among (is_long state) before following (piece.Attr name) here)

pub named_is_cut : (state : State) (name : Text) (is : NamedValue) (place : ℕ) (device : DeviceValue) → state.event.profile ≡ Udev → named name ≡ Some is → is_empty is.attribute ≡ false
    → named_place is state.event ≡ Some place → device_at state.event place ≡ Some device
    → piece_text state (piece.Attr name) ≡ safe attribute_marks (trimmed (take 511 (as_read (or_empty (value_of device.attrs is.attribute)))))
named_is_cut state name is place device udev reads some there at =
    let own : Text = as_read (or_empty (attribute_read name state)) in
    let given : Option Text = value_of state.event.device.attrs name in
    let found : named_attribute name state.event ≡ Some (attribute_of is.attribute device) =
    ap (option_and_then (attribute_named state.event given)) reads
    ∙ ap (λ (b : Bool). cond b None (or_else (option_map (attribute_of is.attribute) (option_and_then (device_at state.event) (named_place is state.event))) given)) some
    ∙ ap (λ (o : Option ℕ). or_else (option_map (attribute_of is.attribute) (option_and_then (device_at state.event) o)) given) there
    ∙ ap (λ (d : Option DeviceValue). or_else (option_map (attribute_of is.attribute) d) given) at in
    ap (λ (p : Profile). safe attribute_marks (trimmed (attribute_as p name state))) udev
    ∙ ap (λ (o : Option Text). safe attribute_marks (trimmed (unwrap_or (option_map cut_off o) own))) found
