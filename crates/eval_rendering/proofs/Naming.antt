-- A name that is put together a piece at a time.
use Rattle.std.proofs.Common.{◌≡◌, ℕ, Bool, true, false, ◌||◌, List, [], ◌∷◌, ◌++◌, length, flat_map, Option, Some, None, cond, nat_lt, refl, ap, sym, ◌∙◌, true≢false, arith, append_assoc, length-append}
use Rattle.std.proofs.lemmas.Bool.Decides.{nat_tests}
use Rattle.std.proofs.lemmas.List.{append-nil}
use Rattle.std.specs.List.{list_any}
use Rattle.text_bytes.specs.Text.{Text}
use Rattle.rule_tokens.specs.Bare.{has_close, is_attribute}
use Rattle.rule_tokens.specs.TemplateReading.{kept, left_of, udev_first}
use Rattle.rule_tokens.specs.declared.piece.Piece.{Piece}
use Rattle.rule_tokens.specs.declared.piece.Piece.TheVariants as piece
use Rattle.rule_tokens.proofs.Bare.{no_attribute}
use Rattle.rule_tokens.proofs.Left.{left_all, left_first, left_stops}
use Rattle.eval_state.specs.declared.state.State.{State}
use Rattle.eval_rendering.specs.Bounds.{bounded, most_bytes, short}
use Rattle.eval_rendering.specs.Lengthened.{lengthened}
use Rattle.eval_rendering.specs.Names.{name_piece, name_text}
use Rattle.eval_rendering.specs.Pieces.{has_long}
use Rattle.eval_rendering.specs.Rendering.{as_rendered, render, rendered_as_udev, text_in}
use Rattle.eval_rendering.specs.declared.rendered.Mode.TheVariants.{Plain}
use Rattle.eval_rendering.specs.declared.rendered.Rendered.TheVariants as rendered

longer : (a b : Text) → nat_lt 511 (length a) ≡ true → nat_lt 511 (length (a ++ b)) ≡ true
longer a b h = grind (arith, nat_tests, length-append a b)

short_then : (a b : Text) → lengthened (short a) b ≡ short (a ++ b)
short_then a b = by (nat_lt 511 (length a)) refl
  where
    by : (v : Bool) → nat_lt 511 (length a) ≡ v → lengthened (cond v None (Some a)) b ≡ short (a ++ b)
    by true h = rw (longer a b h) refl
    by false h = refl

-- what is put after a name one after another is put there at once
pub lengthened_twice : (s : Option Text) (a b : Text) → lengthened (lengthened s a) b ≡ lengthened s (a ++ b)
lengthened_twice None a b = refl
lengthened_twice (Some t) a b = short_then (t ++ a) b ∙ ap short (append_assoc t a b)

-- nothing after it changes nothing
pub lengthened_nothing : (s : Option Text) (a : Text) → lengthened (lengthened s a) [] ≡ lengthened s a
lengthened_nothing s a = lengthened_twice s a [] ∙ ap (lengthened s) (append-nil a)

-- a name that is too long stays that
pub long_stays : (s : Option Text) (more : Text) → s ≡ None → lengthened s more ≡ s
long_stays None more e = refl
long_stays (Some t) more e = cc

module _ (state : State) where
  -- the first piece, and the others
  name_first : (b : ℕ) (t rest : Text) (p : Piece) (next : Text) → rest ≡ b ∷ t → kept b t (udev_first b t) ≡ Some (p, next) → name_text rest state ≡ name_piece state p ++ name_text next state
  unfolding name_text
  name_first b t rest p next e found = ap (flat_map (name_piece state)) (sym (left_first b t rest p next e found))

  -- one piece more is put after a name
  pub name_proceeds : (b : ℕ) (t rest : Text) (p : Piece) (next : Text) (s now : Option Text) → rest ≡ b ∷ t → kept b t (udev_first b t) ≡ Some (p, next) → now ≡ lengthened s (name_piece state p)
      → lengthened now (name_text next state) ≡ lengthened s (name_text rest state)
  name_proceeds b t rest p next s now e found is =
      ap (λ n. lengthened n (name_text next state)) is
      ∙ lengthened_twice s (name_piece state p) (name_text next state)
      ∙ ap (lengthened s) (sym (name_first b t rest p next e found))

  -- if reading stops, nothing more is in the name
  pub name_stops : (b : ℕ) (t rest : Text) (s : Option Text) → rest ≡ b ∷ t → kept b t (udev_first b t) ≡ None → lengthened s [] ≡ s → lengthened s (name_text rest state) ≡ s
  unfolding name_text
  name_stops b t rest s e none fits = ap (λ ps. lengthened s (flat_map (name_piece state) ps)) (left_stops [] b t rest e none) ∙ fits

  -- and if its end is reached
  pub name_ends : (rest : Text) (s : Option Text) → length rest ≡ 0 → lengthened s [] ≡ s → lengthened s (name_text rest state) ≡ s
  unfolding name_text
  name_ends rest s end fits = ap (λ ps. lengthened s (flat_map (name_piece state) ps)) (left_all [] rest end) ∙ fits

  -- a piece that is not an attribute is in a name as in any text
  same_piece : (p : Piece) → is_attribute p ≡ false → name_piece state p ≡ text_in Plain state p
  same_piece (piece.Attr name) h = absurd (true≢false h)
  same_piece (piece.Plain text) h = refl
  same_piece piece.Kernel h = refl
  same_piece piece.Number h = refl
  same_piece piece.Devpath h = refl
  same_piece piece.Id h = refl
  same_piece piece.Driver h = refl
  same_piece (piece.Env name) h = refl
  same_piece piece.Major h = refl
  same_piece piece.Minor h = refl
  same_piece piece.Result h = refl
  same_piece (piece.Word number) h = refl
  same_piece (piece.From number) h = refl
  same_piece piece.Parent h = refl
  same_piece piece.Name h = refl
  same_piece piece.Links h = refl
  same_piece piece.Root h = refl
  same_piece piece.Sys h = refl
  same_piece piece.Devnode h = refl

  same_pieces : (ps : List Piece) → list_any is_attribute ps ≡ false → flat_map (name_piece state) ps ≡ flat_map (text_in Plain state) ps
  same_pieces [] h = refl
  same_pieces (p ∷ ps) h = by (is_attribute p) refl h (same_pieces ps)
    where
      by : (b : Bool) → is_attribute p ≡ b → (b || list_any is_attribute ps) ≡ false → (list_any is_attribute ps ≡ false → flat_map (name_piece state) ps ≡ flat_map (text_in Plain state) ps)
          → name_piece state p ++ flat_map (name_piece state) ps ≡ text_in Plain state p ++ flat_map (text_in Plain state) ps
      by true e h more = absurd (true≢false h)
      by false e h more = ap (λ t. t ++ flat_map (name_piece state) ps) (same_piece p e) ∙ ap (λ t. text_in Plain state p ++ t) (more h)

  -- a text that is not too long is answered as it is
  answered : (text whole : Text) → as_rendered Plain (bounded whole) ≡ rendered.Text text → whole ≡ text
  answered text whole = by (nat_lt most_bytes (length whole))
    where
      by : (b : Bool) → as_rendered Plain (cond b None (Some whole)) ≡ rendered.Text text → whole ≡ text
      by true h = cc
      by false h = cc

  pub rendered_name : (name text : Text) → has_close name ≡ false → rendered_as_udev name state ≡ rendered.Text text → name_text name state ≡ text
  unfolding name_text render
  rendered_name name text bare is = same_pieces (left_of name) (no_attribute name bare) ∙ by (has_long state.event.profile state (left_of name)) is
    where
      by : (b : Bool) → cond b rendered.TooLong (as_rendered Plain (bounded (flat_map (text_in Plain state) (left_of name)))) ≡ rendered.Text text → flat_map (text_in Plain state) (left_of name) ≡ text
      by true h = cc
      by false h = answered text (flat_map (text_in Plain state) (left_of name)) h
