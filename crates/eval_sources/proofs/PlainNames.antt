-- A text without a sign is rendered alike whatever the state.
use Rattle.std.proofs.Common.{◌≡◌, ℕ, zero, suc, Bool, true, false, cond, ◌||◌, ◌==◌, List, [], ◌∷◌, ◌++◌, drop, flat_map, refl, ap, sym, ◌∙◌, subst}
use Rattle.std.specs.List.{AllByRecursion, list_any, prefix_len}
use Rattle.text_bytes.specs.declared.profile.Profile.{Profile}
use Rattle.text_bytes.specs.declared.profile.Profile.TheVariants.{Manual, Udev}
use Rattle.text_bytes.specs.Names.{dollar, percent}
use Rattle.text_bytes.specs.Text.{Text}
use Rattle.text_bytes.specs.Texts.{skip_while}
use Rattle.rule_tokens.specs.Substituted.{has_sign}
use Rattle.rule_tokens.specs.TemplateReading.{FirstPiece, is_no_sign, kept, left_of, left_within, plain_first, udev_first, with_kept}
use Rattle.rule_tokens.specs.declared.piece.Piece.{Piece}
use Rattle.eval_state.specs.declared.state.State.{State}
use Rattle.eval_rendering.specs.Bounds.{bounded}
use Rattle.eval_rendering.specs.Pieces.{has_long, is_long, piece_text}
use Rattle.eval_rendering.specs.Rendering.{as_rendered, render, rendered_as_udev, text_in}
use Rattle.eval_rendering.specs.declared.rendered.Mode.TheVariants.{Plain}
use Rattle.eval_rendering.specs.declared.rendered.Rendered.TheVariants as rendered

neither : (a b : Bool) → (a || b) ≡ false → (a ≡ false) × (b ≡ false)
neither true b h = cc
neither false b h = (refl, h)

-- a piece is put in alike whatever the state, and is not too long
abbrev IsAlike : Piece → Type 0
IsAlike p = (u v : State) → (piece_text u p ≡ piece_text v p) × (is_long u p ≡ false)

none_dropped : (n : ℕ) (t : Text) → has_sign t ≡ false → has_sign (drop n t) ≡ false
none_dropped zero [] h = h
none_dropped zero (b ∷ t) h = h
none_dropped (suc n) [] h = h
none_dropped (suc n) (b ∷ t) h = none_dropped n t (neither (b == dollar || b == percent) (has_sign t) h).1

none_later : (t : Text) → has_sign t ≡ false → has_sign (skip_while is_no_sign t) ≡ false
none_later t h = none_dropped (prefix_len is_no_sign t) t h

no_sign : (a b : Bool) (x y z : FirstPiece) → (a || b) ≡ false → cond a x (cond b y z) ≡ z
no_sign true b x y z h = absurd (cc)
no_sign false true x y z h = absurd (cc)
no_sign false false x y z h = refl

plain_here : (b : ℕ) (t : Text) → (b == dollar || b == percent) ≡ false → udev_first b t ≡ plain_first b t
unfolding udev_first
plain_here b t h = no_sign (b == dollar) (b == percent) _ _ (plain_first b t) h

left_alike : (n : ℕ) (t : Text) → has_sign t ≡ false → AllByRecursion IsAlike (left_within n t)
left_alike zero t h = tt
left_alike (suc n) [] h = tt
left_alike (suc n) (b ∷ t) h =
    let none = neither (b == dollar || b == percent) (has_sign t) h in
    subst (λ (x : FirstPiece). AllByRecursion IsAlike (with_kept (left_within n) (kept b t x))) (sym (plain_here b t none.0))
    ((λ u v. (refl, refl)), left_alike n (skip_while is_no_sign t) (none_later t none.1))

module _ (u v : State) where
  texts_alike : (ps : List Piece) → AllByRecursion IsAlike ps → flat_map (text_in Plain u) ps ≡ flat_map (text_in Plain v) ps
  texts_alike [] h = refl
  texts_alike (p ∷ ps) h = ap (λ t. t ++ flat_map (text_in Plain u) ps) (h.0 u v).0 ∙ ap (λ rest. piece_text v p ++ rest) (texts_alike ps h.1)

  none_long : (ps : List Piece) → AllByRecursion IsAlike ps → list_any (is_long u) ps ≡ false
  none_long [] h = refl
  none_long (p ∷ ps) h = ap (λ b. b || list_any (is_long u) ps) (h.0 u v).1 ∙ none_long ps h.1

  fits : (profile : Profile) (ps : List Piece) → AllByRecursion IsAlike ps → has_long profile u ps ≡ false
  fits Manual ps h = refl
  fits Udev ps h = none_long ps h

-- a text without a sign is the same in every state
pub rendered_alike : (name : Text) → has_sign name ≡ false → (u v : State) → rendered_as_udev name u ≡ rendered_as_udev name v
unfolding render left_of
rendered_alike name h u v =
    let ps : List Piece = left_of name in
    let all : AllByRecursion IsAlike ps = left_alike _ name h in
    let texts : State → Text = λ (w : State). flat_map (text_in Plain w) ps in
    ap (λ b. cond b rendered.TooLong (as_rendered Plain (bounded (texts u)))) (fits u v u.event.profile ps all)
    ∙ ap (λ t. as_rendered Plain (bounded t)) (texts_alike u v ps all)
    ∙ sym (ap (λ b. cond b rendered.TooLong (as_rendered Plain (bounded (texts v)))) (fits v u v.event.profile ps all))
