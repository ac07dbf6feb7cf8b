-- What the command of a builtin leaves by being reached.
use Rattle.std.proofs.Common.{◌≡◌, Bool, true, false, cond, ◌&&◌, is_none, List, [], ◌∷◌, ◌++◌, Option, Some, None, append-nil, refl, ap, ◌∙◌}
use Rattle.std.specs.List.{list_all}
use Rattle.std.specs.Option.{option_or}
use Rattle.text_bytes.specs.declared.profile.Profile.TheVariants.{Manual}
use Rattle.text_bytes.specs.Text.{Text}
use Rattle.device_core.specs.Values.{EventValue}
use Rattle.rule_tokens.specs.Template.{Parts as Template}
use Rattle.rule_tokens.specs.declared.piece.Piece.{Piece}
use Rattle.rule_tokens.specs.declared.piece.Piece.TheVariants as piece
use Rattle.rule_types.specs.declared.part.Import.{Import}
use Rattle.rule_types.specs.declared.part.Import.TheVariants as import
use Rattle.rule_types.specs.Rules.{Rule}
use Rattle.eval_rendering.specs.Attributes.{is_not_read}
use Rattle.eval_state.specs.Notes.{note_about}
use Rattle.eval_state.specs.declared.note_kind.NoteKind.TheVariants.{AttributeNotRead}
use Rattle.eval_state.specs.declared.scene.Scene.{Scene}
use Rattle.eval_acts.specs.Acts.{import_reached}
use Rattle.eval_acts.specs.Unread.{first_unread, unread_in, unread_noted, unread_notes}

pub manual_leaves : (r : Rule) (from : Import) (s : Scene) → import_reached Manual r from s ≡ s
manual_leaves r (import.Builtin template) s = refl
manual_leaves r from s = refl

-- whether all of these pieces are read
abbrev are_read : EventValue → List Piece → Bool
are_read event pieces = list_all (λ p. is_none (unread_in event p)) pieces

first_at : (event : EventValue) (before following : List Piece) (name : Text) → are_read event before ≡ true → is_not_read name event ≡ true
    → first_unread event (before ++ piece.Attr name ∷ following) ≡ Some name
unfolding first_unread
first_at event [] following name read is = ap (λ b. option_or (cond b (Some name) None) (first_unread event following)) is
first_at event (p ∷ before) following name read is = by (unread_in event p) (λ h. first_at event before following name h is) read
  where
    by : (o : Option Text) → (are_read event before ≡ true → first_unread event (before ++ piece.Attr name ∷ following) ≡ Some name)
        → (is_none o && are_read event before) ≡ true → option_or o (first_unread event (before ++ piece.Attr name ∷ following)) ≡ Some name
    by None later h = later h
    by (Some t) later h = absurd (cc)

none_at : (event : EventValue) (pieces : List Piece) → are_read event pieces ≡ true → first_unread event pieces ≡ None
unfolding first_unread
none_at event [] read = refl
none_at event (p ∷ pieces) read = by (unread_in event p) (none_at event pieces) read
  where
    by : (o : Option Text) → (are_read event pieces ≡ true → first_unread event pieces ≡ None)
        → (is_none o && are_read event pieces) ≡ true → option_or o (first_unread event pieces) ≡ None
    by None later h = later h
    by (Some t) later h = absurd (cc)

pub noted_first : (r : Rule) (template : Template) (s : Scene) (before following : List Piece) (name : Text) → template.pieces ≡ before ++ piece.Attr name ∷ following
    → list_all (λ p. is_none (unread_in s.state.event p)) before ≡ true → is_not_read name s.state.event ≡ true
    → (unread_noted r template s).notes ≡ s.notes ++ note_about r AttributeNotRead name ∷ []
noted_first r template s before following name whole read is =
    ap (λ pieces. s.notes ++ unread_notes r (first_unread s.state.event pieces)) whole
    ∙ ap (λ o. s.notes ++ unread_notes r o) (first_at s.state.event before following name read is)

pub noted_none : (r : Rule) (template : Template) (s : Scene) → list_all (λ p. is_none (unread_in s.state.event p)) template.pieces ≡ true → unread_noted r template s ≡ s
noted_none r template s read =
    ap (λ o. record s { notes = s.notes ++ unread_notes r o }) (none_at s.state.event template.pieces read)
    ∙ ap (λ notes. record s { notes = notes }) (append-nil s.notes)
