-- The note on a block without attributes: whose it is, and when there is none.
use Rattle.std.proofs.Common.{◌≡◌, Bool, true, false, cond, not, ◌&&◌, List, [], ◌∷◌, ◌++◌, is_none, Option, Some, None, option_map, option_to_list, codes, refl, ap, sym, ◌∙◌}
use Rattle.std.specs.List.{list_all}
use Rattle.std.specs.Option.{option_or}
use Rattle.text_bytes.specs.Texts.{is_empty}
use Rattle.text_bytes.specs.declared.profile.Profile.{Profile}
use Rattle.text_bytes.specs.declared.profile.Profile.TheVariants.{Manual, Udev}
use Rattle.text_bytes.specs.Text.{Text}
use Rattle.text_tables.specs.Texts.{same_text}
use Rattle.rule_types.specs.Rules.{Rule}
use Rattle.device_core.specs.Values.{DeviceValue, EventValue}
use Rattle.eval_state.specs.Notes.{note_about}
use Rattle.eval_state.specs.declared.note_kind.NoteKind.TheVariants.{AttributesNotGiven}
use Rattle.eval_state.specs.declared.notes.Note.{Note}
use Rattle.eval_rules.specs.declared.outcome.Outcome.{Outcome}
use Rattle.eval_unread.specs.Unread.{with_notes}
use Rattle.eval_unread.proofs.Unasked.{same_outcome}
use Rattle.eval_unread.specs.Given.{first_looking, gives_none, is_bare, looked_at, not_given, not_given_by}

-- whether none of these rules looks at an attribute
abbrev none_looks : List Rule → Bool
none_looks rules = list_all (λ (q : Rule). is_none (looked_at q)) rules

first_after : (before following : List Rule) (r : Rule) (name : Text) → none_looks before ≡ true → looked_at r ≡ Some name
    → first_looking (before ++ r ∷ following) ≡ Some (note_about r AttributesNotGiven name)
unfolding first_looking
first_after [] following r name none looks = ap (λ (o : Option Text). option_or (option_map (note_about r AttributesNotGiven) o) (first_looking following)) looks
first_after (q ∷ before) following r name none looks = by (looked_at q) (λ h. first_after before following r name h looks) none
  where
    by : (o : Option Text) → (none_looks before ≡ true → first_looking (before ++ r ∷ following) ≡ Some (note_about r AttributesNotGiven name))
        → (is_none o && none_looks before) ≡ true
        → option_or (option_map (note_about q AttributesNotGiven) o) (first_looking (before ++ r ∷ following)) ≡ Some (note_about r AttributesNotGiven name)
    by None later h = later h
    by (Some t) later h = absurd (cc)

none_after : (rules : List Rule) → none_looks rules ≡ true → first_looking rules ≡ None
unfolding first_looking
none_after [] none = refl
none_after (q ∷ rules) none = by (looked_at q) (none_after rules) none
  where
    by : (o : Option Text) → (none_looks rules ≡ true → first_looking rules ≡ None)
        → (is_none o && none_looks rules) ≡ true → option_or (option_map (note_about q AttributesNotGiven) o) (first_looking rules) ≡ None
    by None later h = later h
    by (Some t) later h = absurd (cc)

pub noted_by_first : (before following : List Rule) (r : Rule) (name : Text) (event : EventValue) → event.profile ≡ Udev → gives_none event ≡ true
    → list_all (λ (q : Rule). is_none (looked_at q)) before ≡ true → looked_at r ≡ Some name
    → not_given (before ++ r ∷ following) event ≡ Some (note_about r AttributesNotGiven name)
noted_by_first before following r name event udev none unlooked looks =
    ap (λ (p : Profile). not_given_by p (before ++ r ∷ following) event) udev
    ∙ ap (λ (b : Bool). cond b (first_looking (before ++ r ∷ following)) None) none
    ∙ first_after before following r name unlooked looks

pub unlooked_none : (rules : List Rule) (event : EventValue) → list_all (λ (q : Rule). is_none (looked_at q)) rules ≡ true → not_given rules event ≡ None
unlooked_none rules event unlooked = by event.profile
  where
    on : (b : Bool) → cond b (first_looking rules) None ≡ None
    on true = none_after rules unlooked
    on false = refl

    by : (p : Profile) → not_given_by p rules event ≡ None
    by Manual = refl
    by Udev = on (gives_none event)

pub given_none : (rules : List Rule) (event : EventValue) → gives_none event ≡ false → not_given rules event ≡ None
given_none rules event given = by event.profile
  where
    by : (p : Profile) → not_given_by p rules event ≡ None
    by Manual = refl
    by Udev = ap (λ (b : Bool). cond b (first_looking rules) None) given

pub manual_none : (rules : List Rule) (event : EventValue) → event.profile ≡ Manual → not_given rules event ≡ None
manual_none rules event manual = ap (λ (p : Profile). not_given_by p rules event) manual

-- ---- which blocks give none

never_last : (b : Bool) → (b && false) ≡ false
never_last true = refl
never_last false = refl

has_above : (before following : List DeviceValue) (d : DeviceValue) → is_empty d.attrs ≡ false
    → list_all is_bare (before ++ d ∷ following) ≡ false
has_above [] following d has = ap (λ (b : Bool). b && list_all is_bare following) has
has_above (e ∷ before) following d has = ap (λ (b : Bool). is_empty e.attrs && b) (has_above before following d has) ∙ never_last (is_empty e.attrs)

pub gone_gives : (event : EventValue) → event.action ≡ codes "remove" → gives_none event ≡ false
gone_gives event gone =
    ap (λ (text : Text). not (same_text text (codes "remove")) && (is_empty event.device.attrs && list_all is_bare event.parents)) gone

pub own_gives : (event : EventValue) → is_empty event.device.attrs ≡ false → gives_none event ≡ false
own_gives event has =
    ap (λ (b : Bool). not (same_text event.action (codes "remove")) && (b && list_all is_bare event.parents)) has
    ∙ never_last (not (same_text event.action (codes "remove")))

pub above_gives : (event : EventValue) (before following : List DeviceValue) (d : DeviceValue) → event.parents ≡ before ++ d ∷ following → is_empty d.attrs ≡ false
    → gives_none event ≡ false
above_gives event before following d are has =
    ap (λ (b : Bool). not (same_text event.action (codes "remove")) && (is_empty event.device.attrs && b))
    (ap (list_all is_bare) are ∙ has_above before following d has)
    ∙ ap (λ (b : Bool). not (same_text event.action (codes "remove")) && b) (never_last (is_empty event.device.attrs))
    ∙ never_last (not (same_text event.action (codes "remove")))

-- an outcome stays as it is without a note
pub none_added : (o : Outcome) (note : Option Note) → None ≡ note → o ≡ with_notes (option_to_list note) o
none_added o note none = same_outcome o (option_to_list note) (ap option_to_list (sym none))
