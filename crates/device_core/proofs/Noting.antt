-- The notes of a kind: one if it is so, else none.
use Rattle.std.proofs.Common.{◌≡◌, ◌≢◌, ◌↔◌, ◌⊎◌, inl, inr, ℕ, Bool, true, false, not, ◌&&◌, ◌||◌, List, [], ◌∷◌, ◌++◌, Option, Some, None, codes, drop, length, filter, flat_map, cond, ◌==◌, suc, slice_index, refl, ap, sym, ◌∙◌, arith}
use Rattle.std.proofs.Math.Seq.{get_or-append_seam}
use Rattle.std.proofs.lemmas.List.{append-nil, length-append}
use Rattle.std.proofs.lemmas.List.Elements.{filter-append}
use Rattle.std.specs.Cmp.Lexicographic.{bytes_decides}
use Rattle.std.proofs.lemmas.Bool.{true≢false}
use Rattle.std.proofs.lemmas.Bool.Decides.{Decides-eqb}
use Rattle.std.proofs.lemmas.Slice.Eq.{starts_is}
use Rattle.text_bytes.specs.declared.profile.Profile.{Profile}
use Rattle.text_bytes.specs.declared.profile.Profile.TheVariants.{Manual, Udev}
use Rattle.text_bytes.specs.Text.{Text}
use Rattle.text_tables.specs.Texts.{is_among, same_text}
use Rattle.text_tables.specs.Pairs.{Pair, value_of}
use Rattle.text_bytes.specs.Names.{carriage_return}
use Rattle.text_bytes.specs.Texts.{ends_in, is_empty}
use Rattle.device_core.specs.Values.{DeviceValue, EventValue}
use Rattle.device_core.specs.Laws.{IsNoneOf, notes_of, same_kind}
use Rattle.device_core.specs.Tried.{lacks_event, lacks_event_by}
use Rattle.device_core.specs.Notes.{about, begins_with_sys, block_notes, due_note, has_gone_attributes, is_behind_commands, is_due, is_filled, is_stored_by_udev, kinds, note_about, note_if, notes_by, udev_notes}
use Rattle.device_core.specs.declared.kinds.BlockNoteKind.{BlockNoteKind}
use Rattle.device_core.specs.declared.kinds.BlockNoteKind.TheVariants.{BehindCommands, GoneAttributes, NoSubsystem, PathBeginsWithSys, ReturnAtEnds, StoredByUdev, UnknownAction}
use Rattle.device_core.specs.declared.notes.BlockNote.{BlockNote}

abbrev of_kind : BlockNoteKind → List BlockNote → List BlockNote
of_kind kind notes = filter (λ note. same_kind kind note.kind) notes

-- the notes of a kind among those of another one: all or none
of_due : (event : EventValue) (kind other : BlockNoteKind) → of_kind kind (due_note event other) ≡ cond (same_kind kind other) (due_note event other) []
of_due event kind other = by (is_due event other) (same_kind kind other) refl
  where
    by : (is_so same : Bool) → same_kind kind other ≡ same → of_kind kind (note_if is_so other (about event other)) ≡ cond same (note_if is_so other (about event other)) []
    by true true e = rw e refl
    by true false e = rw e refl
    by false true e = refl
    by false false e = refl

picked : (event : EventValue) (kind : BlockNoteKind) (ks : List BlockNoteKind)
    → of_kind kind (flat_map (due_note event) ks) ≡ flat_map (λ k. cond (same_kind kind k) (due_note event k) []) ks
picked event kind [] = refl
picked event kind (k ∷ ks) =
    filter-append (λ note. same_kind kind note.kind) (due_note event k) (flat_map (due_note event) ks)
    ∙ (λ i. of_due event kind k i ++ picked event kind ks i)

-- each kind is there once
alone : (event : EventValue) (kind : BlockNoteKind) → of_kind kind (udev_notes event) ≡ due_note event kind
alone event UnknownAction = picked event UnknownAction kinds ∙ append-nil (due_note event UnknownAction)
alone event PathBeginsWithSys = picked event PathBeginsWithSys kinds ∙ append-nil (due_note event PathBeginsWithSys)
alone event StoredByUdev = picked event StoredByUdev kinds ∙ append-nil (due_note event StoredByUdev)
alone event BehindCommands = picked event BehindCommands kinds ∙ append-nil (due_note event BehindCommands)
alone event NoSubsystem = picked event NoSubsystem kinds ∙ append-nil (due_note event NoSubsystem)
alone event GoneAttributes = picked event GoneAttributes kinds ∙ append-nil (due_note event GoneAttributes)
alone event ReturnAtEnds = picked event ReturnAtEnds kinds ∙ append-nil (due_note event ReturnAtEnds)

-- a kind's notes by both profiles
module _ (kind : BlockNoteKind) (text : Text) where
  abbrev one : List BlockNote
  one = note_about kind text ∷ []

  -- one note is there exactly if it is so
  pub is_there : (is_so : Bool) → (note_if is_so kind text ≡ one) ↔ (is_so ≡ true)
  is_there true = ((λ h. refl), λ h. refl)
  is_there false = ((λ h. cc), λ h. absurd (true≢false (sym h)))

  pub at_most_one : (is_so : Bool) → (note_if is_so kind text ≡ []) ⊎ (note_if is_so kind text ≡ one)
  at_most_one true = inr refl
  at_most_one false = inl refl

-- what decides each kind, by a profile
abbrev pub so_by : Profile → Bool → Bool
so_by Manual is_so = false
so_by Udev is_so = is_so

-- the notes of a kind, by a profile
pub notes_are : (kind : BlockNoteKind) (event : EventValue) → notes_of kind event ≡ note_if (so_by event.profile (is_due event kind)) kind (about event kind)
unfolding block_notes
notes_are kind event = by event.profile
  where
    by : (profile : Profile) → of_kind kind (notes_by profile event) ≡ note_if (so_by profile (is_due event kind)) kind (about event kind)
    by Manual = refl
    by Udev = alone event kind

-- where a property stands behind commands, that is so exactly if there is a parent
pub behind_is : (event : EventValue) (name : Text) → event.misplaced ≡ Some name → (is_behind_commands event ≡ true) ↔ (event.parents ≢ [])
behind_is event name is = rw is (by event.parents)
  where
    by : (parents : List DeviceValue) → ((not (is_empty parents) && true) ≡ true) ↔ (parents ≢ [])
    by [] = ((λ h. absurd (true≢false (sym h))), λ differs. absurd (differs refl))
    by (device ∷ devices) = ((λ h. λ e. cc), λ differs. refl)

-- where none does, it is not so
pub none_behind : (event : EventValue) → event.misplaced ≡ None → is_behind_commands event ≡ false
none_behind event is = rw is (by (not (is_empty event.parents)))
  where
    by : (t : Bool) → (t && false) ≡ false
    by true = refl
    by false = refl

pub none_by : (profile : Profile) → so_by profile false ≡ false
none_by Manual = refl
none_by Udev = refl

-- for udev a kind's note is there exactly if what decides it is so
pub noted : (kind : BlockNoteKind) (text : Text) (event : EventValue) (is_so : Bool) → event.profile ≡ Udev → notes_of kind event ≡ note_if (so_by event.profile is_so) kind text
    → (notes_of kind event ≡ note_about kind text ∷ []) ↔ (is_so ≡ true)
noted kind text event is_so udev notes =
    let here : notes_of kind event ≡ note_if is_so kind text = notes ∙ ap (λ profile. note_if (so_by profile is_so) kind text) udev in
    let there = is_there kind text is_so in
    ((λ h. there.0 (sym here ∙ h)), λ h. here ∙ there.1 h)

pub once : (kind : BlockNoteKind) (text : Text) (event : EventValue) (is_so : Bool) → notes_of kind event ≡ note_if (so_by event.profile is_so) kind text
    → (notes_of kind event ≡ []) ⊎ (notes_of kind event ≡ note_about kind text ∷ [])
once kind text event is_so notes = elim (at_most_one kind text (so_by event.profile is_so)) [ inl h ↦ inl (notes ∙ h) | inr h ↦ inr (notes ∙ h) ]

-- a text is none of some exactly if it is not found among them
pub none_of : (texts : List Text) (text : Text) → (not (is_among texts text) ≡ true) ↔ IsNoneOf text texts
none_of [] text = ((λ h. tt), λ h. refl)
none_of (other ∷ texts) text = by (same_text text other) refl (none_of texts text)
  where
    by : (same : Bool) → same_text text other ≡ same → (not (is_among texts text) ≡ true) ↔ IsNoneOf text texts
        → (not (same || is_among texts text) ≡ true) ↔ ((text ≢ other) × IsNoneOf text texts)
    by true e more = ((λ h. absurd (true≢false (sym h))), λ differs. absurd (differs.0 ((bytes_decides text other).0 e)))
    by false e more = ((λ h. ((λ same. true≢false (sym ((bytes_decides text other).1 same) ∙ e)), more.0 h)), λ differs. more.1 differs.1)

-- a path begins with the folder exactly if something follows that
pub below_sys : (path : Text) → (begins_with_sys path ≡ true) ↔ ((below : Text) × (path ≡ codes "/sys/" ++ below))
below_sys path =
    let begins = starts_is Decides-eqb path (codes "/sys/") _ refl in
    ((λ h. (drop (length (codes "/sys/")) path, begins.0 h)), λ found. begins.1 found.0 found.1)

no_value : {text : Text} → None ≡ Some text → ⊥
no_value h = cc

no_byte : {byte : ℕ} {following : Text} → Some [] ≡ Some (byte ∷ following) → ⊥
no_byte h = cc

filled_is : (value : Option Text) → (is_filled value ≡ true) ↔ ((byte : ℕ) × (following : Text) × (value ≡ Some (byte ∷ following)))
filled_is None = ((λ h. absurd (true≢false (sym h))), λ found. absurd (no_value found.2))
filled_is (Some []) = ((λ h. absurd (true≢false (sym h))), λ found. absurd (no_byte found.2))
filled_is (Some (byte ∷ following)) = ((λ h. (byte, following, refl)), λ found. refl)

-- the property is stored exactly if the action is `add` and it has a value
pub stored_is : (event : EventValue) → (is_stored_by_udev event ≡ true)
    ↔ ((event.action ≡ codes "add") × ((byte : ℕ) × (following : Text) × (value_of event.device.env (codes "USEC_INITIALIZED") ≡ Some (byte ∷ following))))
stored_is event = by (same_text event.action (codes "add")) refl (filled_is (value_of event.device.env (codes "USEC_INITIALIZED")))
  where
    Filled : Type 0
    Filled = (byte : ℕ) × (following : Text) × (value_of event.device.env (codes "USEC_INITIALIZED") ≡ Some (byte ∷ following))

    by : (same : Bool) → same_text event.action (codes "add") ≡ same → (is_filled (value_of event.device.env (codes "USEC_INITIALIZED")) ≡ true) ↔ Filled
        → ((same && is_filled (value_of event.device.env (codes "USEC_INITIALIZED"))) ≡ true) ↔ ((event.action ≡ codes "add") × Filled)
    by true e filled = ((λ h. ((bytes_decides event.action (codes "add")).0 e, filled.0 h)), λ found. filled.1 found.1)
    by false e filled = ((λ h. absurd (true≢false (sym h))), λ found. absurd (true≢false (sym ((bytes_decides event.action (codes "add")).1 found.0) ∙ e)))

-- by the manual every device has events
pub lacks_is : (event : EventValue) → so_by event.profile (lacks_event event) ≡ lacks_event event
unfolding lacks_event
lacks_is event = by event.profile
  where
    by : (profile : Profile) → so_by profile (lacks_event_by profile event) ≡ lacks_event_by profile event
    by Manual = refl
    by Udev = refl

-- the attributes are gone exactly if the action is `remove` and there are some
pub gone_is : (event : EventValue) → (has_gone_attributes event ≡ true) ↔ ((event.action ≡ codes "remove") × (event.device.attrs ≢ []))
gone_is event = by (same_text event.action (codes "remove")) refl event.device.attrs
  where
    by : (same : Bool) → same_text event.action (codes "remove") ≡ same → (attrs : List Pair)
        → ((same && not (is_empty attrs)) ≡ true) ↔ ((event.action ≡ codes "remove") × (attrs ≢ []))
    by true e [] = ((λ h. absurd (true≢false (sym h))), λ found. absurd (found.1 refl))
    by true e (pair ∷ attrs) = ((λ h. ((bytes_decides event.action (codes "remove")).0 e, λ empty. cc)), λ found. refl)
    by false e attrs = ((λ h. absurd (true≢false (sym h))), λ found. absurd (true≢false (sym ((bytes_decides event.action (codes "remove")).1 found.0) ∙ e)))

-- a text ends in a byte that follows it
pub ends_so : (front : Text) → ends_in carriage_return (front ++ carriage_return ∷ []) ≡ true
ends_so [] = refl
ends_so (b ∷ front) =
    let place : length (front ++ carriage_return ∷ []) ≡ suc (length front) = grind (arith, length-append {A = ℕ}) in
    ap (λ (n : ℕ). slice_index (b ∷ (front ++ carriage_return ∷ [])) n == carriage_return) place
    ∙ ap (λ (c : ℕ). c == carriage_return) (get_or-append_seam (b ∷ front) carriage_return [] 0)

pub in_order : (event : EventValue) → block_notes event ≡ flat_map (λ kind. notes_of kind event) kinds
unfolding block_notes
in_order event = by event.profile
  where
    each : (ks : List BlockNoteKind) → flat_map (λ kind. of_kind kind (udev_notes event)) ks ≡ flat_map (due_note event) ks
    each [] = refl
    each (k ∷ ks) = λ i. alone event k i ++ each ks i

    by : (profile : Profile) → notes_by profile event ≡ flat_map (λ kind. of_kind kind (notes_by profile event)) kinds
    by Manual = refl
    by Udev = sym (each kinds)

pub none_by_the_manual : (event : EventValue) → event.profile ≡ Manual → block_notes event ≡ []
unfolding block_notes
none_by_the_manual event manual = ap (λ profile. notes_by profile event) manual
