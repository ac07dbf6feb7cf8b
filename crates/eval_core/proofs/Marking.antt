-- What is among the marks of an event.
use Rattle.std.proofs.Common.{◌≡◌, ℕ, zero, suc, ◌+◌, ◌*◌, ◌%◌, ◌<◌, ◌==◌, Bool, true, false, cond, not, List, [], ◌∷◌, length, fold, slice_get, Some, refl, ap, sym, subst, ◌∙◌, arith, true≢false, length-set}
use Rattle.std.specs.Cmp.Lexicographic.{bytes_decides}
use Rattle.std.proofs.lemmas.Bool.{eqb-true}
use Rattle.std.proofs.lemmas.List.{get_or-set_same, length-replicate}
use Rattle.std.proofs.lemmas.Nat.{mod_below}
use Rattle.std.proofs.lemmas.Option.{same_Some, slice_get-get_or}
use Rattle.text_bytes.specs.Text.{Text}
use Rattle.text_tables.specs.Texts.{same_text}
use Rattle.text_tables.specs.Pairs.{Pair, value_of}
use Rattle.eval_core.specs.Sketches.{sketch}
use Rattle.device_core.specs.Values.{DeviceValue, EventValue, chain}
use Rattle.eval_state.specs.Texts.{or_empty}
use Rattle.text_bytes.specs.Texts.{trimmed}
use Rattle.eval_core.specs.Marks.{attribute_mark, driver, is_lacking, mark, mark_count, marks, none_set, subsystem, with_attribute, with_device, with_mark}

-- a mark is set
abbrev pub Has : List Bool → ℕ → Type 0
Has found place = slice_get found place ≡ Some true

-- all marks are there, set or not
abbrev pub IsWhole : List Bool → Type 0
IsWhole found = length found ≡ mark_count

-- ---- one mark

below : (thing value : ℕ) → mark thing value < mark_count
unfolding mark
below thing value = mod_below ((thing % mark_count) * 31 + value % mark_count) mark_count (omega arith)

kept : (found : List Bool) (place other : ℕ) → Has found place → Has (with_mark found other) place
kept [] place other h = h
kept (b ∷ found) zero zero h = refl
kept (b ∷ found) zero (suc other) h = h
kept (b ∷ found) (suc place) zero h = h
kept (b ∷ found) (suc place) (suc other) h = kept found place other h

added : (found : List Bool) (place : ℕ) → IsWhole found → place < mark_count → Has (with_mark found place) place
added found place whole within =
    let here : place < length found = subst (λ n. place < n) (sym whole) within in
    slice_get-get_or (with_mark found place) place false (subst (λ n. place < n) (sym (length-set found place true)) here)
    ∙ ap Some (get_or-set_same found place true false here)

whole_with : (found : List Bool) (place : ℕ) → IsWhole found → IsWhole (with_mark found place)
whole_with found place h = length-set found place true ∙ h

-- ---- attributes

kept_attributes : (attributes : List Pair) (found : List Bool) (place : ℕ) → Has found place → Has (fold with_attribute found attributes) place
kept_attributes [] found place h = h
kept_attributes (p ∷ ps) found place h = kept_attributes ps (with_attribute found p) place (kept found place (attribute_mark p) h)

whole_attributes : (attributes : List Pair) (found : List Bool) → IsWhole found → IsWhole (fold with_attribute found attributes)
whole_attributes [] found h = h
whole_attributes (p ∷ ps) found h = whole_attributes ps (with_attribute found p) (whole_with found (attribute_mark p) h)

attribute_among : (attributes : List Pair) (found : List Bool) (name value : Text) → IsWhole found → value_of attributes name ≡ Some value → Has (fold with_attribute found attributes) (mark (sketch name) (sketch (trimmed value)))
attribute_among [] found name value whole h = cc h
attribute_among (p ∷ ps) found name value whole h = by (same_text name p.0) refl (attribute_among ps (with_attribute found p) name value (whole_with found (attribute_mark p) whole)) h
  where
    by : (b : Bool) → same_text name p.0 ≡ b → (value_of ps name ≡ Some value → Has (fold with_attribute (with_attribute found p) ps) (mark (sketch name) (sketch (trimmed value))))
        → cond b (Some p.1) (value_of ps name) ≡ Some value → Has (fold with_attribute (with_attribute found p) ps) (mark (sketch name) (sketch (trimmed value)))
    by true is rest k =
        let named : name ≡ p.0 = (bytes_decides name p.0).0 is in
        let valued : p.1 ≡ value = same_Some p.1 value k in
        let here : attribute_mark p ≡ mark (sketch name) (sketch (trimmed value)) =
        ap (λ n. mark (sketch n) (sketch (trimmed p.1))) (sym named) ∙ ap (λ v. mark (sketch name) (sketch (trimmed v))) valued in
        subst (Has (fold with_attribute (with_attribute found p) ps)) here
        (kept_attributes ps (with_attribute found p) (attribute_mark p) (added found (attribute_mark p) whole (below (sketch p.0) (sketch (trimmed p.1)))))
    by false is rest k = rest k

-- ---- devices

-- the mark of a device's subsystem
abbrev subsystem_mark : DeviceValue → ℕ
subsystem_mark d = mark subsystem (sketch (or_empty d.subsystem))

-- the mark of its driver
abbrev driver_mark : DeviceValue → ℕ
driver_mark d = mark driver (sketch (or_empty d.driver))

kept_device : (d : DeviceValue) (found : List Bool) (place : ℕ) → Has found place → Has (with_device found d) place
kept_device d found place h =
    kept_attributes d.attrs (with_mark (with_mark found (subsystem_mark d)) (driver_mark d)) place
    (kept (with_mark found (subsystem_mark d)) place (driver_mark d) (kept found place (subsystem_mark d) h))

whole_first : (d : DeviceValue) (found : List Bool) → IsWhole found → IsWhole (with_mark (with_mark found (subsystem_mark d)) (driver_mark d))
whole_first d found h = whole_with (with_mark found (subsystem_mark d)) (driver_mark d) (whole_with found (subsystem_mark d) h)

whole_device : (d : DeviceValue) (found : List Bool) → IsWhole found → IsWhole (with_device found d)
whole_device d found h = whole_attributes d.attrs (with_mark (with_mark found (subsystem_mark d)) (driver_mark d)) (whole_first d found h)

-- what a device has is marked
pub marks_subsystem : (d : DeviceValue) (found : List Bool) → IsWhole found → Has (with_device found d) (mark subsystem (sketch (or_empty d.subsystem)))
marks_subsystem d found h =
    kept_attributes d.attrs (with_mark (with_mark found (subsystem_mark d)) (driver_mark d)) (subsystem_mark d)
    (kept (with_mark found (subsystem_mark d)) (subsystem_mark d) (driver_mark d) (added found (subsystem_mark d) h (below subsystem (sketch (or_empty d.subsystem)))))

pub marks_driver : (d : DeviceValue) (found : List Bool) → IsWhole found → Has (with_device found d) (mark driver (sketch (or_empty d.driver)))
marks_driver d found h =
    kept_attributes d.attrs (with_mark (with_mark found (subsystem_mark d)) (driver_mark d)) (driver_mark d)
    (added (with_mark found (subsystem_mark d)) (driver_mark d) (whole_with found (subsystem_mark d) h) (below driver (sketch (or_empty d.driver))))

pub marks_attribute : (d : DeviceValue) (name value : Text) → value_of d.attrs name ≡ Some value → (found : List Bool) → IsWhole found → Has (with_device found d) (mark (sketch name) (sketch (trimmed value)))
marks_attribute d name value e found h = attribute_among d.attrs (with_mark (with_mark found (subsystem_mark d)) (driver_mark d)) name value (whole_first d found h) e

-- ---- the chain

kept_devices : (ds : List DeviceValue) (found : List Bool) (place : ℕ) → Has found place → Has (fold with_device found ds) place
kept_devices [] found place h = h
kept_devices (d ∷ ds) found place h = kept_devices ds (with_device found d) place (kept_device d found place h)

in_chain : (ds : List DeviceValue) (found : List Bool) (m place : ℕ) (d : DeviceValue) → IsWhole found → slice_get ds place ≡ Some d → ((f : List Bool) → IsWhole f → Has (with_device f d) m) → Has (fold with_device found ds) m
in_chain [] found m place d whole e has = cc e
in_chain (x ∷ ds) found m zero d whole e has = kept_devices ds (with_device found x) m (subst (λ y. Has (with_device found y) m) (sym (same_Some x d e)) (has found whole))
in_chain (x ∷ ds) found m (suc place) d whole e has = in_chain ds (with_device found x) m place d (whole_device x found whole) e has

-- what a device of the chain has is marked
pub marked : (event : EventValue) (m place : ℕ) (d : DeviceValue) → slice_get (chain event) place ≡ Some d → ((f : List Bool) → IsWhole f → Has (with_device f d) m) → Has (marks event) m
marked event m place d e has = in_chain (chain event) none_set m place d (length-replicate mark_count false) e has

-- if one mark is set and another is not, they are of other values
pub other_value : (found : List Bool) (thing value wanted : ℕ) → Has found (mark thing value) → is_lacking (slice_get found (mark thing wanted)) ≡ true → not (value == wanted) ≡ true
other_value found thing value wanted has lacks = by (value == wanted) refl
  where
    by : (b : Bool) → (value == wanted) ≡ b → not b ≡ true
    by false e = refl
    by true e =
        let same : value ≡ wanted = eqb-true value wanted e in
        absurd (true≢false (sym lacks ∙ ap (λ v. is_lacking (slice_get found (mark thing v))) (sym same) ∙ ap is_lacking has))
