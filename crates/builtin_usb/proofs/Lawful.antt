-- Why the laws hold.
use Rattle.std.proofs.Common.{◌≡◌, ◌≢◌, ◌≤◌, ◌==◌, ◌&&◌, ◌||◌, ℕ, suc, not, cond, nat_lt, Bool, true, false, List, [], ◌∷◌, ◌++◌, Option, None, Some}
use Rattle.std.proofs.Common.{codes, filter, flat_map, fold, length, map, nat_eq, slice_index, refl, ap, sym, ◌∙◌, append_assoc, arith}
use Rattle.std.proofs.Math.Seq.{get_or-append_seam}
use Rattle.std.proofs.lemmas.Bool.Decides.{nat_tests}
use Rattle.std.proofs.lemmas.List.{length-append, length-take}
use Rattle.std.proofs.lemmas.List.Elements.{filter-append}
use Rattle.std.specs.List.{cons_option, filter_map, list_all, list_any, starts_with}
use Rattle.std.specs.Option.{option_map}
use Rattle.text_bytes.specs.Names.{colon}
use Rattle.text_bytes.specs.Texts.{begins_with, ends_in}
use Rattle.text_bytes.specs.Text.{Text}
use Rattle.text_tables.specs.Pairs.{Pair}
use Rattle.device_core.specs.Values.{DeviceValue, EventValue}
use Rattle.builtin_devices.specs.Outcomes.{OutcomeValue, needs_of}
use Rattle.builtin_usb.specs.Interfaces.{descriptors_of, interface_of, interfaces, joined, packed, same_interface, with_interface, written}
use Rattle.builtin_usb.specs.declared.interfaces.Interface.{Interface}
use Rattle.builtin_usb.specs.Identities.{IdentityValue, KnownValue, all_texts, full_serial, named, rows}
use Rattle.builtin_usb.specs.Needs.{interface_words, type_words}
use Rattle.builtin_usb.specs.UsbId.{bus_properties, descriptors_words, interfaces_text, known, outcome, own_rows, properties, usb_id, usb_id_by}
use Rattle.builtin_usb.specs.Subjects.{FoundValue, device_of, interface_of as interface_above, unit_of}
use Rattle.builtin_usb.specs.Units.{unit_texts, unit_words}
use Rattle.builtin_usb.specs.Laws.{BusDoesNotMatter, IsBetweenColons, ReportedTwice, as_usb, is_usb}

pub short : (i : IdentityValue) → length (full_serial i) ≤ 255
unfolding full_serial
short i = omega (arith, length-take 255 (all_texts i))

few_by : (found : List Interface) (i : Interface) (b : Bool) → length found ≤ 72
    → length (cond (nat_lt (length found) 72 && not b) (found ++ i ∷ []) found) ≤ 72
few_by found i b few = grind (arith, nat_tests, length-append {A = Interface})

few_more : (more found : List Interface) → length found ≤ 72 → length (fold with_interface found more) ≤ 72
few_more [] found few = few
few_more (i ∷ more) found few = few_more more (with_interface found i) (few_by found i (list_any (same_interface i) found) few)

pub few_reported : (file : List ℕ) → length (interfaces file) ≤ 72
few_reported file = few_more (filter_map interface_of (descriptors_of file).from) [] (omega arith)

-- a text ends in a colon that follows it
ends_so : (xs : List ℕ) → ends_in colon (xs ++ colon ∷ []) ≡ true
ends_so [] = refl
ends_so (x ∷ xs) =
    let place : length (xs ++ colon ∷ []) ≡ suc (length xs) = grind (arith, length-append {A = ℕ}) in
    ap (λ (n : ℕ). slice_index (x ∷ (xs ++ colon ∷ [])) n == colon) place ∙ ap (λ (b : ℕ). b == colon) (get_or-append_seam (x ∷ xs) colon [] 0)

-- interfaces in one text, by colons
in_colons : (found : List Interface) (is_closed : Bool) → joined found is_closed ≢ [] → is_closed ≡ true
    → (begins_with colon (joined found is_closed) ≡ true) × (ends_in colon (joined found is_closed) ≡ true)
in_colons [] is_closed some closed = absurd (some refl)
in_colons (i ∷ found) true some closed = (refl, ends_so (flat_map written (i ∷ found)))
in_colons (i ∷ found) false some closed = (cc, cc)

-- the same for a file that is long enough, and for one that is not
within : (is_short : Bool) (found : List Interface) (is_closed : Bool) → (cond is_short [] (joined found is_closed)) ≢ [] → is_closed ≡ true
    → (begins_with colon (cond is_short [] (joined found is_closed)) ≡ true) × (ends_in colon (cond is_short [] (joined found is_closed)) ≡ true)
within true found is_closed some closed = absurd (some refl)
within false found is_closed some closed = in_colons found is_closed some closed

pub is_between_colons : (file : List ℕ) → IsBetweenColons file
unfolding packed
is_between_colons file = within (nat_lt (length file) 18) (interfaces file) (descriptors_of file).is_closed

-- the same properties after both prefixes, by rows
twice_row : (name : Text) (value : Option Text) (usb own : List Pair) → usb ≡ map as_usb own
    → cons_option (option_map (λ v. (codes "ID_USB_" ++ name, v)) value) usb
    ≡ map as_usb (cons_option (option_map (λ v. (codes "ID_" ++ name, v)) value) own)
twice_row name None usb own e = e
twice_row name (Some v) usb own e = ap (λ (l : List Pair). (codes "ID_USB_" ++ name, v) ∷ l) e

twice : (pairs : List (Text × Option Text)) → named (codes "ID_USB_") pairs ≡ map as_usb (named (codes "ID_") pairs)
twice [] = refl
twice (row ∷ pairs) = twice_row row.0 row.1 (named (codes "ID_USB_") pairs) (named (codes "ID_") pairs) (twice pairs)

pub reported_twice : (i : IdentityValue) → ReportedTwice i
reported_twice i = twice (rows i)

-- a name that after ID_ does not begin with ID_USB_
abbrev other_name : Text × Option Text → Bool
other_name row = not (starts_with nat_eq (codes "ID_" ++ row.0) (codes "ID_USB_"))

both : (a b : Bool) → (a && b) ≡ true → (a ≡ true) × (b ≡ true)
both true b h = (refl, h)
both false b h = (cc, cc)

passed : (b : Bool) (x : Pair) (xs : List Pair) → not b ≡ true → xs ≡ [] → cond b (x ∷ xs) xs ≡ []
passed false x xs h e = e
passed true x xs h e = cc

none_row : (name : Text) (value : Option Text) (own : List Pair)
    → not (starts_with nat_eq (codes "ID_" ++ name) (codes "ID_USB_")) ≡ true → filter is_usb own ≡ []
    → filter is_usb (cons_option (option_map (λ v. (codes "ID_" ++ name, v)) value) own) ≡ []
none_row name None own other e = e
none_row name (Some v) own other e = passed (starts_with nat_eq (codes "ID_" ++ name) (codes "ID_USB_")) (codes "ID_" ++ name, v) (filter is_usb own) other e

-- rows with other names give nothing after ID_USB_
none_usb : (pairs : List (Text × Option Text)) → list_all other_name pairs ≡ true → filter is_usb (named (codes "ID_") pairs) ≡ []
none_usb [] h = refl
none_usb (row ∷ pairs) h =
    let parts = both (other_name row) (list_all other_name pairs) h in
    none_row row.0 row.1 (named (codes "ID_") pairs) parts.0 (none_usb pairs parts.1)

bus_apart : (i : IdentityValue) → filter is_usb (bus_properties i) ≡ []
unfolding rows
bus_apart i = none_usb (rows i) refl

same_properties : (interface : Option DeviceValue) (interfaces : Text) (i : IdentityValue)
    → filter is_usb (properties interface interfaces i true) ≡ filter is_usb (properties interface interfaces i false)
unfolding properties
same_properties interface interfaces i =
    let bus : List Pair = bus_properties i in
    let own : List Pair = named (codes "ID_USB_") (rows i) in
    let more : List Pair = named (codes "ID_USB_") (own_rows interface interfaces) in
    sym (ap (filter is_usb) (append_assoc bus own more)
    ∙ filter-append is_usb bus (own ++ more)
    ∙ ap (λ (l : List Pair). l ++ filter is_usb (own ++ more)) (bus_apart i))

-- what two outcomes have in common that differ in the bus alone
record Alike (a b : OutcomeValue) : Type 0 where
  success : a.is_done ≡ b.is_done
  properties : filter is_usb a.properties ≡ filter is_usb b.properties
  needs : a.needs ≡ b.needs

alike : (interface : Option DeviceValue) (interfaces : Text) (needs : List Text) (known : Option IdentityValue)
    → Alike (outcome interface interfaces needs known true) (outcome interface interfaces needs known false)
alike interface interfaces needs None = record { success = refl; properties = refl; needs = refl }
alike interface interfaces needs (Some i) = record { success = refl; properties = same_properties interface interfaces i; needs = refl }

alike_by : (event : EventValue) (interface device unit : Option DeviceValue) (is_unsure : Bool)
    → Alike (usb_id_by event interface device unit is_unsure true) (usb_id_by event interface device unit is_unsure false)
unfolding usb_id_by
alike_by event interface device unit is_unsure =
    let all : KnownValue = known interface device (unit_texts unit) in
    alike interface (interfaces_text event device)
    (needs_of ((type_words event is_unsure ++ interface_words interface ++ unit_words unit ++ descriptors_words event device) ++ all.needs)) all.identity

pub bus_apart_from : (event : EventValue) → BusDoesNotMatter event
unfolding usb_id
bus_apart_from event =
    let interface : FoundValue = interface_above event in
    let device : FoundValue = device_of event interface.device in
    let unit : FoundValue = unit_of event interface.device device.device in
    let same = alike_by event interface.device device.device unit.device (interface.is_unsure || device.is_unsure || unit.is_unsure) in
    record { success = same.success; properties = same.properties; needs = same.needs }
