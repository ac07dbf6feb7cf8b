-- What one more line does to what the lines above say.
use Rattle.std.proofs.Common.{◌≡◌, Bool, true, false, List, [], ◌∷◌, ◌++◌, Option, Some, None, unwrap_or, map, refl, ap, ◌∙◌, if◌then◌else◌}
use Rattle.std.proofs.lemmas.List.{append-nil, map-append}
use Rattle.std.proofs.lemmas.List.Elements.{filter_map-append}
use Rattle.std.proofs.lemmas.List.Sums.{fold-append}
use Rattle.std.specs.Option.{option_and_then}
use Rattle.std.specs.List.{filter_map, cons_option}
use Rattle.text_bytes.specs.Texts.{first, is_empty, last}
use Rattle.text_bytes.specs.Text.{Text}
use Rattle.device_core.specs.Lines.{Row}
use Rattle.device_core.specs.Parts.{pair_of, number_of}
use Rattle.device_core.specs.Values.{DeviceValue, AnswerValue}
use Rattle.device_core.specs.Blocks.{is_kind, text_in, texts, pairs, numbers, answers, answers_after, before_device, change_last, groups, device, devices}
use Rattle.device_core.specs.Steps.{bare_device}
use Rattle.device_core.specs.declared.lines.DeviceField.TheVariants.{Subsystem, Driver, Node, Devnum, Attribute, Property, Stored, Tag, Link}
use Rattle.device_core.specs.declared.lines.LineKind.{LineKind}
use Rattle.device_core.specs.declared.lines.LineKind.TheVariants.{Device, Field}

-- one more, if there is one
abbrev pub added : {X : Type 0} → List X → Option X → List X
added xs None = xs
added xs (Some x) = xs ++ x ∷ []

-- the first of two
abbrev pub kept : {X : Type 0} → Option X → Option X → Option X
kept x None = x
kept None (Some y) = Some y
kept (Some x) (Some y) = Some x

added_is : {X : Type 0} (xs : List X) (o : Option X) → xs ++ cons_option o [] ≡ added xs o
added_is xs None = append-nil xs
added_is xs (Some x) = refl

filter_map_more : {X Y : Type 0} (h : X → Option Y) (xs : List X) (x : X) → filter_map h (xs ++ x ∷ []) ≡ added (filter_map h xs) (h x)
filter_map_more h xs x = filter_map-append h xs (x ∷ []) ∙ added_is (filter_map h xs) (h x)

through : {X Y : Type 0} (h : X → Option Y) (xs : List X) (o : Option X) → filter_map h (added xs o) ≡ added (filter_map h xs) (option_and_then h o)
through h xs None = refl
through h xs (Some x) = filter_map_more h xs x

module _ (rows : List Row) (row : Row) where
  pub texts_more : (kind : LineKind) → texts kind (rows ++ row ∷ []) ≡ added (texts kind rows) (text_in kind row)
  unfolding texts
  texts_more kind = filter_map_more (text_in kind) rows row

  pub pairs_more : (kind : LineKind) → pairs kind (rows ++ row ∷ []) ≡ added (pairs kind rows) (option_and_then pair_of (text_in kind row))
  unfolding pairs
  pairs_more kind = ap (filter_map pair_of) (texts_more kind) ∙ through pair_of (texts kind rows) (text_in kind row)

  pub numbers_more : numbers (rows ++ row ∷ []) ≡ added (numbers rows) (option_and_then number_of (text_in (Field Devnum) row))
  unfolding numbers
  numbers_more = ap (filter_map number_of) (texts_more (Field Devnum)) ∙ through number_of (texts (Field Devnum) rows) (text_in (Field Devnum) row)

  pub answers_more : answers (rows ++ row ∷ []) ≡ answers_after (answers rows) row.0 row.1
  unfolding answers
  answers_more = fold-append (λ (given : List AnswerValue) (r : Row). answers_after given r.0 r.1) [] rows (row ∷ [])

pub first_more : {X : Type 0} (xs : List X) (o : Option X) → first (added xs o) ≡ kept (first xs) o
first_more xs None = refl
first_more [] (Some y) = refl
first_more (x ∷ xs) (Some y) = refl

pub none_in : (kind : LineKind) (row : Row) → is_kind kind row ≡ false → text_in kind row ≡ None
none_in kind row h = rw h refl

-- a device with one more line about it
abbrev pub with_row : DeviceValue → Row → DeviceValue
with_row d row = record {
  path = d.path;
  subsystem = kept d.subsystem (text_in (Field Subsystem) row);
  driver = kept d.driver (text_in (Field Driver) row);
  node = kept d.node (text_in (Field Node) row);
  number = kept d.number (option_and_then number_of (text_in (Field Devnum) row));
  attrs = added d.attrs (option_and_then pair_of (text_in (Field Attribute) row));
  env = added d.env (option_and_then pair_of (text_in (Field Property) row));
  stored = added d.stored (option_and_then pair_of (text_in (Field Stored) row));
  tags = added d.tags (text_in (Field Tag) row);
  links = added d.links (text_in (Field Link) row);
}

once_more : (kind : LineKind) (rows : List Row) (row : Row) → first (texts kind (rows ++ row ∷ [])) ≡ kept (first (texts kind rows)) (text_in kind row)
once_more kind rows row = ap first (texts_more rows row kind) ∙ first_more (texts kind rows) (text_in kind row)

device_more : (group : List Row) (row : Row) → is_kind Device row ≡ false → device (group ++ row ∷ []) ≡ with_row (device group) row
unfolding device
device_more group row h = λ i. record {
  path = (ap (λ ts. unwrap_or (first ts) []) (texts_more group row Device ∙ ap (added (texts Device group)) (none_in Device row h))) i;
  subsystem = once_more (Field Subsystem) group row i;
  driver = once_more (Field Driver) group row i;
  node = once_more (Field Node) group row i;
  number = (ap first (numbers_more group row) ∙ first_more (numbers group) (option_and_then number_of (text_in (Field Devnum) row))) i;
  attrs = pairs_more group row (Field Attribute) i;
  env = pairs_more group row (Field Property) i;
  stored = pairs_more group row (Field Stored) i;
  tags = texts_more group row (Field Tag) i;
  links = texts_more group row (Field Link) i;
}

abbrev pub longer : Row → List Row → List Row
longer row group = group ++ row ∷ []

before_begins : (rows : List Row) (row : Row) → is_kind Device row ≡ true → before_device (rows ++ row ∷ []) ≡ before_device rows
unfolding before_device
before_begins [] row h = rw h refl
before_begins (r ∷ rows) row h = ap (λ b. if is_kind Device r then [] else r ∷ b) (before_begins rows row h)

begins_by : (t : Bool) (r row : Row) (b c : List Row) (gs hs : List (List Row)) → b ≡ c → gs ≡ hs ++ (row ∷ []) ∷ [] → (if t then (r ∷ b) ∷ gs else gs) ≡ (if t then (r ∷ c) ∷ hs else hs) ++ (row ∷ []) ∷ []
begins_by true r row b c gs hs e f = λ i. (r ∷ e i) ∷ f i
begins_by false r row b c gs hs e f = f

groups_begins : (rows : List Row) (row : Row) → is_kind Device row ≡ true → groups (rows ++ row ∷ []) ≡ groups rows ++ (row ∷ []) ∷ []
unfolding groups before_device
groups_begins [] row h = rw h refl
groups_begins (r ∷ rows) row h = begins_by (is_kind Device r) r row _ _ _ _ (before_begins rows row h) (groups_begins rows row h)

more_by : (t : Bool) (r row : Row) (b c : List Row) (gs : List (List Row)) (g : List Row) → b ≡ (if is_empty gs then c ++ row ∷ [] else c) → (if t then [] else r ∷ b) ≡ (if is_empty (if t then g ∷ gs else gs) then (if t then [] else r ∷ c) ++ row ∷ [] else (if t then [] else r ∷ c))
more_by true r row b c gs g e = refl
more_by false r row b c [] g e = ap (λ xs. r ∷ xs) e
more_by false r row b c (h ∷ gs) g e = ap (λ xs. r ∷ xs) e

before_more : (rows : List Row) (row : Row) → is_kind Device row ≡ false → before_device (rows ++ row ∷ []) ≡ (if is_empty (groups rows) then before_device rows ++ row ∷ [] else before_device rows)
unfolding groups before_device
before_more [] row h = rw h refl
before_more (r ∷ rows) row h = more_by (is_kind Device r) r row _ (before_device rows) (groups rows) (r ∷ before_device rows) (before_more rows row h)

groups_by : (t : Bool) (r row : Row) (b c : List Row) (gs hs : List (List Row)) → b ≡ (if is_empty gs then c ++ row ∷ [] else c) → hs ≡ change_last (longer row) gs → (if t then (r ∷ b) ∷ hs else hs) ≡ change_last (longer row) (if t then (r ∷ c) ∷ gs else gs)
groups_by false r row b c gs hs e f = f
groups_by true r row b c [] hs e f = λ i. (r ∷ e i) ∷ f i
groups_by true r row b c (g ∷ gs) hs e f = λ i. (r ∷ e i) ∷ f i

groups_more : (rows : List Row) (row : Row) → is_kind Device row ≡ false → groups (rows ++ row ∷ []) ≡ change_last (longer row) (groups rows)
unfolding groups before_device
groups_more [] row h = rw h refl
groups_more (r ∷ rows) row h = groups_by (is_kind Device r) r row _ (before_device rows) (groups rows) _ (before_more rows row h) (groups_more rows row h)

map_changed : (row : Row) → is_kind Device row ≡ false → (gs : List (List Row)) → map device (change_last (longer row) gs) ≡ change_last (λ d. with_row d row) (map device gs)
map_changed row h [] = refl
map_changed row h (g ∷ []) = ap (λ d. d ∷ []) (device_more g row h)
map_changed row h (g ∷ k ∷ gs) = ap (λ ds. device g ∷ ds) (map_changed row h (k ∷ gs))

-- a line that begins no device changes the last
pub devices_more : (rows : List Row) (row : Row) → is_kind Device row ≡ false → devices (rows ++ row ∷ []) ≡ change_last (λ d. with_row d row) (devices rows)
unfolding devices
devices_more rows row h = ap (map device) (groups_more rows row h) ∙ map_changed row h (groups rows)

bare_is : (path : Text) → device ((Device, path) ∷ []) ≡ bare_device path
unfolding device texts pairs numbers
bare_is path = refl

-- a line that begins a device adds one
pub devices_begins : (rows : List Row) (path : Text) → devices (rows ++ (Device, path) ∷ []) ≡ devices rows ++ bare_device path ∷ []
unfolding devices
devices_begins rows path = ap (map device) (groups_begins rows (Device, path) refl) ∙ map-append device (groups rows) (((Device, path) ∷ []) ∷ []) ∙ ap (λ d. map device (groups rows) ++ d ∷ []) (bare_is path)

pub change_end : {X : Type 0} (f : X → X) (xs : List X) (x : X) → change_last f (xs ++ x ∷ []) ≡ xs ++ f x ∷ []
change_end f [] x = refl
change_end f (y ∷ []) x = refl
change_end f (y ∷ z ∷ zs) x = ap (λ ys. y ∷ ys) (change_end f (z ∷ zs) x)

pub last_end : {X : Type 0} (xs : List X) (x : X) → last (xs ++ x ∷ []) ≡ Some x
last_end [] x = refl
last_end (y ∷ []) x = refl
last_end (y ∷ z ∷ zs) x = last_end (z ∷ zs) x

pub some_more : {X : Type 0} (xs : List X) (x : X) → is_empty (xs ++ x ∷ []) ≡ false
some_more [] x = refl
some_more (y ∷ ys) x = refl
