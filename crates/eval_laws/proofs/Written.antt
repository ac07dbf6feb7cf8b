-- What udev makes of the words, names and paths in a text weighs no more than the text.
use Rattle.std.proofs.Common.{◌≡◌, ℕ, zero, suc, ◌+◌, ◌-◌, ◌≤◌, Bool, true, false, not, ◌==◌, ◌&&◌, List, [], ◌∷◌, ◌++◌, length, map, take, drop, Option, Some, None, if◌then◌else◌, option_map, position, subst, ap, arith, length-append, length-take-le}
use Rattle.std.proofs.lemmas.List.{length-map}
use Rattle.std.proofs.lemmas.List.Sums.{sum_by-cons, sum_by-append}
use Rattle.std.specs.Option.{option_and_then, option_or}
use Rattle.std.specs.List.{list_any, join_with_byte, slice_split, prefix_len}
use Rattle.text_bytes.specs.Names.{close_bracket, dot, open_bracket, slash}
use Rattle.text_bytes.specs.Texts.{begins_with, is_empty, skip_while, split_once}
use Rattle.text_bytes.specs.Text.{Text}
use Rattle.text_tables.specs.Texts.{same_text}
use Rattle.text_tables.specs.Pairs.{Pair, names}
use Rattle.device_core.specs.Values.{DeviceValue}
use Rattle.eval_state.specs.Named.{NamedValue, after_slash, named, named_after, named_by}
use Rattle.eval_state.specs.Files.{after_component, first_component, first_folder, folder_before, folder_between, is_folder, lies_at, star_place, starred, starred_at}
use Rattle.eval_assignments.specs.Attributes.{named_whole}
use Rattle.eval_assignments.specs.Links.{after_dev, below_dev, components, is_barred, is_between, is_step, listed, path_of, plain_link, plain_links, words}
use Rattle.eval_assignments.specs.Parameters.{exchanged, is_separator, parameter_name, with_slashes}
use Rattle.eval_laws.specs.DeviceWeights.{pair_weight, pairs_weight, text_weight, texts_weight}
use Rattle.eval_laws.proofs.Sums.{filter_light, split_light}

-- ---- links

pub words_light : (t : Text) → texts_weight (words t) ≤ length t + 1
words_light t =
    let a = filter_light text_weight (λ word. not (is_empty word)) (slice_split is_between t) in
    let b = split_light is_between t in
    omega (arith, a, b)

pub components_light : (path : Text) → texts_weight (components path) ≤ length path + 1
components_light path =
    let a = filter_light text_weight is_step (slice_split (λ b. b == slash) path) in
    let b = split_light (λ b. b == slash) path in
    omega (arith, a, b)

-- texts with a byte between each two
pub joined_light : (byte : ℕ) (text : Text) (texts : List Text) → length (join_with_byte byte (text ∷ texts)) + 1 ≡ texts_weight (text ∷ texts)
joined_light byte text [] = let a = sum_by-cons text_weight text [] in omega (arith, a)
joined_light byte text (next ∷ texts) =
    let a = sum_by-cons text_weight text (next ∷ texts) in
    let b = joined_light byte next texts in
    let c = length-append text (byte ∷ join_with_byte byte (next ∷ texts)) in
    omega (arith, a, b, c)

after_light : (parts : List Text) → texts_weight (after_dev parts) ≤ texts_weight parts
after_light [] = omega arith
after_light (part ∷ parts) = by (same_text part _)
  where
    by : (b : Bool) → texts_weight (if b then parts else []) ≤ texts_weight (part ∷ parts)
    by true = let a = sum_by-cons text_weight part parts in omega (arith, a)
    by false = omega arith

below_light : (path : Text) → texts_weight (below_dev path) ≤ length path + 1
below_light path = by (begins_with slash path)
  where
    by : (b : Bool) → texts_weight (if b then after_dev (components path) else components path) ≤ length path + 1
    by true = let a = after_light (components path) in let b = components_light path in omega (arith, a, b)
    by false = components_light path

path_light : (parts : List Text) → texts_weight (listed (path_of parts)) ≤ texts_weight parts
path_light [] = omega arith
path_light (part ∷ parts) =
    let a = joined_light slash part parts in
    let b = sum_by-cons text_weight (join_with_byte slash (part ∷ parts)) [] in
    omega (arith, a, b)

link_light : (path : Text) → texts_weight (listed (plain_link path)) ≤ length path + 1
link_light path = by (list_any is_barred (components path))
  where
    by : (b : Bool) → texts_weight (listed (if◌then◌else◌ {A = Option Text} b None (path_of (below_dev path)))) ≤ length path + 1
    by true = omega arith
    by false = let a = path_light (below_dev path) in let b = below_light path in omega (arith, a, b)

links_light : (paths : List Text) → texts_weight (plain_links paths) ≤ texts_weight paths
links_light [] = omega arith
links_light (path ∷ paths) =
    let a = sum_by-append text_weight (listed (plain_link path)) (plain_links paths) in
    let b = link_light path in
    let c = links_light paths in
    let d = sum_by-cons text_weight path paths in
    omega (arith, a, b, c, d)

-- the links in a text
pub plain_light : (t : Text) → texts_weight (plain_links (words t)) ≤ length t + 1
plain_light t = let a = links_light (words t) in let b = words_light t in omega (arith, a, b)

-- ---- names of parameters

slashes_same : (name : Text) → length (with_slashes name) ≡ length name
slashes_same name = by (begins_with dot (skip_while (λ b. not (is_separator b)) name))
  where
    by : (b : Bool) → length (if b then map exchanged name else name) ≡ length name
    by true = length-map name exchanged
    by false = omega arith

parts_light : (byte : ℕ) (parts : List Text) → length (join_with_byte byte parts) ≤ texts_weight parts
parts_light byte [] = omega arith
parts_light byte (part ∷ parts) = let a = joined_light byte part parts in omega (arith, a)

pub parameter_light : (name : Text) → length (parameter_name name) ≤ length name + 1
parameter_light name =
    let a = parts_light slash (components (with_slashes name)) in
    let b = components_light (with_slashes name) in
    let c = slashes_same name in
    omega (arith, a, b, c)

-- ---- names of attributes

take_light : (n : ℕ) (t : Text) → length (take n t) ≤ length t
take_light zero t = omega arith
take_light (suc n) [] = omega arith
take_light (suc n) (b ∷ t) = let a = take_light n t in omega (arith, a)

drop_light : (n : ℕ) (t : Text) → length (drop n t) ≤ length t
drop_light zero t = omega arith
drop_light (suc n) [] = omega arith
drop_light (suc n) (b ∷ t) = let a = drop_light n t in omega (arith, a)

cut_light : (place : ℕ) (name : Text) → length (take place name) + length (drop (place + 1) name) ≤ length name
cut_light zero [] = omega arith
cut_light zero (b ∷ name) = omega arith
cut_light (suc place) [] = let a = drop_light (suc place + 1) [] in omega (arith, a)
cut_light (suc place) (b ∷ name) =
    let a = cut_light place name in
    let one : suc place + 1 ≡ suc (place + 1) = omega arith in
    let c : length (drop (suc place + 1) (b ∷ name)) ≡ length (drop (place + 1) name) = ap (λ n. length (drop n (b ∷ name))) one in
    omega (arith, a, c)

component_light : (path : Text) → length (first_component path) ≤ length path
component_light path = take_light (prefix_len (λ b. not (b == slash)) path) path

with_light : (name : Text) (place : ℕ) (folder : Text) → length (take place name ++ folder ++ drop (place + 1) name) ≤ length name + length folder
with_light name place folder =
    let a = cut_light place name in
    let b = length-append (take place name ++ folder) (drop (place + 1) name) in
    let c = length-append (take place name) folder in
    omega (arith, a, b, c)

-- a name of at most so many bytes, if there is one
abbrev pub IsNoLonger : ℕ → Option Text → Type 0
IsNoLonger most None = Unit {0}
IsNoLonger most (Some found) = length found ≤ most

longer : (n m : ℕ) → n ≤ m → (found : Option Text) → IsNoLonger n found → IsNoLonger m found
longer n m up None h = tt
longer n m up (Some found) h = omega (arith, up, h)

before_light : (rest path : Text) → IsNoLonger (length path) (folder_before rest path)
before_light rest path = by (is_folder (first_component path) && lies_at rest (after_component path))
  where
    by : (b : Bool) → IsNoLonger (length path) (if◌then◌else◌ {A = Option Text} b (Some (first_component path)) None)
    by true = component_light path
    by false = tt

between_light : (beginning rest name : Text) → IsNoLonger (length name) (folder_between beginning rest name)
between_light beginning rest name = by (same_text (take (length beginning) name) beginning)
  where
    by : (b : Bool) → IsNoLonger (length name) (option_and_then (folder_before rest) (if◌then◌else◌ {A = Option Text} b (Some (drop (length beginning) name)) None))
    by true =
        longer (length (drop (length beginning) name)) (length name) (drop_light (length beginning) name) (folder_before rest (drop (length beginning) name))
        (before_light rest (drop (length beginning) name))
    by false = tt

either_light : (n m : ℕ) (a b : Option Text) → IsNoLonger n a → IsNoLonger m b → IsNoLonger (n + m) (option_or a b)
either_light n m None b h k = longer m (n + m) (omega arith) b k
either_light n m (Some found) b h k = omega (arith, h)

first_light : (beginning rest : Text) (others : List Text) → IsNoLonger (texts_weight others) (first_folder beginning rest others)
first_light beginning rest [] = tt
first_light beginning rest (name ∷ others) =
    let a = sum_by-cons text_weight name others in
    longer (length name + texts_weight others) (texts_weight (name ∷ others)) (omega (arith, a)) (first_folder beginning rest (name ∷ others))
    (either_light (length name) (texts_weight others) (folder_between beginning rest name) (first_folder beginning rest others) (between_light beginning rest name) (first_light beginning rest others))

put_light : (name : Text) (place most : ℕ) (folder : Option Text) → IsNoLonger most folder → IsNoLonger (length name + most) (option_map (λ found. take place name ++ found ++ drop (place + 1) name) folder)
put_light name place most None h = tt
put_light name place most (Some folder) h = let a = with_light name place folder in omega (arith, a, h)

names_light : (pairs : List Pair) → texts_weight (names pairs) ≤ pairs_weight pairs
names_light [] = omega arith
names_light (pair ∷ pairs) =
    let a = sum_by-cons text_weight pair.0 (names pairs) in
    let b = sum_by-cons pair_weight pair pairs in
    let c = names_light pairs in
    omega (arith, a, b, c)

starred_by : (found : Option ℕ) (device : DeviceValue) (name : Text) → IsNoLonger (length name + pairs_weight device.attrs) (starred_at found device name)
starred_by None device name = omega arith
starred_by (Some place) device name =
    let a = names_light device.attrs in
    let beginning : Text = take place name in
    let rest : Text = drop (place + 1) name in
    longer (length name + texts_weight (names device.attrs)) (length name + pairs_weight device.attrs) (omega (arith, a)) (starred_at (Some place) device name)
    (put_light name place (texts_weight (names device.attrs)) (first_folder beginning rest (names device.attrs)) (first_light beginning rest (names device.attrs)))

-- a name with its `*` filled in by the names of a device
pub starred_light : (device : DeviceValue) (name : Text) → IsNoLonger (length name + pairs_weight device.attrs) (starred device name)
starred_light device name = starred_by (star_place name) device name

-- the attributes of a device, if there is one
abbrev pub attrs_of : Option DeviceValue → List Pair
attrs_of None = []
attrs_of (Some device) = device.attrs

-- an attribute that is found for a device, with what comes before it in its name
pub whole_light : (is : NamedValue) (name : Text) → length is.attribute ≤ length name → (of : Option DeviceValue)
    → IsNoLonger (length name + pairs_weight (attrs_of of)) (option_map (named_whole is name) (option_and_then (λ device. starred device is.attribute) of))
whole_light is name shorter None = tt
whole_light is name shorter (Some device) = by (starred device is.attribute) (starred_light device is.attribute)
  where
    by : (found : Option Text) → IsNoLonger (length is.attribute + pairs_weight device.attrs) found → IsNoLonger (length name + pairs_weight device.attrs) (option_map (named_whole is name) found)
    by None h = tt
    by (Some found) h =
        let a = length-append (take (length name - length is.attribute) name) found in
        let b = length-take-le (length name - length is.attribute) name (omega arith) in
        omega (arith, a, b, h, shorter)

-- what follows a cut is no longer than this, if there is a cut
abbrev IsCutWithin : ℕ → Option (Text × Text) → Type 0
IsCutWithin most None = Unit {0}
IsCutWithin most (Some cut) = length cut.1 ≤ most

-- the attribute of a device that is named is no longer than this
abbrev IsNamedWithin : ℕ → Option NamedValue → Type 0
IsNamedWithin most None = Unit {0}
IsNamedWithin most (Some is) = length is.attribute ≤ most

split_short : (byte : ℕ) (text : Text) → IsCutWithin (length text) (split_once byte text)
unfolding split_once
split_short byte text = by (position (λ b. b == byte) text)
  where
    by : (place : Option ℕ) → IsCutWithin (length text) (option_map (λ n. (take n text, drop (n + 1) text)) place)
    by None = tt
    by (Some n) = drop_light (n + 1) text

after_short : (text : Text) → length (after_slash text) ≤ length text
after_short text = by (begins_with slash text)
  where
    by : (b : Bool) → length (if b then drop 1 text else text) ≤ length text
    by true = drop_light 1 text
    by false = omega arith

by_short : (most : ℕ) (subsystem : Text) (cut : Option (Text × Text)) → IsCutWithin most cut → IsNamedWithin most (named_by subsystem cut)
by_short most subsystem None h = tt
by_short most subsystem (Some cut) h = let a = after_short cut.1 in omega (arith, a, h)

within_named : (n m : ℕ) → n ≤ m → (is : Option NamedValue) → IsNamedWithin n is → IsNamedWithin m is
within_named n m up None h = tt
within_named n m up (Some is) h = omega (arith, up, h)

named_after_short : (most : ℕ) (cut : Option (Text × Text)) → IsCutWithin most cut → IsNamedWithin most (named_after cut)
named_after_short most None h = tt
named_after_short most (Some cut) h =
    within_named (length cut.1) most h (named_by cut.0 (split_once close_bracket cut.1)) (by_short (length cut.1) cut.0 (split_once close_bracket cut.1) (split_short close_bracket cut.1))

named_short : (name : Text) → IsNamedWithin (length name) (named name)
unfolding named
named_short [] = tt
named_short (b ∷ text) = by (begins_with open_bracket (b ∷ text))
  where
    by : (is : Bool) → IsNamedWithin (length (b ∷ text)) (if is then named_after (split_once slash text) else None)
    by true = within_named (length text) (length (b ∷ text)) (omega arith) (named_after (split_once slash text)) (named_after_short (length text) (split_once slash text) (split_short slash text))
    by false = tt

-- the attribute of a device that is named is in the name
pub named_shorter : (name : Text) (is : NamedValue) → named name ≡ Some is → length is.attribute ≤ length name
named_shorter name is e = subst (IsNamedWithin (length name)) e (named_short name)
