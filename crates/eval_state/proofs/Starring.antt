-- What a name with a folder `*` stands for exists.
use Rattle.std.proofs.Common.{◌≡◌, ℕ, ◌+◌, Bool, true, false, not, ◌==◌, ◌||◌, ◌&&◌, List, [], ◌∷◌, ◌++◌, length, take, drop, Option, Some, None, option_map, cond, refl, ap, sym, ◌∙◌, true≢false}
use Rattle.std.proofs.Math.Bool.{or-true}
use Rattle.std.proofs.Math.Seq.{drop-append_seam, take-append_seam}
use Rattle.std.proofs.lemmas.List.{append_assoc, take-append-drop}
use Rattle.std.proofs.lemmas.Option.{none-some, same_Some}
use Rattle.std.specs.Cmp.Lexicographic.{bytes_decides}
use Rattle.std.specs.List.{list_any, prefix_len}
use Rattle.std.specs.Option.{option_and_then, option_or}
use Rattle.text_bytes.specs.Names.{slash}
use Rattle.text_bytes.specs.Texts.{following, is_empty}
use Rattle.text_bytes.specs.Text.{Text}
use Rattle.text_tables.specs.Texts.{same_text}
use Rattle.text_tables.specs.Pairs.{names}
use Rattle.device_core.specs.Values.{DeviceValue}
use Rattle.eval_state.specs.Files.{after_component, first_component, first_folder, folder_before, folder_between, has_name, is_end, is_folder, lies_at, star_place, starred, starred_at}

-- a text that has another in front is the two together
after_is : (prefix text rest : Text) → following prefix text ≡ Some rest → text ≡ prefix ++ rest
after_is prefix text rest = by (same_text (take (length prefix) text) prefix) refl
  where
    by : (b : Bool) → same_text (take (length prefix) text) prefix ≡ b → cond b (Some (drop (length prefix) text)) None ≡ Some rest → text ≡ prefix ++ rest
    by true h e =
        sym (take-append-drop (length prefix) text) ∙ ap (λ t. t ++ drop (length prefix) text) ((bytes_decides _ _).0 h) ∙ ap (λ t. prefix ++ t) (same_Some _ _ e)
    by false h e = absurd (none-some rest e)

-- two texts together have the first in front
pub after_two : (prefix rest : Text) → following prefix (prefix ++ rest) ≡ Some rest
after_two prefix rest =
    ap (λ b. cond b (Some (drop (length prefix) (prefix ++ rest))) None) ((bytes_decides _ _).1 (take-append_seam prefix rest))
    ∙ ap (λ t. Some t) (drop-append_seam prefix rest)

-- a path that is after a folder is after it with more in front
lies_after : (prefix text rest : Text) → lies_at rest text ≡ true → lies_at (prefix ++ rest) (prefix ++ text) ≡ true
lies_after prefix text rest h = by (following rest text) refl h
  where
    by : (e : Option Text) → following rest text ≡ e → is_end e ≡ true → lies_at (prefix ++ rest) (prefix ++ text) ≡ true
    by None is e = absurd (true≢false (sym e))
    by (Some end) is e =
        ap (λ t. is_end (following (prefix ++ rest) t)) (ap (λ t. prefix ++ t) (after_is rest text end is) ∙ sym (append_assoc prefix rest end))
        ∙ ap is_end (after_two (prefix ++ rest) end) ∙ e

-- a path begins with its first component
component_in : (path : Text) → first_component path ++ after_component path ≡ path
component_in path = take-append-drop (prefix_len (λ b. not (b == slash)) path) path

-- a folder that comes before a path in another one
before_is : (rest path folder : Text) → folder_before rest path ≡ Some folder → lies_at (folder ++ rest) path ≡ true
before_is rest path folder = by (is_folder (first_component path)) (lies_at rest (after_component path)) refl
  where
    by : (a b : Bool) → lies_at rest (after_component path) ≡ b → cond (a && b) (Some (first_component path)) None ≡ Some folder → lies_at (folder ++ rest) path ≡ true
    by true true h e =
        ap (λ f. lies_at (f ++ rest) path) (sym (same_Some _ _ e))
        ∙ ap (λ p. lies_at (first_component path ++ rest) p) (sym (component_in path))
        ∙ lies_after (first_component path) (after_component path) rest h
    by true false h e = absurd (none-some folder e)
    by false b h e = absurd (none-some folder e)

-- a folder that is between two texts in a name
between_is : (prefix rest name folder : Text) → folder_between prefix rest name ≡ Some folder → lies_at (prefix ++ folder ++ rest) name ≡ true
between_is prefix rest name folder = by (following prefix name) refl
  where
    by : (p : Option Text) → following prefix name ≡ p → option_and_then (folder_before rest) p ≡ Some folder → lies_at (prefix ++ folder ++ rest) name ≡ true
    by None is e = absurd (none-some folder e)
    by (Some path) is e =
        ap (λ t. lies_at t name) (append_assoc prefix folder rest)
        ∙ ap (λ t. lies_at (prefix ++ (folder ++ rest)) t) (after_is prefix name path is)
        ∙ lies_after prefix path (folder ++ rest) (before_is rest path folder e)

-- the folder of the first name that has one
first_is : (prefix rest : Text) (others : List Text) (folder : Text) → first_folder prefix rest others ≡ Some folder → list_any (lies_at (prefix ++ folder ++ rest)) others ≡ true
first_is prefix rest [] folder = λ e. absurd (none-some folder e)
first_is prefix rest (name ∷ others) folder = by (first_is prefix rest others folder) (folder_between prefix rest name) refl
  where
    there : Text → Bool
    there other = lies_at (prefix ++ folder ++ rest) other

    by : (first_folder prefix rest others ≡ Some folder → list_any there others ≡ true) → (f : Option Text) → folder_between prefix rest name ≡ f
        → option_or f (first_folder prefix rest others) ≡ Some folder → (there name || list_any there others) ≡ true
    by further (Some other) is e = ap (λ b. b || list_any there others) (between_is prefix rest name folder (is ∙ e))
    by further None is e = ap (λ b. there name || b) (further e) ∙ or-true (there name)

-- a name with a folder in place of a `*` is there
pub starred_is_there : (device : DeviceValue) (name found : Text) (place : ℕ) → star_place name ≡ Some place → starred device name ≡ Some found → has_name device found ≡ true
starred_is_there device name found place star e = by (first_folder prefix rest (names device.attrs)) refl (sym (ap (λ p. starred_at p device name) star) ∙ e)
  where
    prefix : Text
    prefix = take place name

    rest : Text
    rest = drop (place + 1) name

    by : (f : Option Text) → first_folder prefix rest (names device.attrs) ≡ f → option_map (λ folder. prefix ++ folder ++ rest) f ≡ Some found → has_name device found ≡ true
    by None is given = absurd (none-some found given)
    by (Some folder) is given =
        ap (has_name device) (sym (same_Some _ _ given))
        ∙ ap (λ b. is_empty (prefix ++ folder ++ rest) || b) (first_is prefix rest (names device.attrs) folder is) ∙ or-true (is_empty (prefix ++ folder ++ rest))
