-- Which paths are the same.
use Rattle.std.proofs.Common.{◌≡◌, ℕ, ◌-◌, ◌≤◌, Bool, true, false, List, [], ◌∷◌, ◌++◌, arith, length, map, refl, take}
use Rattle.std.specs.Prelude.{if◌then◌else◌}
use Rattle.std.specs.List.{join_with_byte}
use Rattle.std.proofs.lemmas.List.{append_cancel_left, append_cancel_right, length-take}
use Rattle.text_bytes.specs.Names.{underscore}
use Rattle.text_bytes.specs.Texts.{ends_in}
use Rattle.text_bytes.specs.Underscores.{underscored}
use Rattle.text_tables.specs.Pairs.{Pair}
use Rattle.text_bytes.specs.Text.{Text}
use Rattle.device_core.specs.Values.{EventValue}
use Rattle.builtin_devices.specs.Outcomes.{failing, succeeding}
use Rattle.builtin_path.specs.Path.{is_whole, needs, path_id, properties_of, tag, tag_byte}
use Rattle.builtin_path.specs.Way.{members_of, stops_of}

-- a text after another one and the byte is reported by the whole
after_byte : (c : ℕ) (text : List ℕ) (rest others : List ℕ) → text ++ c ∷ rest ≡ text ++ c ∷ others → rest ≡ others
after_byte c text rest others h = append_cancel_left (c ∷ []) rest others (append_cancel_left text (c ∷ rest) (c ∷ others) h)

-- if all texts but one are the same, the whole is the same only if that one is
pub distinguished : (c : ℕ) (prefix back : List (List ℕ)) (part other : List ℕ)
    → join_with_byte c (prefix ++ part ∷ back) ≡ join_with_byte c (prefix ++ other ∷ back) → part ≡ other
distinguished c [] [] part other h = h
distinguished c [] (b ∷ back) part other h = append_cancel_right part other (c ∷ join_with_byte c (b ∷ back)) h
distinguished c (f ∷ []) back part other h =
    distinguished c [] back part other (after_byte c f (join_with_byte c (part ∷ back)) (join_with_byte c (other ∷ back)) h)
distinguished c (f ∷ g ∷ prefix) back part other h =
    distinguished c (g ∷ prefix) back part other
    (after_byte c f (join_with_byte c (g ∷ prefix ++ part ∷ back)) (join_with_byte c (g ∷ prefix ++ other ∷ back)) h)

-- what fails sets nothing
set_by : (is_path : Bool) (properties : List Pair) (missing : List Text)
    → (if is_path then succeeding properties missing else failing missing).is_done ≡ false
    → (if is_path then succeeding properties missing else failing missing).properties ≡ []
set_by true properties missing h = cc
set_by false properties missing h = refl

pub nothing_set : (event : EventValue) → (path_id event).is_done ≡ false → (path_id event).properties ≡ []
unfolding path_id
nothing_set event h = set_by (is_whole event (stops_of event)) (properties_of (stops_of event)) (needs (members_of event) (stops_of event)) h

-- a byte less at the end makes no text longer
no_longer : (ends : Bool) (text : Text) → length (if ends then take (length text - 1) text else text) ≤ length text
no_longer true text = omega (arith, length-take (length text - 1) text)
no_longer false text = omega arith

pub short : (text : Text) → length (tag text) ≤ 511
unfolding tag
short text =
    let cut = take 511 (underscored (map tag_byte text)) in
    omega (arith, no_longer (ends_in underscore cut) cut, length-take 511 (underscored (map tag_byte text)))
