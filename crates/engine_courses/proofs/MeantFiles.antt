-- A file that may be meant is one of those that were read.
use Rattle.std.proofs.Common.{◌≡◌, ◌||◌, Bool, true, false, cond, List, [], ◌∷◌, length, map, nat_lt, Option, Some, None, IfSome, option_and_then, refl, ap, ◌∙◌}
use Rattle.std.specs.Cmp.Lexicographic.{bytes_decides}
use Rattle.std.specs.List.{find, list_any}
use Rattle.std.specs.Option.{option_or}
use Rattle.text_bytes.specs.Kernels.{last_component}
use Rattle.text_bytes.specs.Text.{Text}
use Rattle.text_tables.specs.Texts.{same_text}
use Rattle.engine_formats.specs.Near as near
use Rattle.engine_courses.specs.Meant.{file_name, meant_file, place_called, place_near}
use Rattle.engine_courses.specs.Named.{file_in}
use Rattle.engine_courses.specs.Nearest.{Place}

-- whether one of these places is in the file of another one
abbrev is_read : List Place → Place → Bool
is_read places meant = list_any (λ place. same_text place.0 meant.0) places

or_right : (a b : Bool) → b ≡ true → (a || b) ≡ true
or_right true b h = refl
or_right false b h = h

one_more : (place : Place) (places : List Place) (found : Option Place) → IfSome found (λ p. is_read places p ≡ true) → IfSome found (λ p. is_read (place ∷ places) p ≡ true)
one_more place places None h = tt
one_more place places (Some p) h = or_right (same_text place.0 p.0) (is_read places p) h

-- what is found among places is one of them
found_is_read : (test : Place → Bool) (places : List Place) → IfSome (find test places) (λ p. is_read places p ≡ true)
found_is_read test [] = tt
found_is_read test (place ∷ places) = by (test place) (found_is_read test places)
  where
    by : (b : Bool) → IfSome (find test places) (λ p. is_read places p ≡ true) → IfSome (cond b (Some place) (find test places)) (λ p. is_read (place ∷ places) p ≡ true)
    by true rest = ap (λ b. b || is_read places place) ((bytes_decides place.0 place.0).1 refl)
    by false rest = one_more place places (find test places) rest

near_is_read : (places : List Place) (near : Option Text) → IfSome (option_and_then (place_called places) near) (λ p. is_read places p ≡ true)
near_is_read places None = tt
near_is_read places (Some name) = found_is_read (λ place. same_text (file_name place) name) places

either_is_read : (places : List Place) (a b : Option Place) → IfSome a (λ p. is_read places p ≡ true) → IfSome b (λ p. is_read places p ≡ true)
    → IfSome (option_or a b) (λ p. is_read places p ≡ true)
either_is_read places None b h k = k
either_is_read places (Some p) b h k = h

unless_long : (places : List Place) (long : Bool) (a : Option Place) → IfSome a (λ p. is_read places p ≡ true) → IfSome (cond long None a) (λ p. is_read places p ≡ true)
unless_long places true a h = tt
unless_long places false a h = h

-- the file that a text may mean is one of those of the places
pub meant_is_read : (text : Text) (places : List Place) → IfSome (meant_file text places) (λ p. is_read places p ≡ true)
unfolding meant_file
meant_is_read text places =
    let name = last_component (file_in text) in
    unless_long places (nat_lt 255 (length name)) (option_or (place_called places name) (place_near places name))
    (either_is_read places (place_called places name) (place_near places name)
    (found_is_read (λ place. same_text (file_name place) name) places) (near_is_read places (near.nearest (map file_name places) name)))
