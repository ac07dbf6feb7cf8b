-- The first text, or part of one, that an option does not take.
use Rattle.std.proofs.Common.{◌≡◌, ℕ, ◌+◌, ◌<◌, ◌≤◌, not, List, [], ◌∷◌, Option, Some, None, map, flat_map, drop, get_or, length, ap, refl, sym, ◌∙◌, add-one, drop-cons, drop_of_length-le}
use Rattle.std.specs.Option.{option_or}
use Rattle.std.proofs.lemmas.List.Folds.{find-append}
use Rattle.text_bytes.specs.Text.{Text}
use Rattle.file_catalogue.specs.Ignored.{cut_at_commas, first_unknown, is_ignorable}

-- the first of the parts of texts
abbrev pub unknown_in : List Text → Option Text
unknown_in texts = first_unknown (flat_map cut_at_commas texts)

-- what is left at a place is what is there, and what is left after it
left_at : {A B : Type 0} (f : A → B) (xs : List A) (i : ℕ) (d : A) → i < length xs → map f (drop i xs) ≡ f (get_or xs i d) ∷ map f (drop (i + 1) xs)
left_at f xs i d h = rw (add-one, drop-cons xs i d) refl

next : {A : Type 0} (f : A → Text) (texts : List A) (at : ℕ) (text : A) → at < length texts
    → unknown_in (map f (drop at texts)) ≡ option_or (first_unknown (cut_at_commas (f (get_or texts at text)))) (unknown_in (map f (drop (at + 1) texts)))
next f texts at text h =
    ap unknown_in (left_at f texts at text h)
    ∙ find-append (λ part. not (is_ignorable part)) (cut_at_commas (f (get_or texts at text))) (flat_map cut_at_commas (map f (drop (at + 1) texts)))

-- if a text has none, it is in those after
pub proceeds : {A : Type 0} (f : A → Text) (texts : List A) (at : ℕ) (text : A) (whole : Option Text) → at < length texts
    → unknown_in (map f (drop at texts)) ≡ whole → first_unknown (cut_at_commas (f (get_or texts at text))) ≡ None → unknown_in (map f (drop (at + 1) texts)) ≡ whole
proceeds f texts at text whole h left none = sym (ap (λ found. option_or found (unknown_in (map f (drop (at + 1) texts)))) none) ∙ sym (next f texts at text h) ∙ left

-- if a text has one, it is the first
pub found_here : {A : Type 0} (f : A → Text) (texts : List A) (at : ℕ) (text : A) (whole : Option Text) (part : Text) → at < length texts
    → unknown_in (map f (drop at texts)) ≡ whole → first_unknown (cut_at_commas (f (get_or texts at text))) ≡ Some part → Some part ≡ whole
found_here f texts at text whole part h left some = sym (ap (λ found. option_or found (unknown_in (map f (drop (at + 1) texts)))) some) ∙ sym (next f texts at text h) ∙ left

pub none_left : {A : Type 0} (f : A → Text) (texts : List A) (at : ℕ) (whole : Option Text) → length texts ≤ at → unknown_in (map f (drop at texts)) ≡ whole → None ≡ whole
none_left f texts at whole h left = sym (ap (λ rest. unknown_in (map f rest)) (drop_of_length-le texts h)) ∙ left
