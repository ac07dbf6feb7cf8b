-- How the words of a bitmap are read from the right.
use Rattle.std.specs.Prelude.{◌≡◌, ℕ, zero, suc, ◌/◌, Bool, true, false, cond, List, [], ◌∷◌, ◌++◌, map, reverse, take, slice_index, refl}
use Rattle.std.specs.List.{list_any, slice_split, onto_first}
use Rattle.std.proofs.lemmas.Bool.{or_parts}
use Rattle.std.proofs.lemmas.List.{map-append, reverse-append}
use Rattle.text_bytes.specs.Names.{digit_zero, space}
use Rattle.text_bytes.specs.Text.{Text}
use Rattle.builtin_devices.specs.Numbers.{digits_in, number_in, written}
use Rattle.builtin_input.specs.Bitmaps.{bitmap, has, is_space, word}

-- a list in which nothing is cut is one part
uncut : (p : ℕ → Bool) (xs : List ℕ) → list_any p xs ≡ false → slice_split p xs ≡ xs ∷ []
uncut p [] h = refl
uncut p (x ∷ xs) h = let parts = or_parts (p x) (list_any p xs) h in rw (parts.0, uncut p xs parts.1) refl

-- more parts after those of a list change nothing at their front
onto-append : (x : ℕ) (p : ℕ → Bool) (xs : List ℕ) (more : List (List ℕ)) → onto_first x (slice_split p xs ++ more) ≡ onto_first x (slice_split p xs) ++ more
onto-append x p [] more = refl
onto-append x p (y ∷ ys) more =
    elim (p y) as (λ cut. onto_first x (cond cut ([] ∷ slice_split p ys) (onto_first y (slice_split p ys)) ++ more) ≡ onto_first x (cond cut ([] ∷ slice_split p ys) (onto_first y (slice_split p ys))) ++ more) [
      | true ↦ refl
      | false ↦ elim (slice_split p ys) as (λ parts. onto_first x (onto_first y parts ++ more) ≡ onto_first x (onto_first y parts) ++ more) [ [] ↦ refl | part ∷ parts ↦ refl ]
    ]

-- the parts of a list that is cut at an element are those before it and those after it
split-append : (p : ℕ → Bool) (xs : List ℕ) (y : ℕ) (ys : List ℕ) → p y ≡ true → slice_split p (xs ++ y ∷ ys) ≡ slice_split p xs ++ slice_split p ys
split-append p [] y ys h = rw h refl
split-append p (x ∷ xs) y ys h =
    rw (split-append p xs y ys h)
    (elim (p x) as (λ cut. cond cut ([] ∷ (slice_split p xs ++ slice_split p ys)) (onto_first x (slice_split p xs ++ slice_split p ys)) ≡ cond cut ([] ∷ slice_split p xs) (onto_first x (slice_split p xs)) ++ slice_split p ys) [
      | true ↦ refl
      | false ↦ onto-append x p xs (slice_split p ys)
    ])

pub one_word : (most : ℕ) (last : Text) → list_any is_space last ≡ false → bitmap (suc most) last ≡ word last ∷ []
unfolding bitmap
one_word zero last h = rw (uncut is_space last h) refl
one_word (suc most) last h = rw (uncut is_space last h) refl

pub last_word : (most : ℕ) (text last : Text) → list_any is_space last ≡ false → bitmap (suc most) (text ++ space ∷ last) ≡ word last ∷ bitmap most text
unfolding bitmap
last_word most text last h = rw (split-append is_space text space last refl, uncut is_space last h, map-append word (slice_split is_space text) (last ∷ []), reverse-append (map word (slice_split is_space text)) (word last ∷ [])) refl

-- a word that is 0 after all others has no number
zero_after : (most : ℕ) (words : List ℕ) (place : ℕ) → slice_index (take most (words ++ 0 ∷ [])) place ≡ slice_index (take most words) place
zero_after zero words place = refl
zero_after (suc most) [] zero = refl
zero_after (suc zero) [] (suc place) = refl
zero_after (suc (suc most)) [] (suc place) = refl
zero_after (suc most) (word ∷ words) zero = refl
zero_after (suc most) (word ∷ words) (suc place) = zero_after most words place

no_number : word (digit_zero ∷ []) ≡ 0
unfolding word number_in written digits_in
no_number = refl

pub zeros : (most : ℕ) (text : Text) (number : ℕ) → has (bitmap most (digit_zero ∷ space ∷ text)) number ≡ has (bitmap most text) number
unfolding bitmap has
zeros most text number = rw (no_number, reverse-append (0 ∷ []) (map word (slice_split is_space text)), zero_after most (reverse (map word (slice_split is_space text))) (number / 64)) refl
