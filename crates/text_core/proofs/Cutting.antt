-- A choice, cut at its bars.
use Rattle.std.proofs.Common.{◌≡◌, ℕ, suc, ◌+◌, ◌<◌, ◌≤◌, Bool, true, false, cond, not, List, ◌∷◌, [], ◌++◌, length, take, drop, Some, None, Result, Ok, Err, ltb, refl, sym, ◌∙◌, ap, arith, append_assoc}
use Rattle.std.specs.List.{slice_split, onto_first, position, position_or_len}
use Rattle.std.proofs.lemmas.Bool.{lt-ltb, le-ltb, ltb-true, ltb-false}
use Rattle.std.proofs.lemmas.List.Splits.{slice_split_first}
use Rattle.text_core.specs.Choices.{is_bar, choice_by, parts_at, with_part}
use Rattle.text_core.specs.Spell.{max_len, items_at}
use Rattle.text_core.specs.declared.reading.Reading.{Reading}
use Rattle.text_core.specs.declared.item.Item.{Item}
use Rattle.text_core.specs.declared.glob_fault.GlobFault.{GlobFault}
use Rattle.text_core.specs.declared.glob_fault.GlobFault.TheVariants.{TooLong}

whole : (p : ℕ → Bool) (xs : List ℕ) → length xs ≤ position_or_len p xs → slice_split p xs ≡ xs ∷ []
whole p [] h = refl
whole p (x ∷ xs) h =
    elim (p x) as (λ v. suc (length xs) ≤ cond (not v) (1 + position_or_len p xs) 0 → cond v ([] ∷ slice_split p xs) (onto_first x (slice_split p xs)) ≡ (x ∷ xs) ∷ []) [
      | true ↦ λ k. absurd (omega arith)
      | false ↦ λ k. let rest : length xs ≤ position_or_len p xs = omega arith in ap (onto_first x) (whole p xs rest)
    ] h

-- without a bar there is one part
pub split_none : (p : ℕ → Bool) (xs : List ℕ) → position p xs ≡ None → slice_split p xs ≡ xs ∷ []
split_none p xs h = whole p xs (by_test (ltb (position_or_len p xs) (length xs)) refl h) where
  by_test : (v : Bool) → ltb (position_or_len p xs) (length xs) ≡ v → cond v (Some (position_or_len p xs)) None ≡ None → length xs ≤ position_or_len p xs
  by_test true e k = cc
  by_test false e k = ltb-false (position_or_len p xs) (length xs) e

-- the first part ends at the first bar
pub split_some : (p : ℕ → Bool) (xs : List ℕ) (k : ℕ) → position p xs ≡ Some k → slice_split p xs ≡ take k xs ∷ slice_split p (drop (k + 1) xs)
split_some p xs k h = by_test (ltb (position_or_len p xs) (length xs)) refl h where
  by_test : (v : Bool) → ltb (position_or_len p xs) (length xs) ≡ v → cond v (Some (position_or_len p xs)) None ≡ Some k → slice_split p xs ≡ take k xs ∷ slice_split p (drop (k + 1) xs)
  by_test true e q =
      let at : position_or_len p xs ≡ k = cc in
      slice_split_first p xs 0 (ltb-true (position_or_len p xs) (length xs) e)
      ∙ ap (λ (n : ℕ). take n xs ∷ slice_split p (drop (n + 1) xs)) at
  by_test false e q = cc

-- the length of what comes before the bar
pub position-lt : {X : Type 0} (p : X → Bool) (xs : List X) (k : ℕ) → position p xs ≡ Some k → k < length xs
position-lt p xs k h = by_test (ltb (position_or_len p xs) (length xs)) refl h where
  by_test : (v : Bool) → ltb (position_or_len p xs) (length xs) ≡ v → cond v (Some (position_or_len p xs)) None ≡ Some k → k < length xs
  by_test true e q =
      let at : position_or_len p xs ≡ k = cc in
      let lt : position_or_len p xs < length xs = ltb-true (position_or_len p xs) (length xs) e in
      omega arith
  by_test false e q = cc

-- parts, and after them those of the rest
abbrev pub with_parts : List (List Item) → Result (List (List Item)) GlobFault → Result (List (List Item)) GlobFault
with_parts parts (Ok more) = Ok (parts ++ more)
with_parts parts (Err e) = Err e

pub with_parts-none : (r : Result (List (List Item)) GlobFault) → with_parts [] r ≡ r
with_parts-none (Ok more) = refl
with_parts-none (Err e) = refl

with_parts-push : (parts : List (List Item)) (x : List Item) (r : Result (List (List Item)) GlobFault) → with_parts (parts ++ x ∷ []) r ≡ with_parts parts (with_part (Ok x) r)
with_parts-push parts x (Ok more) = ap Ok (append_assoc parts (x ∷ []) more)
with_parts-push parts x (Err e) = refl

pub with_fault : (e : GlobFault) (r : Result (List (List Item)) GlobFault) → with_part (Err e) r ≡ Err e
with_fault e (Ok more) = refl
with_fault e (Err d) = refl

-- one part more has been read
pub choice_more : (reading : Reading) (parts : List (List Item)) (x : List Item) (at next k : ℕ) (rest prefix following : List ℕ)
    → position is_bar rest ≡ Some k → prefix ≡ take k rest → following ≡ drop (k + 1) rest → items_at reading prefix 0 at ≡ Ok x → at + length prefix + 1 ≡ next
    → with_parts (parts ++ x ∷ []) (parts_at reading (slice_split is_bar following) next) ≡ with_parts parts (parts_at reading (slice_split is_bar rest) at)
choice_more reading parts x at next k rest prefix following found f b read place =
    with_parts-push parts x (parts_at reading (slice_split is_bar following) next)
    ∙ ap (with_parts parts) (
    ap (λ (n : ℕ). with_part (Ok x) (parts_at reading (slice_split is_bar following) n)) (sym place)
    ∙ ap (λ r. with_part r (parts_at reading (slice_split is_bar following) (at + length prefix + 1))) (sym read)
    ∙ ap (λ (ps : List (List ℕ)). parts_at reading ps at) (ap (λ (t : List ℕ). t ∷ slice_split is_bar following) f ∙ ap (λ (t : List ℕ). take k rest ∷ slice_split is_bar t) b ∙ sym (split_some is_bar rest k found)))

-- a part has a fault
pub choice_fault : (reading : Reading) (parts : List (List Item)) (e : GlobFault) (at k : ℕ) (rest prefix : List ℕ)
    → position is_bar rest ≡ Some k → prefix ≡ take k rest → items_at reading prefix 0 at ≡ Err e → with_parts parts (parts_at reading (slice_split is_bar rest) at) ≡ Err e
choice_fault reading parts e at k rest prefix found f read =
    ap (with_parts parts) (
    ap (λ (ps : List (List ℕ)). parts_at reading ps at) (split_some is_bar rest k found ∙ ap (λ (t : List ℕ). t ∷ slice_split is_bar (drop (k + 1) rest)) (sym f))
    ∙ ap (λ r. with_part r (parts_at reading (slice_split is_bar (drop (k + 1) rest)) (at + length prefix + 1))) read
    ∙ with_fault e (parts_at reading (slice_split is_bar (drop (k + 1) rest)) (at + length prefix + 1)))

-- the last part
pub choice_last : (reading : Reading) (parts : List (List Item)) (x : List Item) (at : ℕ) (rest : List ℕ) → position is_bar rest ≡ None → items_at reading rest 0 at ≡ Ok x
    → with_parts parts (parts_at reading (slice_split is_bar rest) at) ≡ Ok (parts ++ x ∷ [])
choice_last reading parts x at rest none read =
    ap (with_parts parts) (ap (λ (ps : List (List ℕ)). parts_at reading ps at) (split_none is_bar rest none) ∙ ap (λ r. with_part r (Ok [])) read)

pub choice_last_fault : (reading : Reading) (parts : List (List Item)) (e : GlobFault) (at : ℕ) (rest : List ℕ) → position is_bar rest ≡ None → items_at reading rest 0 at ≡ Err e
    → with_parts parts (parts_at reading (slice_split is_bar rest) at) ≡ Err e
choice_last_fault reading parts e at rest none read =
    ap (with_parts parts) (ap (λ (ps : List (List ℕ)). parts_at reading ps at) (split_none is_bar rest none) ∙ ap (λ r. with_part r (Ok [])) read)

pub choice_long : (reading : Reading) (t : List ℕ) → max_len < length t → choice_by reading t ≡ Err TooLong
unfolding choice_by
choice_long reading t h = ap (λ (b : Bool). cond b (Err TooLong) (parts_at reading (slice_split is_bar t) 0)) (lt-ltb max_len (length t) h)

pub choice_short : (reading : Reading) (t : List ℕ) → length t ≤ max_len → choice_by reading t ≡ parts_at reading (slice_split is_bar t) 0
unfolding choice_by
choice_short reading t h = ap (λ (b : Bool). cond b (Err TooLong) (parts_at reading (slice_split is_bar t) 0)) (le-ltb max_len (length t) h)
