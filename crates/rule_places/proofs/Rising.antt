-- The starts of kept lines do not fall.
use Rattle.std.proofs.Common.{◌≡◌, ℕ, zero, suc, ◌+◌, ◌<◌, ◌≤◌, Bool, true, false, cond, List, [], ◌∷◌, length, slice_index_or, Some, None, refl, arith}
use Rattle.std.specs.List.Sorted.{IsNonDecreasingBy}
use Rattle.text_bytes.specs.Lines.{NumberedLine}
use Rattle.rule_core.specs.Lines.{is_comment, unindented}
use Rattle.rule_places.specs.Kept.{as_kept, kept_before, kept_from}
use Rattle.rule_places.specs.declared.kept.KeptLine.{KeptLine}

-- none of these begins before a place
abbrev pub BeginsFrom : ℕ → List KeptLine → Type 0
BeginsFrom start lines = (j : ℕ) (d : KeptLine) → j < length lines → start ≤ (slice_index_or lines j d).start

-- a line before others that begin after it
line_before : (k : KeptLine) (more start : ℕ) (lines : List KeptLine) → k.start ≡ start → BeginsFrom (start + more) lines → BeginsFrom start (k ∷ lines)
line_before k more start lines e b zero d h = omega arith
line_before k more start lines e b (suc j) d h =
    let inside : j < length lines = omega arith in
    let following = b j d inside in
    omega arith

rise_before : (k : KeptLine) (more start : ℕ) (lines : List KeptLine) → k.start ≡ start → BeginsFrom (start + more) lines → IsNonDecreasingBy (λ l. l.start) lines → IsNonDecreasingBy (λ l. l.start) (k ∷ lines)
rise_before k more start lines e b r zero zero d h m = omega arith
rise_before k more start lines e b r zero (suc j) d h m =
    let inside : j < length lines = omega arith in
    let following = b j d inside in
    omega arith
rise_before k more start lines e b r (suc i) zero d h m = absurd (omega arith)
rise_before k more start lines e b r (suc i) (suc j) d h m = r i j d (omega arith) (omega arith)

pub begins : (start : ℕ) (ls : List NumberedLine) → BeginsFrom start (kept_from start ls)
begins start [] = λ j d h. absurd (omega arith)
begins start (l ∷ ls) = by (is_comment (unindented l)) (begins start ls) (begins (start + (as_kept start l).size) ls)
  where
    by : (c : Bool) → BeginsFrom start (kept_from start ls) → BeginsFrom (start + (as_kept start l).size) (kept_from (start + (as_kept start l).size) ls)
        → BeginsFrom start (kept_before start (cond c None (Some (as_kept start l))) (λ n. kept_from n ls))
    by true here following = here
    by false here following = line_before (as_kept start l) (as_kept start l).size start (kept_from (start + (as_kept start l).size) ls) refl following

pub rises : (start : ℕ) (ls : List NumberedLine) → IsNonDecreasingBy (λ l. l.start) (kept_from start ls)
rises start [] = λ i j d h m. absurd (omega arith)
rises start (l ∷ ls) = by (is_comment (unindented l)) (rises start ls) (rises (start + (as_kept start l).size) ls)
  where
    by : (c : Bool) → IsNonDecreasingBy (λ l. l.start) (kept_from start ls) → IsNonDecreasingBy (λ l. l.start) (kept_from (start + (as_kept start l).size) ls)
        → IsNonDecreasingBy (λ l. l.start) (kept_before start (cond c None (Some (as_kept start l))) (λ n. kept_from n ls))
    by true here following = here
    by false here following = rise_before (as_kept start l) (as_kept start l).size start (kept_from (start + (as_kept start l).size) ls) refl (begins (start + (as_kept start l).size) ls) following
