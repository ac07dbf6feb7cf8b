-- A match that a modalias of a form fits meets the form.
use Rattle.std.proofs.Common.{◌≡◌, ℕ, ◌+◌, zero, Bool, true, false, cond, not, ◌&&◌, ◌||◌, ◌==◌, List, ◌∷◌, [], length, ltb, Result, Ok, Err, refl, sym, ◌∙◌, subst, ap}
use Rattle.std.proofs.lemmas.Bool.{and_parts, eqb-true}
use Rattle.text_bytes.specs.Names.{backslash, colon, open_bracket, question_mark, star}
use Rattle.text_core.specs.Fits.{fits}
use Rattle.text_core.specs.Spell.{first_item, items_at, max_len, spell, spell_by, with_item}
use Rattle.text_core.specs.declared.glob_fault.GlobFault.{GlobFault}
use Rattle.text_core.specs.declared.glob_fault.GlobFault.TheVariants.{TooLong}
use Rattle.text_core.specs.declared.item.Item.{Item}
use Rattle.text_core.specs.declared.item.Item.TheVariants.{Byte, One}
use Rattle.text_core.specs.declared.reading.Reading.TheVariants.{Exact}
use Rattle.hwdb_core.specs.Forms.{has_swapped, is_capital_digit, is_digit_place, is_hexadecimal, is_of_form, is_small_digit, is_swapped, is_written, meeting_of, step_at}
use Rattle.hwdb_core.specs.declared.forms.Meeting.TheVariants as meeting
use Rattle.hwdb_core.specs.declared.forms.Step.TheVariants as step

-- what a match has after its prefix meets a form, and its digits have the case of that
record Meets (form text : List ℕ) : Type 0 where
  met : meeting_of form text ≡ meeting.Fits
  kept : has_swapped form text ≡ false

and_false : (a : Bool) → (a && false) ≡ false
and_false true = refl
and_false false = refl

or_so : (a : Bool) → (a || true) ≡ true
or_so true = refl
or_so false = refl

-- an item and the rest of a text, if together they are a pattern
with_rest : (r : Result (List Item) GlobFault) (x : Item) (items : List Item) → with_item x r ≡ Ok items → (C : List Item → Type 0) → ((others : List Item) → r ≡ Ok others → C (x ∷ others)) → C items
with_rest (Ok others) x items e C k =
    let same : x ∷ others ≡ items = cc in
    subst C same (k others refl)
with_rest (Err f) x items e C k = cc

free : (p b : ℕ) (form t : List ℕ) → step_at p b ≡ step.Free → Meets (p ∷ form) (b ∷ t)
free p b form t e = record { met = rw e refl; kept = rw e refl }

on : (p b : ℕ) (form t : List ℕ) → step_at p b ≡ step.On → is_swapped p b ≡ false → Meets form t → Meets (p ∷ form) (b ∷ t)
on p b form t e unswapped later = record { met = rw (e, later.met) refl; kept = rw (e, unswapped, later.kept) refl }

-- a byte that is written at a place is not swapped
written_unswapped : (p b : ℕ) → is_written p b ≡ true → is_swapped p b ≡ false
written_unswapped p b w = by (is_hexadecimal b) (is_digit_place p) (is_written p b) w where
  by : (h d v : Bool) → v ≡ true → ((h && not v) && d) ≡ false
  by true d true e = refl
  by false d true e = refl
  by h d false e = cc

letter_unswapped : (p b : ℕ) → is_digit_place p ≡ false → is_swapped p b ≡ false
letter_unswapped p b d = ap (λ x. (is_hexadecimal b && not (is_written p b)) && x) d ∙ and_false (is_hexadecimal b && not (is_written p b))

-- what is written at a digit is a digit
hexadecimal : (p b : ℕ) → is_digit_place p ≡ true → is_written p b ≡ true → is_hexadecimal b ≡ true
hexadecimal p b d w = by (p == 88) (p == 120) (is_capital_digit b) (is_small_digit b) d w where
  by : (x y c s : Bool) → (x || y) ≡ true → cond x c (cond y s (b == p)) ≡ true → (c || s) ≡ true
  by true y true s d w = refl
  by true y false s d w = cc
  by false true c true d w = or_so c
  by false true c false d w = cc
  by false false c s d w = cc

-- what is written at another place is that byte
letter : (p b : ℕ) → is_digit_place p ≡ false → is_written p b ≡ (b == p)
letter p b d = by (p == 88) (p == 120) d where
  by : (x y : Bool) → (x || y) ≡ false → cond x (is_capital_digit b) (cond y (is_small_digit b) (b == p)) ≡ (b == p)
  by true y d = cc
  by false true d = cc
  by false false d = refl

module _ (at p b : ℕ) (form t : List ℕ) (c : ℕ) (m : List ℕ) (later : (others : List Item) → items_at Exact t zero (at + 1) ≡ Ok others → fits others m ≡ true → is_of_form form m ≡ true → Meets form t) where
  -- a `?`
  question : (b == star) ≡ false → (b == open_bracket) ≡ false → (b == backslash) ≡ false → (b == question_mark) ≡ true
      → (others : List Item) → items_at Exact t zero (at + 1) ≡ Ok others → fits others m ≡ true → is_of_form (p ∷ form) (c ∷ m) ≡ true → Meets (p ∷ form) (b ∷ t)
  question es ek eh eq others r f o = by (is_digit_place p) (is_written p c) refl refl o where
    by : (d w : Bool) → is_digit_place p ≡ d → is_written p c ≡ w → cond w (is_of_form form m) ((c == colon) && not d) ≡ true → Meets (p ∷ form) (b ∷ t)
    by false w ed ew k = free p b form t (rw (es, ek, eh, ed, eq) refl)
    by true true ed ew k = on p b form t (rw (es, ek, eh, ed, eq) refl) (rw (eqb-true b question_mark eq) refl) (later others r f k)
    by true false ed ew k = let never : (c == colon) && false ≡ false = and_false (c == colon) in cc

  -- any other byte but those behind which anything can come
  plain : (b == star) ≡ false → (b == open_bracket) ≡ false → (b == backslash) ≡ false → (b == question_mark) ≡ false
      → (others : List Item) → items_at Exact t zero (at + 1) ≡ Ok others → fits others m ≡ true → is_of_form (p ∷ form) (b ∷ m) ≡ true → Meets (p ∷ form) (b ∷ t)
  plain es ek eh eq others r f o = by (is_digit_place p) (is_written p b) refl refl o where
    by : (d w : Bool) → is_digit_place p ≡ d → is_written p b ≡ w → cond w (is_of_form form m) ((b == colon) && not d) ≡ true → Meets (p ∷ form) (b ∷ t)
    by true true ed ew k = on p b form t (rw (es, ek, eh, ed, eq, hexadecimal p b ed ew) refl) (written_unswapped p b ew) (later others r f k)
    by true false ed ew k = let never : (b == colon) && false ≡ false = and_false (b == colon) in cc
    by false true ed ew k = on p b form t (rw (es, ek, eh, ed, eq, sym (letter p b ed) ∙ ew) refl) (letter_unswapped p b ed) (later others r f k)
    by false false ed ew k =
        let is_colon : (b == colon) ≡ true = (and_parts (b == colon) true k).0 in
        free p b form t (rw (es, ek, eh, ed, eq, sym (letter p b ed) ∙ ew, is_colon) refl)

  one_byte : (items : List Item) → items_at Exact (b ∷ t) zero at ≡ Ok items → fits items (c ∷ m) ≡ true → is_of_form (p ∷ form) (c ∷ m) ≡ true → Meets (p ∷ form) (b ∷ t)
  unfolding first_item
  one_byte items e f o = by (b == star) (b == open_bracket) (b == backslash) (b == question_mark) refl refl refl refl where
    by : (s k h q : Bool) → (b == star) ≡ s → (b == open_bracket) ≡ k → (b == backslash) ≡ h → (b == question_mark) ≡ q → Meets (p ∷ form) (b ∷ t)
    by true k h q es ek eh eq = free p b form t (rw es refl)
    by false true h q es ek eh eq = free p b form t (rw (es, ek) refl)
    by false false true q es ek eh eq = free p b form t (rw (es, ek, eh) refl)
    by false false false true es ek eh eq =
        let front : items_at Exact (b ∷ t) zero at ≡ with_item One (items_at Exact t zero (at + 1)) = rw (es, eq) refl in
        with_rest (items_at Exact t zero (at + 1)) One items (sym front ∙ e) (λ xs. fits xs (c ∷ m) ≡ true → Meets (p ∷ form) (b ∷ t)) (λ others r g. question es ek eh eq others r g o) f
    by false false false false es ek eh eq =
        let front : items_at Exact (b ∷ t) zero at ≡ with_item (Byte b) (items_at Exact t zero (at + 1)) = rw (es, eq, ek) refl in
        with_rest (items_at Exact t zero (at + 1)) (Byte b) items (sym front ∙ e) (λ xs. fits xs (c ∷ m) ≡ true → Meets (p ∷ form) (b ∷ t))
        (λ others r g.
        let same : b ≡ c = eqb-true b c (and_parts (b == c) (fits others m) g).0 in
        plain es ek eh eq others r (and_parts (b == c) (fits others m) g).1 (subst (λ x. is_of_form (p ∷ form) (x ∷ m) ≡ true) (sym same) o))
        f

all_met : (at : ℕ) (form t m : List ℕ) (items : List Item) → items_at Exact t zero at ≡ Ok items → fits items m ≡ true → is_of_form form m ≡ true → Meets form t
all_met at [] t m items e f o = record { met = refl; kept = refl }
all_met at (p ∷ form) [] [] items e f o = cc
all_met at (p ∷ form) [] (c ∷ m) [] e f o = cc
all_met at (p ∷ form) [] (c ∷ m) (x ∷ items) e f o = cc
all_met at (p ∷ form) (b ∷ t) [] items e f o = cc
all_met at (p ∷ form) (b ∷ t) (c ∷ m) items e f o = one_byte at p b form t c m (λ others r g k. all_met (at + 1) form t m others r g k) items e f o

spelled : (text : List ℕ) (items : List Item) → spell text ≡ Ok items → items_at Exact text zero 0 ≡ Ok items
unfolding spell spell_by
spelled text items e = by (ltb max_len (length text)) e where
  by : (long : Bool) → cond long (Err TooLong) (items_at Exact text zero 0) ≡ Ok items → items_at Exact text zero 0 ≡ Ok items
  by true k = cc
  by false k = k

-- what a match has after its prefix meets a form if a modalias of the form fits it
pub form_met : (form text modalias : List ℕ) (items : List Item) → spell text ≡ Ok items → fits items modalias ≡ true → is_of_form form modalias ≡ true
    → (meeting_of form text ≡ meeting.Fits) × (has_swapped form text ≡ false)
form_met form text modalias items e f o = let m : Meets form text = all_met 0 form text modalias items (spelled text items e) f o in (m.met, m.kept)
