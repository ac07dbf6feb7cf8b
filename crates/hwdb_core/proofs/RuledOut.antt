-- A match that is ruled out is a pattern that does not fit.
use Rattle.std.proofs.Common.{◌≡◌, ℕ, ◌+◌, zero, ◌≤◌, Bool, true, false, cond, not, ◌&&◌, ◌||◌, ◌==◌, List, ◌∷◌, [], length, Option, Some, None, is_none, nat_le, ltb, Result, Ok, Err, refl, sym, ◌∙◌, subst, arith}
use Rattle.std.specs.List.{position, position_or_len}
use Rattle.std.proofs.lemmas.Bool.{le-ltb, leb-true}
use Rattle.text_bytes.specs.Names.{open_bracket, question_mark, star}
use Rattle.text_core.specs.Fnmatch.{is_special}
use Rattle.text_core.specs.Fits.{fits}
use Rattle.text_core.specs.Spell.{first_item, items_at, max_len, spell, spell_by, with_item}
use Rattle.text_core.specs.declared.glob_fault.GlobFault.{GlobFault}
use Rattle.text_core.specs.declared.item.Item.{Item}
use Rattle.text_core.specs.declared.item.Item.TheVariants.{Byte, Many, One}
use Rattle.text_core.specs.declared.reading.Reading.TheVariants.{Exact}
use Rattle.hwdb_core.proofs.Finding.{position_none}
use Rattle.hwdb_core.specs.Ruling.{IsPassed, differs_in_prefix, is_faultless, is_ruled_out, passes_over}

-- what is at the front of a text, if its first byte means itself
plain_first : (at b : ℕ) (t : List ℕ) → is_special b ≡ false → items_at Exact (b ∷ t) zero at ≡ with_item (Byte b) (items_at Exact t zero (at + 1))
unfolding first_item
plain_first at b t e = by_star (b == star) (b == question_mark) (b == open_bracket) refl refl refl e where
  by_star : (s q o : Bool) → (b == star) ≡ s → (b == question_mark) ≡ q → (b == open_bracket) ≡ o → (s || q) || o ≡ false → items_at Exact (b ∷ t) zero at ≡ with_item (Byte b) (items_at Exact t zero (at + 1))
  by_star true q o es eq eo h = cc
  by_star false true o es eq eo h = cc
  by_star false false true es eq eo h = cc
  by_star false false false es eq eo h = rw (es, eq, eo) refl

-- an item and the rest of a text, if together they are a pattern
with_plain : (r : Result (List Item) GlobFault) (x : Item) (items : List Item) → with_item x r ≡ Ok items → (C : List Item → Type 0) → ((others : List Item) → r ≡ Ok others → C (x ∷ others)) → C items
with_plain (Ok others) x items e C k =
    let same : x ∷ others ≡ items = cc in
    subst C same (k others refl)
with_plain (Err f) x items e C k = cc

differing : (at : ℕ) (t m : List ℕ) (items : List Item) → differs_in_prefix t m ≡ true → items_at Exact t zero at ≡ Ok items → fits items m ≡ false
differing at [] [] items d e = cc
differing at [] (c ∷ m) [] d e = refl
differing at [] (c ∷ m) (x ∷ items) d e = cc
differing at (b ∷ t) [] items d e = by_test (is_special b) refl d where
  by_test : (s : Bool) → is_special b ≡ s → not s ≡ true → fits items [] ≡ false
  by_test true q n = cc
  by_test false q n = with_plain (items_at Exact t zero (at + 1)) (Byte b) items (sym (plain_first at b t q) ∙ e) (λ xs. fits xs [] ≡ false) (λ others h. refl)
differing at (b ∷ t) (c ∷ m) items d e = by_test (is_special b) (b == c) refl refl d (differing (at + 1) t m) where
  by_test : (s same : Bool) → is_special b ≡ s → (b == c) ≡ same → cond s false (cond same (differs_in_prefix t m) true) ≡ true
      → ((others : List Item) → differs_in_prefix t m ≡ true → items_at Exact t zero (at + 1) ≡ Ok others → fits others m ≡ false) → fits items (c ∷ m) ≡ false
  by_test true same q r n later = cc
  by_test false true q r n later =
      with_plain (items_at Exact t zero (at + 1)) (Byte b) items (sym (plain_first at b t q) ∙ e) (λ xs. fits xs (c ∷ m) ≡ false) (λ others h. rw r (later others n h))
  by_test false false q r n later =
      with_plain (items_at Exact t zero (at + 1)) (Byte b) items (sym (plain_first at b t q) ∙ e) (λ xs. fits xs (c ∷ m) ≡ false) (λ others h. rw r refl)

-- ---- a text without a set is a pattern

record Spelled (at : ℕ) (t : List ℕ) : Type 0 where
  items : List Item
  is : items_at Exact t zero at ≡ Ok items

one_more : (at b : ℕ) (t : List ℕ) → (b == open_bracket) ≡ false → Spelled (at + 1) t → Spelled at (b ∷ t)
unfolding first_item
one_more at b t n s = by_test (b == star) (b == question_mark) refl refl where
  by_test : (v q : Bool) → (b == star) ≡ v → (b == question_mark) ≡ q → Spelled at (b ∷ t)
  by_test true q es eq = record { items = Many ∷ s.items; is = rw (es, s.is) refl }
  by_test false true es eq = record { items = One ∷ s.items; is = rw (es, eq, s.is) refl }
  by_test false false es eq = record { items = Byte b ∷ s.items; is = rw (es, eq, n, s.is) refl }

setless : (at : ℕ) (t : List ℕ) → length t ≤ position_or_len (λ b. b == open_bracket) t → Spelled at t
setless at [] h = record { items = []; is = refl }
setless at (b ∷ t) h = by_test (b == open_bracket) refl (setless (at + 1) t) where
  by_test : (v : Bool) → (b == open_bracket) ≡ v → (length t ≤ position_or_len (λ b. b == open_bracket) t → Spelled (at + 1) t) → Spelled at (b ∷ t)
  by_test true e later =
      let first_item : position_or_len (λ b. b == open_bracket) (b ∷ t) ≡ 0 = rw e refl in
      absurd (omega (arith, h, first_item))
  by_test false e later =
      let first_item : position_or_len (λ b. b == open_bracket) (b ∷ t) ≡ 1 + position_or_len (λ b. b == open_bracket) t = rw e refl in
      one_more at b t e (later (omega (arith, h, first_item)))

first_so : (a b : Bool) → a && b ≡ true → a ≡ true
first_so true b e = refl
first_so false b e = cc

second_so : (a b : Bool) → a && b ≡ true → b ≡ true
second_so true b e = e
second_so false b e = cc

none_so : (o : Option ℕ) → is_none o ≡ true → o ≡ None
none_so None e = refl
none_so (Some n) e = cc

pub skipped : (wanted : Option (List ℕ)) (t : List ℕ) → passes_over wanted t ≡ true → IsPassed wanted t
unfolding is_ruled_out spell spell_by
skipped None t e = cc
skipped (Some m) t e =
    let differs : differs_in_prefix t m ≡ true = first_so (differs_in_prefix t m) (is_faultless t) e in
    let faultless : is_faultless t ≡ true = second_so (differs_in_prefix t m) (is_faultless t) e in
    let short : nat_le (length t) max_len ≡ true = first_so (nat_le (length t) max_len) (is_none (position (λ b. b == open_bracket) t)) faultless in
    let none : position (λ b. b == open_bracket) t ≡ None = none_so (position (λ b. b == open_bracket) t) (second_so (nat_le (length t) max_len) (is_none (position (λ b. b == open_bracket) t)) faultless) in
    let s : Spelled 0 t = setless 0 t (position_none (λ b. b == open_bracket) t none) in
    let fits_in : length t ≤ max_len = leb-true (length t) max_len short in
    let long : ltb max_len (length t) ≡ false = le-ltb max_len (length t) fits_in in
    record { items = s.items; spelled = rw long s.is; uncounted = differing 0 t m s.items differs s.is }
