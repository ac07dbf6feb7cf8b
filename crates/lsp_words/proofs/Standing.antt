-- What is found at the front of a text stands there, and is in its table.
use Rattle.std.proofs.Common.{◌≡◌, ℕ, ◌+◌, ◌-◌, ◌≤◌, Bool, true, false, List, [], ◌∷◌, ◌++◌, refl, sym, ◌∙◌, ap, subst, drop, length, take, if◌then◌else◌, nat_eq, nat_le, arith, Contains, ◌&&◌, ◌||◌, ◌==◌}
use Rattle.std.specs.Prelude.{IfSome, Option, Some, None, option_map}
use Rattle.std.specs.List.{starts_with}
use Rattle.std.specs.Option.{option_and_then}
use Rattle.std.proofs.Math.Seq.{take-append_seam}
use Rattle.std.proofs.lemmas.Bool.Decides.{Decides-eqb}
use Rattle.std.proofs.lemmas.List.{length-append, length-drop}
use Rattle.std.proofs.lemmas.List.Elements.{Contains-append_right}
use Rattle.std.proofs.lemmas.Slice.Eq.{starts_is}
use Rattle.text_bytes.specs.Text.{Text}
use Rattle.lsp_words.specs.Entries.{Row, entry_at, fits, is_open}
use Rattle.lsp_words.specs.Meanings.{Found, IsTold, meaning_in, size_of, told}
use Rattle.lsp_words.specs.Meanings.{shown}
use Rattle.lsp_words.specs.Tables.{entries_of}
use Rattle.lsp_words.specs.declared.meanings.Meaning.{Meaning}
use Rattle.lsp_words.specs.declared.slots.Slot.{Slot}

-- a name at the front of a text is its first bytes
begun : (text name : Text) → starts_with nat_eq text name ≡ true → text ≡ name ++ drop (length name) text
begun text name h = (starts_is Decides-eqb text name _ refl).0 h

-- the first of two facts that are true together
first_of_both : (a b : Bool) → (a && b) ≡ true → a ≡ true
first_of_both true b e = refl
first_of_both false b e = e

-- what fits stands at the front
fits_begun : (size : ℕ) (text : Text) (row : Row) → fits size text row ≡ true → text ≡ row.name ++ drop (length row.name) text
unfolding fits
fits_begun size text row h = begun text row.name (first_of_both (starts_with nat_eq text row.name) (is_open row.name || length row.name == size) h)

-- what fits is no longer than the text
pub fits_within : (size : ℕ) (text : Text) (row : Row) → fits size text row ≡ true → length row.name ≤ length text
fits_within size text row h =
    let e : length text ≡ length row.name + length (drop (length row.name) text)
    = ap length (fits_begun size text row h) ∙ length-append row.name (drop (length row.name) text)
    in omega arith

-- the first bytes of a text are the name that fits
fits_front : (size : ℕ) (text : Text) (row : Row) → fits size text row ≡ true → take (length row.name) text ≡ row.name
fits_front size text row h =
    ap (take (length row.name)) (fits_begun size text row h) ∙ take-append_seam row.name (drop (length row.name) text)

-- a row that stands at the front of a text, and is in a table
pub record Stands (rows : List Row) (text : Text) (row : Row) : Type 0 where
  pub front : take (length row.name) text ≡ row.name
  pub within : length row.name ≤ length text
  pub among : Contains rows row

-- the first row of a table that fits, or one of those behind it
stands_if : (b : Bool) (first row : Row) (rows : List Row) (size : ℕ) (text : Text) → fits size text first ≡ b
    → (if b then Some first else entry_at rows size text) ≡ Some row → (entry_at rows size text ≡ Some row → Stands rows text row)
    → Stands (first ∷ rows) text row
stands_if true first row rows size text h e more =
    let same : first ≡ row = cc in
    subst (λ r. Stands (first ∷ rows) text r) same
    (record { front = fits_front size text first h; within = fits_within size text first h; among = (0, omega arith, refl) })
stands_if false first row rows size text h e more =
    let s : Stands rows text row = more e in
    record { front = s.front; within = s.within; among = Contains-append_right (first ∷ []) rows row s.among }

-- what is found stands at the front
pub stands : (rows : List Row) (size : ℕ) (text : Text) (row : Row) → entry_at rows size text ≡ Some row → Stands rows text row
stands [] size text row e = absurd cc
stands (first ∷ rows) size text row e =
    stands_if (fits size text first) first row rows size text refl e (stands rows size text row)

-- what is told begins and ends with its word
told_if : (b : Bool) (start : ℕ) (row : Row) (m : Found)
    → (if b then Some (record { start = start; end = start + length row.name; text = row.text }) else None) ≡ Some m
    → (m.start ≡ start) × (m.end ≡ start + length row.name) × (m.text ≡ row.text)
told_if true start row m e =
    let same : record { start = start; end = start + length row.name; text = row.text } ≡ m = cc in
    (sym (ap (λ f. f.start) same), sym (ap (λ f. f.end) same), sym (ap (λ f. f.text) same))
told_if false start row m e = absurd cc

-- what is told about a word is in a table, and the word in the row
pub record IsPlaced (row : Text) (m : Found) : Type 0 where
  pub ordered : m.start ≤ m.end
  pub within : m.end ≤ length row
  pub told : IsTold (take (m.end - m.start) (drop m.start row)) m.text

placed_if : (row : Text) (at : ℕ) (slot : Slot) (o : Option Row) (m : Found) → slot.start ≤ length row
    → entry_at (entries_of slot.kind) (size_of slot.kind (drop slot.start row)) (drop slot.start row) ≡ o
    → option_and_then (told at slot.start) o ≡ Some m → IsPlaced row m
placed_if row at slot None m h e found = absurd cc
placed_if row at slot (Some r) m h e found =
    let s : Stands (entries_of slot.kind) (drop slot.start row) r
    = stands (entries_of slot.kind) (size_of slot.kind (drop slot.start row)) (drop slot.start row) r e in
    let t = told_if (nat_le at (slot.start + length r.name)) slot.start r m found in
    let l : length (drop slot.start row) ≡ length row - slot.start = length-drop slot.start row in
    let first : m.start ≡ slot.start = t.0 in
    let last : m.end ≡ slot.start + length r.name = t.1 in
    let size : m.end - m.start ≡ length r.name = omega arith in
    let name : take (m.end - m.start) (drop m.start row) ≡ r.name
    = ap (λ n. take n (drop m.start row)) size ∙ (ap (λ n. take (length r.name) (drop n row)) first ∙ s.front) in
    let inside : length r.name ≤ length (drop slot.start row) = s.within in
    record {
      ordered = omega arith;
      within = omega arith;
      told = (
        slot.kind,
        subst (λ n. Contains (entries_of slot.kind) (record { name = n; text = m.text })) (sym name)
            (subst (λ x. Contains (entries_of slot.kind) (record { name = r.name; text = x })) (sym t.2) s.among),
      );
    }

-- what a word means is in a table, and the word in the row
pub placed : (row : Text) (at : ℕ) (slot : Slot) (m : Found) → slot.start ≤ length row → Some m ≡ meaning_in row at slot → IsPlaced row m
unfolding meaning_in
placed row at slot m h e =
    placed_if row at slot (entry_at (entries_of slot.kind) (size_of slot.kind (drop slot.start row)) (drop slot.start row)) m h refl (sym e)

-- what is told about a word lies in the row
pub within_of : (row : Text) (at : ℕ) (slot : Slot) (r : Option Meaning) → slot.start ≤ length row → option_map shown r ≡ meaning_in row at slot
    → IfSome r (λ m. (m.start ≤ m.end) × (m.end ≤ length row))
within_of row at slot None h e = tt
within_of row at slot (Some m) h e = let p = placed row at slot (shown m) h e in (p.ordered, p.within)

-- what is told is what a table has about the word
pub entry_of : (row : Text) (at : ℕ) (slot : Slot) (r : Option Meaning) → slot.start ≤ length row → option_map shown r ≡ meaning_in row at slot
    → IfSome r (λ m. IsTold (take (m.end - m.start) (drop m.start row)) m.text.now)
entry_of row at slot None h e = tt
entry_of row at slot (Some m) h e = let p = placed row at slot (shown m) h e in p.told
