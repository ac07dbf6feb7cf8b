-- A byte of the kept lines is in the line that is found for it.
use Rattle.std.proofs.Common.{◌≡◌, ℕ, zero, suc, ◌+◌, ◌-◌, ◌<◌, ◌≤◌, Bool, true, false, true≢false, cond, not, nat_le, inl, inr, List, [], ◌∷◌, ◌++◌, length, take, drop, map, slice_get, Some, None, refl, ap, sym, ◌∙◌, take_all, take_at, drop-drop, length-drop, length-take, length-take-le, length-append, le_refl, le-leb, arith}
use Rattle.std.specs.List.{prefix_len}
use Rattle.std.proofs.Math.Seq.{drop-append-add}
use Rattle.std.proofs.lemmas.Bool.{cases_lt, lt-leb}
use Rattle.std.proofs.lemmas.List.{drop-append-le, drop-take}
use Rattle.std.proofs.lemmas.List.Sums.{prefix_len-le-length}
use Rattle.text_bytes.specs.Lines.{NumberedLine, numbered_lines}
use Rattle.text_bytes.specs.Names.{backslash, is_blank}
use Rattle.text_bytes.specs.Texts.{ends_in}
use Rattle.rule_core.specs.Lines.{is_comment, kept, piece_of, run_text, unindented}
use Rattle.rule_places.specs.Kept.{as_kept, kept_before, kept_from, line_at}
use Rattle.rule_places.specs.Shown.{IsShown, Shows, kept_text}
use Rattle.rule_places.specs.declared.kept.KeptLine.{KeptLine}
use Rattle.rule_places.proofs.Rising.{BeginsFrom, begins}

-- how many lines begin at a place or before it
abbrev begun : List KeptLine → ℕ → ℕ
begun lines at = prefix_len (λ l. nat_le l.start at) lines

none_begun : (lines : List KeptLine) (start at : ℕ) → BeginsFrom start lines → at < start → begun lines at ≡ 0
none_begun [] start at b h = refl
none_begun (x ∷ xs) start at b h =
    let within : 0 < length (x ∷ xs) = omega arith in
    let following : start ≤ x.start = b 0 x within in
    let later : nat_le x.start at ≡ false = lt-leb x.start at (omega arith) in
    ap (λ (c : Bool). cond c (1 + begun xs at) 0) later

-- the first of these lines, if there is one, begins at a place
abbrev FirstAt : ℕ → List KeptLine → Type 0
FirstAt start [] = Unit {0}
FirstAt start (x ∷ xs) = x.start ≡ start

first_at : (start : ℕ) (ls : List NumberedLine) → FirstAt start (kept_from start ls)
first_at start [] = tt
first_at start (l ∷ ls) = by (is_comment (unindented l)) (first_at start ls)
  where
    by : (c : Bool) → FirstAt start (kept_from start ls) → FirstAt start (kept_before start (cond c None (Some (as_kept start l))) (λ n. kept_from n ls))
    by true h = h
    by false h = refl

some_begun : (lines : List KeptLine) (start at m : ℕ) (k : KeptLine) → FirstAt start lines → start ≤ at → slice_get lines m ≡ Some k → 0 < begun lines at
some_begun [] start at m k f h e = cc
some_begun (x ∷ xs) start at m k f h e =
    let now : nat_le x.start at ≡ true = le-leb x.start at (omega arith) in
    let count : begun (x ∷ xs) at ≡ 1 + begun xs at = ap (λ (c : Bool). cond c (1 + begun xs at) 0) now in
    omega (arith, count)

-- the first line, if the next begins after the byte
found_here : (k : KeptLine) (lines : List KeptLine) (start at : ℕ) → k.start ≤ at → BeginsFrom start lines → at < start → line_at (k ∷ lines) at ≡ Some k
found_here k lines start at h b g =
    let now : nat_le k.start at ≡ true = le-leb k.start at h in
    let count : begun (k ∷ lines) at - 1 ≡ 0 = ap (λ (c : Bool). cond c (1 + begun lines at) 0 - 1) now ∙ ap (λ (n : ℕ). 1 + n - 1) (none_begun lines start at b g) in
    ap (slice_get (k ∷ lines)) count

-- a later line
found_after : (k x : KeptLine) (lines : List KeptLine) (start at : ℕ) → k.start ≤ at → FirstAt start lines → start ≤ at → line_at lines at ≡ Some x → line_at (k ∷ lines) at ≡ Some x
found_after k x lines start at h f g e =
    let now : nat_le k.start at ≡ true = le-leb k.start at h in
    let some : 0 < begun lines at = some_begun lines start at (begun lines at - 1) x f g e in
    let one : 1 + begun lines at - 1 ≡ suc (begun lines at - 1) = omega arith in
    let count : begun (k ∷ lines) at - 1 ≡ suc (begun lines at - 1) = ap (λ (c : Bool). cond c (1 + begun lines at) 0 - 1) now ∙ one in
    ap (slice_get (k ∷ lines)) count ∙ e

-- what a line gives is what it begins with after its blanks
first_piece : (text : List ℕ) → take (length (cond (ends_in backslash text) (take (length text - 1) text) text)) text ≡ cond (ends_in backslash text) (take (length text - 1) text) text
first_piece text = by (ends_in backslash text)
  where
    by : (c : Bool) → take (length (cond c (take (length text - 1) text) text)) text ≡ cond c (take (length text - 1) text) text
    by true = ap (λ (n : ℕ). take n text) (length-take-le (length text - 1) text (omega arith))
    by false = take_all (length text) text (le_refl (length text))

after_blanks : (text : List ℕ) (n : ℕ) → n ≤ length text → length text - length (drop n text) + 1 - 1 ≡ n
after_blanks text n h = let e = length-drop n text in omega (arith, e)

-- the bytes of the line from a byte on
same_bytes : (l : NumberedLine) (past : ℕ) (more : List ℕ) → past ≤ length (piece_of (unindented l)).text
    → take (length (piece_of (unindented l)).text - past) (drop (length l.text - length (unindented l).text + 1 - 1 + past) l.text)
    ≡ take (length (piece_of (unindented l)).text - past) (drop past ((piece_of (unindented l)).text ++ more))
same_bytes l past more h =
    let blanks = prefix_len is_blank l.text in
    let written = (unindented l).text in
    let piece = (piece_of (unindented l)).text in
    let rest = length piece - past in
    let whole : past + rest ≡ length piece = omega arith in
    let left : length (drop past piece) ≡ rest = length-drop past piece in
    ap (λ (n : ℕ). take rest (drop (n + past) l.text)) (after_blanks l.text blanks (prefix_len-le-length is_blank l.text))
    ∙ ap (take rest) (sym (drop-drop past blanks l.text))
    ∙ sym (drop-take past rest written)
    ∙ ap (λ (n : ℕ). drop past (take n written)) whole
    ∙ ap (drop past) (first_piece written)
    ∙ sym (take_at (drop past piece) more rest left)
    ∙ ap (take rest) (sym (drop-append-le past piece more h))

-- a line and what is left of it after its blanks end alike
pub ends_alike : (b n : ℕ) (text : List ℕ) → 0 < length (drop n text) → ends_in b (drop n text) ≡ ends_in b text
ends_alike b zero text h = refl
ends_alike b (suc n) [] h = refl
ends_alike b (suc n) (x ∷ []) h = absurd (omega (arith, h, length-drop {A = ℕ} n []))
ends_alike b (suc n) (x ∷ y ∷ text) h = ends_alike b n (y ∷ text) h

-- after its blanks a line has as many bytes for a joined line as the line without its end
ends_same : (l : NumberedLine) → 0 < length (piece_of (unindented l)).text → length l.text - length (unindented l).text + 1 - 1 + length (piece_of (unindented l)).text ≡ length (piece_of l).text
ends_same l h =
    by (ends_in backslash (unindented l).text) (ends_in backslash l.text) h (λ g. ends_alike backslash (prefix_len is_blank l.text) l.text g)
  where
    by : (c d : Bool) → 0 < length (cond c (take (length (unindented l).text - 1) (unindented l).text) (unindented l).text) → (0 < length (unindented l).text → c ≡ d)
        → length l.text - length (unindented l).text + 1 - 1 + length (cond c (take (length (unindented l).text - 1) (unindented l).text) (unindented l).text) ≡ length (cond d (take (length l.text - 1) l.text) l.text)
    by true true g e = omega (arith, g, length-take (length (unindented l).text - 1) (unindented l).text, length-take (length l.text - 1) l.text, length-drop (prefix_len is_blank l.text) l.text)
    by true false g e = absurd (true≢false (e (omega (arith, g, length-take (length (unindented l).text - 1) (unindented l).text))))
    by false true g e = absurd (true≢false (sym (e g)))
    by false false g e = omega (arith, g, length-drop (prefix_len is_blank l.text) l.text)

shown_here : (l : NumberedLine) (ls : List NumberedLine) (start at : ℕ) → start ≤ at → at < start + (as_kept start l).size
    → Shows (as_kept start l ∷ kept_from (start + (as_kept start l).size) ls) ((piece_of (unindented l)).text ++ kept_text ls) (l ∷ ls) start at
shown_here l ls start at h g = record {
  line = l;
  place = as_kept start l;
  among = inl refl;
  number = refl;
  found = found_here (as_kept start l) (kept_from (start + (as_kept start l).size) ls) (start + (as_kept start l).size) at h (begins (start + (as_kept start l).size) ls) g;
  begins = h;
  reaches = g;
  counted = omega arith;
  ends = ends_same l (omega (arith, h, g));
  bytes = same_bytes l (at - start) (kept_text ls) (omega arith);
}

shown_after : (k : KeptLine) (l : NumberedLine) (lines : List KeptLine) (text more : List ℕ) (ls : List NumberedLine) (start at : ℕ) → k.start ≡ start → FirstAt (start + length text) lines → start + length text ≤ at
    → Shows lines more ls (start + length text) at → Shows (k ∷ lines) (text ++ more) (l ∷ ls) start at
shown_after k l lines text more ls start at e f h s =
    let place = s.place in
    let far : at - start ≡ length text + (at - (start + length text)) = omega arith in
    record {
      line = s.line;
      place = s.place;
      among = inr s.among;
      number = s.number;
      found = found_after k s.place lines (start + length text) at (omega arith) f h s.found;
      begins = s.begins;
      reaches = s.reaches;
      counted = s.counted;
      ends = s.ends;
      bytes = s.bytes ∙ ap (take (place.size - (at - place.start))) (sym (drop-append-add text more (at - (start + length text))) ∙ ap (λ (n : ℕ). drop n (text ++ more)) (sym far));
    }

after_comment : (lines : List KeptLine) (text : List ℕ) (l : NumberedLine) (ls : List NumberedLine) (start at : ℕ) → Shows lines text ls start at → Shows lines text (l ∷ ls) start at
after_comment lines text l ls start at s = record { line = s.line; place = s.place; among = inr s.among; number = s.number; found = s.found; begins = s.begins; reaches = s.reaches; counted = s.counted; ends = s.ends; bytes = s.bytes }

shown : (ls : List NumberedLine) (start at : ℕ) → start ≤ at → at < start + length (kept_text ls) → Shows (kept_from start ls) (kept_text ls) ls start at
shown [] start at h g = absurd (omega (arith, h, g))
shown (l ∷ ls) start at h g =
    by (is_comment (unindented l)) g (λ i. shown ls start at h i) (λ i j. shown ls (start + (as_kept start l).size) at i j)
  where
    by : (c : Bool) → at < start + length (run_text (map piece_of (cond (not c) (unindented l ∷ kept ls) (kept ls))))
        → (at < start + length (kept_text ls) → Shows (kept_from start ls) (kept_text ls) ls start at)
        → (start + (as_kept start l).size ≤ at → at < start + (as_kept start l).size + length (kept_text ls) → Shows (kept_from (start + (as_kept start l).size) ls) (kept_text ls) ls (start + (as_kept start l).size) at)
        → Shows (kept_before start (cond c None (Some (as_kept start l))) (λ n. kept_from n ls)) (run_text (map piece_of (cond (not c) (unindented l ∷ kept ls) (kept ls)))) (l ∷ ls) start at
    by true g here following = after_comment (kept_from start ls) (kept_text ls) l ls start at (here g)
    by false g here following = elim (cases_lt at (start + (as_kept start l).size)) [
      | inl near ↦ shown_here l ls start at h near
      | inr far ↦
          let more = length-append (piece_of (unindented l)).text (kept_text ls) in
          shown_after (as_kept start l) l (kept_from (start + (as_kept start l).size) ls) (piece_of (unindented l)).text (kept_text ls) ls start at refl (first_at (start + (as_kept start l).size) ls) far (following far (omega (arith, more, g)))
    ]

pub all_shown : (bytes : List ℕ) (at : ℕ) → at < length (kept_text (numbered_lines bytes)) → IsShown bytes at
all_shown bytes at h = shown (numbered_lines bytes) 0 at (omega arith) (omega (arith, h))
