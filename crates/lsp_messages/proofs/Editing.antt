-- A change of some rows of a text is a change of the text.
use Rattle.std.proofs.Common.{◌≡◌, ℕ, zero, suc, ◌+◌, ◌-◌, ◌<◌, ◌≤◌, max, min, Bool, true, false, List, [], ◌∷◌, ◌++◌, Some, length, take, drop, reverse, nat_le, refl, ap, sym, subst, ◌∙◌, arith, append_assoc, length-drop, length-take}
use Rattle.std.proofs.Math.Seq.{drop-append-add, take-append-add}
use Rattle.std.proofs.lemmas.List.{append-nil, drop-append-le, take-append-drop, take-append-le}
use Rattle.std.proofs.lemmas.List.Folds.{concat-append}
use Rattle.std.specs.List.{concat}
use Rattle.text_bytes.specs.Texts.{begins_with}
use Rattle.text_bytes.specs.Text.{Text}
use Rattle.lsp_messages.specs.TextChanges.{changed, replaced}
use Rattle.lsp_messages.specs.Rows.{offset_of}
use Rattle.lsp_messages.specs.Whole.{AreWhole, whole_rows}
use Rattle.lsp_messages.specs.declared.counting.Encoding.{Encoding}
use Rattle.lsp_messages.specs.declared.rows.Position.{Position}
use Rattle.lsp_messages.proofs.Cutting.{after_whole, before_whole, cut_first, cut_last, cut_there, is_cut, join, made}
use Rattle.lsp_messages.proofs.Placing.{offset_place, place, place_before, place_first, place_later, place_most, place_short, place_some}

-- Rows that are changed, between others: they reach from the row before the change to its last one.
pub record Between (before touched after : List Text) (start end : ℕ) : Type 0 where
  pub whole : whole_rows (concat (before ++ (touched ++ after))) ≡ before ++ (touched ++ after)
  pub starts : length before ≤ start
  pub later : 0 < length before → (length before < start) × (0 < length touched)
  pub reaches : 0 < length after → (start - length before < length touched) × (end - length before < length touched)

-- in the rows that are touched a place is as far from their start
same_place : (e : Encoding) (before touched after : List Text) (line n : ℕ) → length before ≤ line → (0 < length after → line - length before < length touched)
    → place e (before ++ (touched ++ after)) line n ≡ length (concat before) + place e touched (line - length before) n
same_place e before touched after line n from within =
    let same : line ≡ length before + (line - length before) = omega arith in
    ap (λ k. place e (before ++ (touched ++ after)) k n) same
    ∙ place_later e n (line - length before) before (touched ++ after)
    ∙ ap (λ k. length (concat before) + k) (among after within)
  where
    among : (after : List Text) → (0 < length after → line - length before < length touched) → place e (touched ++ after) (line - length before) n ≡ place e touched (line - length before) n
    among [] within = ap (λ rows. place e rows (line - length before) n) (append-nil touched)
    among (row ∷ after) within = place_before e n (line - length before) touched (row ∷ after) (within (omega arith))

-- and so is the greater one of the places of a range
same_end : (e : Encoding) (before touched after : List Text) (start end n m : ℕ) → Between before touched after start end
    → max (place e (before ++ (touched ++ after)) start n) (place e (before ++ (touched ++ after)) end m)
    ≡ length (concat before) + max (place e touched (start - length before) n) (place e touched (end - length before) m)
same_end e before touched after start end n m b = by (nat_le (length before) end) refl
  where
    from : place e (before ++ (touched ++ after)) start n ≡ length (concat before) + place e touched (start - length before) n
    from = same_place e before touched after start n b.starts (λ some. (b.reaches some).0)

    by : (v : Bool) → nat_le (length before) end ≡ v → max (place e (before ++ (touched ++ after)) start n) (place e (before ++ (touched ++ after)) end m)
        ≡ length (concat before) + max (place e touched (start - length before) n) (place e touched (end - length before) m)
    by true is =
        let to = same_place e before touched after end m (grind arith) (λ some. (b.reaches some).1) in
        omega (arith, from, to)
    by false is =
        let early : end < length before = grind arith in
        let ahead = place_before e m end before (touched ++ after) early in
        let most = place_most e m end before in
        let none : end - length before ≡ 0 = omega arith in
        let there = b.later (omega (arith, early)) in
        let some : start - length before ≡ suc (start - length before - 1) = omega (arith, there.0) in
        let first : place e touched (end - length before) m ≤ place e touched (start - length before) n =
        rw (none, some) (place_first e m n (start - length before - 1) touched) in
        omega (arith, from, ahead, most, first)

-- the text after the change
same_text : (a t c new : Text) (from to first last : ℕ) → from ≡ length a + first → max from to ≡ length a + last → first ≤ length t → last ≤ length t
    → replaced (a ++ (t ++ c)) from to new ≡ (a ++ ((take first t ++ new) ++ drop last t)) ++ c
same_text a t c new from to first last is ends f l =
    let front : take from (a ++ (t ++ c)) ≡ a ++ take first t =
    ap (λ n. take n (a ++ (t ++ c))) is ∙ take-append-add a (t ++ c) first ∙ ap (λ s. a ++ s) (take-append-le first t c f) in
    let back : drop (max from to) (a ++ (t ++ c)) ≡ drop last t ++ c =
    ap (λ n. drop n (a ++ (t ++ c))) ends ∙ drop-append-add a (t ++ c) last ∙ drop-append-le last t c l in
    ap (λ s. (s ++ new) ++ drop (max from to) (a ++ (t ++ c))) front ∙ ap (λ s. ((a ++ take first t) ++ new) ++ s) back ∙ simp append_assoc

first_kept : (n : ℕ) (text new more after : Text) → 0 < n → 0 < length text → begins_with 10 (text ++ after) ≡ begins_with 10 (((take n text ++ new) ++ more) ++ after)
first_kept zero text new more after some full = absurd (omega arith)
first_kept (suc n) [] new more after some full = absurd (omega arith)
first_kept (suc n) (b ∷ text) new more after some full = refl

-- the rows of the text after the change
same_rows : (before touched after : List Text) (new : Text) (first last : ℕ) → whole_rows (concat (before ++ (touched ++ after))) ≡ before ++ (touched ++ after)
    → (0 < length before → (0 < first) × (0 < length (concat touched))) → (0 < length after → last < length (concat touched))
    → whole_rows ((concat before ++ ((take first (concat touched) ++ new) ++ drop last (concat touched))) ++ concat after)
    ≡ (before ++ whole_rows ((take first (concat touched) ++ new) ++ drop last (concat touched))) ++ after
same_rows before touched after new first last whole kept ends =
    ap whole_rows (append_assoc (concat before) changed (concat after))
    ∙ join (concat before) (changed ++ concat after) (front before whole kept)
    ∙ ap (λ rows. rows ++ whole_rows (changed ++ concat after)) (before_whole (concat (before ++ (touched ++ after))) before (touched ++ after) whole)
    ∙ ap (λ rows. before ++ rows) (back after whole ends)
    ∙ sym (append_assoc before (whole_rows changed) after)
  where
    text : Text
    text = concat touched

    changed : Text
    changed = (take first text ++ new) ++ drop last text

    front : (before : List Text) → whole_rows (concat (before ++ (touched ++ after))) ≡ before ++ (touched ++ after) → (0 < length before → (0 < first) × (0 < length text))
        → is_cut (concat before) (changed ++ concat after) ≡ true
    front [] whole kept = refl
    front (row ∷ before) whole kept =
        let there = kept (omega arith) in
        let some : 0 < length (touched ++ after) = filled touched there.1 in
        let same : begins_with 10 (concat (touched ++ after)) ≡ begins_with 10 (changed ++ concat after) =
        ap (begins_with 10) (concat-append touched after) ∙ first_kept first text new (drop last text) (concat after) there.0 there.1 in
        cut_first (concat (row ∷ before)) (concat (touched ++ after)) (changed ++ concat after) same (cut_there (concat ((row ∷ before) ++ (touched ++ after))) (row ∷ before) (touched ++ after) whole some)
      where
        filled : (touched : List Text) → 0 < length (concat touched) → 0 < length (touched ++ after)
        filled [] h = absurd (omega arith)
        filled (row ∷ touched) h = omega arith

    back : (after : List Text) → whole_rows (concat (before ++ (touched ++ after))) ≡ before ++ (touched ++ after) → (0 < length after → last < length text)
        → whole_rows (changed ++ concat after) ≡ whole_rows changed ++ after
    back [] whole ends = ap whole_rows (append-nil changed) ∙ sym (append-nil (whole_rows changed))
    back (row ∷ after) whole ends =
        let some : last < length text = ends (omega arith) in
        let left = length-drop last text in
        let own : whole_rows (concat (touched ++ (row ∷ after))) ≡ touched ++ (row ∷ after) = after_whole (concat (before ++ (touched ++ (row ∷ after)))) before (touched ++ (row ∷ after)) whole in
        let there : is_cut text (concat (row ∷ after)) ≡ true = cut_there (concat (touched ++ (row ∷ after))) touched (row ∷ after) own (omega arith) in
        let parts : take last text ++ drop last text ≡ text = take-append-drop last text in
        let rest : is_cut (drop last text) (concat (row ∷ after)) ≡ true =
        sym (cut_last (take last text) (drop last text) (concat (row ∷ after)) (omega (arith, left, some))) ∙ ap (λ t. is_cut t (concat (row ∷ after))) parts ∙ there in
        let cut : is_cut changed (concat (row ∷ after)) ≡ true = cut_last (take first text ++ new) (drop last text) (concat (row ∷ after)) (omega (arith, left, some)) ∙ rest in
        join changed (concat (row ∷ after)) cut ∙ ap (λ rows. whole_rows changed ++ rows) (after_whole (concat (touched ++ (row ∷ after))) touched (row ∷ after) own)

-- a position in the text that begins so many rows later
abbrev pub later : Position → ℕ → Position
later position rows = record { line = position.line - rows; character = position.character }

-- the text of some rows after a change, which is said in positions of the whole text
abbrev pub changed_rows : Encoding → (before touched : List Text) → (start end : Position) → Text → Text
changed_rows e before touched start end new =
    changed e (concat touched) (record { range = Some (later start (length before), later end (length before)); text = new })

-- The rows after a change of those that are touched are rows, and make the text after the change.
pub record Edits (e : Encoding) (before touched after : List Text) (start end : Position) (new : Text) : Type 0 where
  pub whole : AreWhole ((before ++ whole_rows (changed_rows e before touched start end new)) ++ after)
  pub text : concat ((before ++ whole_rows (changed_rows e before touched start end new)) ++ after)
      ≡ changed e (concat (before ++ (touched ++ after))) (record { range = Some (start, end); text = new })

pub edits : (e : Encoding) (before touched after : List Text) (start end : Position) (new : Text) → Between before touched after start.line end.line
    → Edits e before touched after start end new
edits e before touched after start end new b = record {
  whole = ap whole_rows all ∙ rows;
  text = all ∙ sym text;
}
  where
    own : whole_rows (concat touched) ≡ touched
    own = before_whole (concat (touched ++ after)) touched after (after_whole (concat (before ++ (touched ++ after))) before (touched ++ after) b.whole)

    first : ℕ
    first = offset_of e (concat touched) (later start (length before))

    last : ℕ
    last = max first (offset_of e (concat touched) (later end (length before)))

    first_is : first ≡ place e touched (start.line - length before) start.character
    first_is = offset_place e (concat touched) (later start (length before)) ∙ ap (λ rows. place e rows (start.line - length before) start.character) own

    end_is : offset_of e (concat touched) (later end (length before)) ≡ place e touched (end.line - length before) end.character
    end_is = offset_place e (concat touched) (later end (length before)) ∙ ap (λ rows. place e rows (end.line - length before) end.character) own

    whole_place : (p : Position) → offset_of e (concat (before ++ (touched ++ after))) p ≡ place e (before ++ (touched ++ after)) p.line p.character
    whole_place p = offset_place e (concat (before ++ (touched ++ after))) p ∙ ap (λ rows. place e rows p.line p.character) b.whole

    from : offset_of e (concat (before ++ (touched ++ after))) start ≡ length (concat before) + first
    from =
        let there = same_place e before touched after start.line start.character b.starts (λ some. (b.reaches some).0) in
        omega (arith, there, first_is, whole_place start)

    to : max (offset_of e (concat (before ++ (touched ++ after))) start) (offset_of e (concat (before ++ (touched ++ after))) end) ≡ length (concat before) + last
    to =
        let there = same_end e before touched after start.line end.line start.character end.character b in
        omega (arith, there, first_is, end_is, whole_place start, whole_place end)

    first_most : first ≤ length (concat touched)
    first_most = let most = place_most e start.character (start.line - length before) touched in omega (arith, most, first_is)

    last_most : last ≤ length (concat touched)
    last_most = let most = place_most e end.character (end.line - length before) touched in omega (arith, most, first_most, end_is)

    result : Text
    result = (take first (concat touched) ++ new) ++ drop last (concat touched)

    all : concat ((before ++ whole_rows result) ++ after) ≡ (concat before ++ result) ++ concat after
    all = concat-append (before ++ whole_rows result) after ∙ ap (λ t. t ++ concat after) (concat-append before (whole_rows result) ∙ ap (λ t. concat before ++ t) (made result))

    parts : concat (before ++ (touched ++ after)) ≡ concat before ++ (concat touched ++ concat after)
    parts = concat-append before (touched ++ after) ∙ ap (λ t. concat before ++ t) (concat-append touched after)

    text : changed e (concat (before ++ (touched ++ after))) (record { range = Some (start, end); text = new }) ≡ (concat before ++ result) ++ concat after
    text =
        ap (λ t. replaced t (offset_of e (concat (before ++ (touched ++ after))) start) (offset_of e (concat (before ++ (touched ++ after))) end) new) parts
        ∙ same_text (concat before) (concat touched) (concat after) new _ _ first last from to first_most last_most

    kept : 0 < length before → (0 < first) × (0 < length (concat touched))
    kept some =
        let there = b.later some in
        let far = place_some e start.character (start.line - length before) (concat touched) touched own there.1 (omega (arith, there.0)) in
        (omega (arith, far, first_is), omega (arith, far, first_is, first_most))

    ends : 0 < length after → last < length (concat touched)
    ends some =
        let there = b.reaches some in
        let rest = after_whole (concat (before ++ (touched ++ after))) before (touched ++ after) b.whole in
        let near = place_short e start.character (start.line - length before) (concat (touched ++ after)) touched after rest some there.0 in
        let far = place_short e end.character (end.line - length before) (concat (touched ++ after)) touched after rest some there.1 in
        omega (arith, near, far, first_is, end_is)

    rows : whole_rows ((concat before ++ result) ++ concat after) ≡ (before ++ whole_rows result) ++ after
    rows = same_rows before touched after new first last b.whole kept ends

parts_make : (rows : List Text) (first count : ℕ) → take first rows ++ (take count (drop first rows) ++ drop count (drop first rows)) ≡ rows
parts_make rows first count = ap (λ rs. take first rows ++ rs) (take-append-drop count (drop first rows)) ∙ take-append-drop first rows

-- Rows from the one before a change to its last one are between the others.
between : (rows : List Text) (first count start end : ℕ) → AreWhole rows → first ≡ min start (length rows) - 1 → count ≡ max start end + 1 - first
    → Between (take first rows) (take count (drop first rows)) (drop count (drop first rows)) start end
between rows first count start end whole from all = record {
  whole = ap (λ rs. whole_rows (concat rs)) (parts_make rows first count) ∙ whole ∙ sym (parts_make rows first count);
  starts = omega (arith, front, from);
  later = λ some. (omega (arith, front, from, some), omega (arith, front, from, all, some, rest, middle));
  reaches = λ some. (omega (arith, front, from, all, some, rest, middle, back), omega (arith, front, from, all, some, rest, middle, back));
}
  where
    front : length (take first rows) ≡ min first (length rows)
    front = length-take first rows

    rest : length (drop first rows) ≡ length rows - first
    rest = length-drop first rows

    middle : length (take count (drop first rows)) ≡ min count (length (drop first rows))
    middle = length-take count (drop first rows)

    back : length (drop count (drop first rows)) ≡ length (drop first rows) - count
    back = length-drop count (drop first rows)

-- Rows and the text that they make, after a change of the text in a range.
pub record Replaced (e : Encoding) (rows others : List Text) (start end : Position) (new : Text) : Type 0 where
  pub whole : AreWhole others
  pub text : concat others ≡ changed e (concat rows) (record { range = Some (start, end); text = new })

-- the rows after a change: those before it, those of the text that is cut anew, and those after it
pub all_edited : (e : Encoding) (rows : List Text) (first count : ℕ) (start end : Position) (new : Text) → AreWhole rows
    → first ≡ min start.line (length rows) - 1 → count ≡ max start.line end.line + 1 - first
    → (before rest after pushed : List Text) (touched made : Text) (from to : Position) → before ≡ take first rows → reverse rest ≡ drop first rows
    → touched ≡ concat (take count (reverse rest)) → reverse after ≡ drop count (reverse rest)
    → from ≡ later start first → to ≡ later end first → made ≡ changed e touched (record { range = Some (from, to); text = new })
    → pushed ≡ before ++ whole_rows made → Replaced e rows (pushed ++ reverse after) start end new
all_edited e rows first count start end new whole starts ends before rest after pushed touched made from to front left middle back from_is to_is is all =
    let b = between rows first count start.line end.line whole starts ends in
    let edit = edits e (take first rows) (take count (drop first rows)) (drop count (drop first rows)) start end new b in
    let same : first ≡ length (take first rows) = omega (arith, length-take first rows, starts) in
    let new_rows : made ≡ changed_rows e (take first rows) (take count (drop first rows)) start end new =
    is ∙ ap (λ t. changed e t (record { range = Some (from, to); text = new })) (middle ∙ ap (λ rs. concat (take count rs)) left)
    ∙ ap (λ p. changed e (concat (take count (drop first rows))) (record { range = Some (p, to); text = new })) from_is
    ∙ ap (λ p. changed e (concat (take count (drop first rows))) (record { range = Some (later start first, p); text = new })) to_is
    ∙ ap (λ n. changed e (concat (take count (drop first rows))) (record { range = Some (later start n, later end n); text = new })) same in
    let those : pushed ++ reverse after
    ≡ (take first rows ++ whole_rows (changed_rows e (take first rows) (take count (drop first rows)) start end new)) ++ drop count (drop first rows) =
    ap (λ rs. rs ++ reverse after) (all ∙ ap (λ rs. rs ++ whole_rows made) front ∙ ap (λ t. take first rows ++ whole_rows t) new_rows)
    ∙ ap (λ rs. (take first rows ++ whole_rows (changed_rows e (take first rows) (take count (drop first rows)) start end new)) ++ rs)
    (back ∙ ap (drop count) left) in
    record {
      whole = subst AreWhole (sym those) edit.whole;
      text = ap concat those ∙ edit.text
          ∙ ap (λ rs. changed e (concat rs) (record { range = Some (start, end); text = new })) (parts_make rows first count);
    }
