-- Where a text may be cut, so that its rows are those of both parts.
use Rattle.std.proofs.Common.{◌≡◌, ℕ, zero, suc, ◌<◌, Bool, not, ◌==◌, ◌&&◌, ◌||◌, true, false, cond, List, [], ◌∷◌, ◌++◌, length, take, drop, refl, ap, sym, ◌∙◌, arith, length-append}
use Rattle.std.proofs.lemmas.List.{append-nil, append_cancel_right}
use Rattle.std.proofs.lemmas.List.Folds.{concat-append}
use Rattle.std.specs.List.{concat}
use Rattle.text_bytes.specs.Texts.{begins_with}
use Rattle.text_bytes.specs.Text.{Text}
use Rattle.lsp_messages.specs.Starts.{ends_row}
use Rattle.lsp_messages.specs.Whole.{whole_rows, with_byte}
use Rattle.lsp_messages.proofs.Reaching.{ends_at}

-- whether a row ends between a text and what follows it, if the text is not empty
abbrev pub is_cut : Text → Text → Bool
is_cut [] after = true
is_cut (b ∷ []) after = ends_row b after
is_cut (b ∷ c ∷ text) after = is_cut (c ∷ text) after

with_byte-append : (b : ℕ) (rows more : List Text) → (rows ≡ [] → ⊥) → with_byte b (rows ++ more) ≡ with_byte b rows ++ more
with_byte-append b [] more some = absurd (some refl)
with_byte-append b (row ∷ rows) more some = refl

some_row : (b : ℕ) (v : Bool) (rows : List Text) → cond v ((b ∷ []) ∷ rows) (with_byte b rows) ≡ [] → ⊥
some_row b true rows h = cc
some_row b false [] h = cc
some_row b false (row ∷ rows) h = cc

-- a text that is not empty has a row
some_rows : (b : ℕ) (text : Text) → whole_rows (b ∷ text) ≡ [] → ⊥
some_rows b text h = some_row b (ends_row b text) (whole_rows text) h

-- rows of both parts of a text are those of the text, if a row ends between them
pub join : (front back : Text) → is_cut front back ≡ true → whole_rows (front ++ back) ≡ whole_rows front ++ whole_rows back
join [] back h = refl
join (b ∷ []) back h = ap (λ v. cond v ((b ∷ []) ∷ whole_rows back) (with_byte b (whole_rows back))) h ∙ alone (ends_row b [])
  where
    alone : (v : Bool) → (b ∷ []) ∷ whole_rows back ≡ cond v ((b ∷ []) ∷ []) (with_byte b []) ++ whole_rows back
    alone true = refl
    alone false = refl
join (b ∷ c ∷ front) back h = by (ends_row b (c ∷ front)) (join (c ∷ front) back h)
  where
    by : (v : Bool) → whole_rows ((c ∷ front) ++ back) ≡ whole_rows (c ∷ front) ++ whole_rows back
        → cond v ((b ∷ []) ∷ whole_rows ((c ∷ front) ++ back)) (with_byte b (whole_rows ((c ∷ front) ++ back)))
        ≡ cond v ((b ∷ []) ∷ whole_rows (c ∷ front)) (with_byte b (whole_rows (c ∷ front))) ++ whole_rows back
    by true more = ap (λ rows. (b ∷ []) ∷ rows) more
    by false more = ap (with_byte b) more ∙ with_byte-append b (whole_rows (c ∷ front)) (whole_rows back) (some_rows c front)

-- the rows of a text make it together
pub made : (text : Text) → concat (whole_rows text) ≡ text
made [] = refl
made (b ∷ text) = by (ends_row b text) (whole_rows text) (made text)
  where
    by : (v : Bool) (rows : List Text) → concat rows ≡ text → concat (cond v ((b ∷ []) ∷ rows) (with_byte b rows)) ≡ b ∷ text
    by true rows more = ap (λ t. b ∷ t) more
    by false [] more = ap (λ t. b ∷ t) more
    by false (row ∷ rows) more = ap (λ t. b ∷ t) more

-- no row is empty
pub no_row_empty : (text row : Text) (rows : List Text) → whole_rows text ≡ row ∷ rows → row ≡ [] → ⊥
no_row_empty [] row rows h none = cc
no_row_empty (b ∷ text) row rows h none = by (ends_row b text) (whole_rows text) h
  where
    by : (v : Bool) (more : List Text) → cond v ((b ∷ []) ∷ more) (with_byte b more) ≡ row ∷ rows → ⊥
    by true more h = cc
    by false [] h = cc
    by false (r ∷ more) h = cc

none_after : {X : Type 0} (xs ys : List X) → [] ≡ xs ++ ys → ys ≡ []
none_after [] ys h = sym h
none_after (x ∷ xs) ys h = cc

-- the last rows of a text are those of the text that they make
pub after_whole : (text : Text) (before after : List Text) → whole_rows text ≡ before ++ after → whole_rows (concat after) ≡ after
after_whole text [] after h = ap (λ rows. whole_rows (concat rows)) (sym h) ∙ ap whole_rows (made text) ∙ h
after_whole [] (row ∷ before) after h = cc
after_whole (b ∷ text) (row ∷ before) after h = by (λ rows is. after_whole text rows after is) (ends_row b text) (whole_rows text) refl h
  where
    Shorter : Type 0
    Shorter = (rows : List Text) → whole_rows text ≡ rows ++ after → whole_rows (concat after) ≡ after

    by : Shorter → (v : Bool) (rows : List Text) → whole_rows text ≡ rows → cond v ((b ∷ []) ∷ rows) (with_byte b rows) ≡ row ∷ (before ++ after)
        → whole_rows (concat after) ≡ after
    by shorter true rows is h = shorter before (cc)
    by shorter false [] is h = let none : after ≡ [] = none_after before after (cc) in ap (λ rows. whole_rows (concat rows)) none ∙ sym none
    by shorter false (r ∷ rows) is h = shorter (r ∷ before) (cc)

cut_next : (b : ℕ) (text after : Text) → (text ≡ [] → ends_row b after ≡ true) → is_cut text after ≡ true → is_cut (b ∷ text) after ≡ true
cut_next b [] after here h = here refl
cut_next b (c ∷ text) after here h = h

-- a row ends between the first rows of a text and the last ones
pub cut_there : (text : Text) (before after : List Text) → whole_rows text ≡ before ++ after → 0 < length after → is_cut (concat before) (concat after) ≡ true
cut_there text [] after h some = refl
cut_there [] (row ∷ before) after h some = cc
cut_there (b ∷ text) (row ∷ before) after h some = by (λ rows is. cut_there text rows after is some) (ends_row b text) refl (whole_rows text) refl h
  where
    Shorter : Type 0
    Shorter = (rows : List Text) → whole_rows text ≡ rows ++ after → is_cut (concat rows) (concat after) ≡ true

    by : Shorter → (v : Bool) → ends_row b text ≡ v → (rows : List Text) → whole_rows text ≡ rows → cond v ((b ∷ []) ∷ rows) (with_byte b rows) ≡ row ∷ (before ++ after)
        → is_cut (row ++ concat before) (concat after) ≡ true
    by shorter true ends rows is h =
        let first : row ≡ b ∷ [] = cc in
        let rest : whole_rows text ≡ before ++ after = cc in
        let whole : text ≡ concat before ++ concat after = sym (made text) ∙ ap concat rest ∙ concat-append before after in
        let last : concat before ≡ [] → ends_row b (concat after) ≡ true =
        λ (none : concat before ≡ []). ap (ends_row b) (sym (whole ∙ ap (λ t. t ++ concat after) none)) ∙ ends in
        ap (λ r. is_cut (r ++ concat before) (concat after)) first ∙ cut_next b (concat before) (concat after) last (shorter before rest)
    by shorter false ends [] is h = let none : after ≡ [] = none_after before after (cc) in absurd (omega (arith, ap length none))
    by shorter false ends (r ∷ rows) is h =
        let first : row ≡ b ∷ r = cc in
        let rest : whole_rows text ≡ (r ∷ before) ++ after = cc in
        let full : r ++ concat before ≡ [] → ends_row b (concat after) ≡ true = λ (none : r ++ concat before ≡ []). absurd (no_row_empty text r rows is (empty r (concat before) none)) in
        ap (λ q. is_cut (q ++ concat before) (concat after)) first ∙ cut_next b (r ++ concat before) (concat after) full (shorter (r ∷ before) rest)
      where
        empty : (r s : Text) → r ++ s ≡ [] → r ≡ []
        empty [] s h = refl
        empty (x ∷ r) s h = cc

-- the first rows of a text are those of the text that they make
pub before_whole : (text : Text) (before after : List Text) → whole_rows text ≡ before ++ after → whole_rows (concat before) ≡ before
before_whole text before [] h =
    let all : whole_rows text ≡ before = h ∙ append-nil before in
    ap (λ rows. whole_rows (concat rows)) (sym all) ∙ ap whole_rows (made text) ∙ all
before_whole text before (row ∷ after) h =
    let both = join (concat before) (concat (row ∷ after)) (cut_there text before (row ∷ after) h (omega arith)) in
    let whole : concat before ++ concat (row ∷ after) ≡ text = sym (concat-append before (row ∷ after)) ∙ ap concat (sym h) ∙ made text in
    append_cancel_right (whole_rows (concat before)) before (row ∷ after)
    (ap (λ rows. whole_rows (concat before) ++ rows) (sym (after_whole text before (row ∷ after) h)) ∙ sym both ∙ ap whole_rows whole ∙ h)

-- only the first byte of what follows counts
pub cut_first : (text : Text) (back other : Text) → begins_with 10 back ≡ begins_with 10 other → is_cut text back ≡ true → is_cut text other ≡ true
cut_first [] back other same h = refl
cut_first (b ∷ []) back other same h = ap (λ v. b == 10 || (b == 13 && not v)) (sym same) ∙ h
cut_first (b ∷ c ∷ text) back other same h = cut_first (c ∷ text) back other same h

-- and only the last part of the text
pub cut_last : (front text back : Text) → 0 < length text → is_cut (front ++ text) back ≡ is_cut text back
cut_last [] text back some = refl
cut_last (b ∷ front) text back some = next (front ++ text) (omega (arith, length-append front text)) ∙ cut_last front text back some
  where
    next : (rest : Text) → 0 < length rest → is_cut (b ∷ rest) back ≡ is_cut rest back
    next [] some = absurd (omega arith)
    next (c ∷ rest) some = refl

-- the first row of a text ends where a row ends for the first time
pub row_first : (text : Text) (n : ℕ) → n < length text → ((k : ℕ) → k < n → ends_at text k ≡ false) → ends_at text n ≡ true
    → whole_rows text ≡ take (suc n) text ∷ whole_rows (drop (suc n) text)
row_first [] n h none ends = absurd (omega arith)
row_first (b ∷ text) zero h none ends = ap (λ v. cond v ((b ∷ []) ∷ whole_rows text) (with_byte b (whole_rows text))) ends
row_first (b ∷ text) (suc n) h none ends =
    ap (λ v. cond v ((b ∷ []) ∷ whole_rows text) (with_byte b (whole_rows text))) (none 0 (omega arith))
    ∙ ap (with_byte b) (row_first text n (omega arith) (λ k l. none (suc k) (omega arith)) ends)

-- a text in which no row ends is one row
pub row_only : (text : Text) → 0 < length text → ((k : ℕ) → k < length text → ends_at text k ≡ false) → whole_rows text ≡ text ∷ []
row_only [] some none = absurd (omega arith)
row_only (b ∷ []) some none = ap (λ v. cond v ((b ∷ []) ∷ []) ((b ∷ []) ∷ [])) (none 0 (omega arith))
row_only (b ∷ c ∷ text) some none =
    ap (λ v. cond v ((b ∷ []) ∷ whole_rows (c ∷ text)) (with_byte b (whole_rows (c ∷ text)))) (none 0 (omega arith))
    ∙ ap (with_byte b) (row_only (c ∷ text) (omega arith) (λ k l. none (suc k) (omega arith)))
