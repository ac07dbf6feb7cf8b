-- Places by the rows of a text.
use Rattle.std.proofs.Common.{◌≡◌, ℕ, zero, suc, ◌+◌, ◌<◌, ◌≤◌, Bool, true, false, cond, List, [], ◌∷◌, ◌++◌, length, take, drop, get_or, refl, ap, sym, ◌∙◌, arith, length-append}
use Rattle.std.proofs.Math.Seq.{drop-append-add}
use Rattle.std.proofs.lemmas.List.{append-nil, take-append-drop}
use Rattle.std.proofs.lemmas.List.Folds.{length-prefix_len}
use Rattle.std.proofs.lemmas.List.Sums.{prefix_len-le-length, take_while-cons}
use Rattle.std.specs.List.{concat, prefix_len, take_while}
use Rattle.text_bytes.specs.Text.{Text}
use Rattle.lsp_messages.specs.Rows.{is_inside, offset_of, row_at, start_of}
use Rattle.lsp_messages.specs.Starts.{ends_row, starts, starts_from}
use Rattle.lsp_messages.specs.Units.{fitting}
use Rattle.lsp_messages.specs.Whole.{whole_rows, with_byte}
use Rattle.lsp_messages.specs.declared.counting.Encoding.{Encoding}
use Rattle.lsp_messages.specs.declared.rows.Position.{Position}
use Rattle.lsp_messages.proofs.Cutting.{after_whole, cut_there, is_cut, made, no_row_empty}
use Rattle.lsp_messages.proofs.Fits.{fits_within}

-- how many bytes so many of some rows have
abbrev pub reach : ℕ → List Text → ℕ
reach zero rows = 0
reach (suc n) [] = 0
reach (suc n) (row ∷ rows) = length row + reach n rows

-- the first of some rows, without its end
abbrev pub inside_first : List Text → Text
inside_first [] = []
inside_first (row ∷ rows) = take_while is_inside row

-- the place that a position names in the text of some rows
abbrev pub place : Encoding → List Text → ℕ → ℕ → ℕ
place e [] line n = 0
place e (row ∷ rows) zero n = fitting e n (take_while is_inside row)
place e (row ∷ rows) (suc line) n = length row + place e rows line n

starts_reach : (at : ℕ) (text : Text) (k : ℕ) → get_or (starts_from at text) k (at + length text) ≡ at + reach (suc k) (whole_rows text)
starts_reach at [] k = refl
starts_reach at (b ∷ text) k = by (ends_row b text) (whole_rows text) k (λ k. starts_reach (suc at) text k)
  where
    size : at + length (b ∷ text) ≡ suc at + length text
    size = omega arith

    by : (v : Bool) (rows : List Text) (k : ℕ) → ((k : ℕ) → get_or (starts_from (suc at) text) k (suc at + length text) ≡ suc at + reach (suc k) rows)
        → get_or (cond v (suc at ∷ starts_from (suc at) text) (starts_from (suc at) text)) k (at + length (b ∷ text)) ≡ at + reach (suc k) (cond v ((b ∷ []) ∷ rows) (with_byte b rows))
    by true rows zero more = omega arith
    by true rows (suc k) more = let there = more k in ap (get_or (starts_from (suc at) text) k) size ∙ there ∙ omega arith
    by false [] k more = let there = more k in ap (get_or (starts_from (suc at) text) k) size ∙ there ∙ none k
      where
        none : (k : ℕ) → suc at + 0 ≡ at + (1 + reach k [])
        none zero = omega arith
        none (suc k) = omega arith
    by false (row ∷ rows) k more = let there = more k in ap (get_or (starts_from (suc at) text) k) size ∙ there ∙ omega arith

start_reach : (text : Text) (line : ℕ) → start_of text line ≡ reach line (whole_rows text)
start_reach text zero = refl
start_reach text (suc k) = let there = starts_reach 0 text k in let none : 0 + length text ≡ length text = omega arith in
    ap (get_or (starts text) k) (sym none) ∙ there ∙ omega arith

drop_reach : (n : ℕ) (rows : List Text) → drop (reach n rows) (concat rows) ≡ concat (drop n rows)
drop_reach zero rows = refl
drop_reach (suc n) [] = refl
drop_reach (suc n) (row ∷ rows) = drop-append-add row (concat rows) (reach n rows) ∙ drop_reach n rows

ends_outside : (b : ℕ) (text : Text) → ends_row b text ≡ true → is_inside b ≡ false
ends_outside b text h = grind arith

-- the inside of the first row
first_inside : (text : Text) → take_while is_inside text ≡ inside_first (whole_rows text)
first_inside [] = refl
first_inside (b ∷ text) = take_while-cons is_inside b text ∙ by (ends_row b text) refl (whole_rows text) (first_inside text)
  where
    by : (v : Bool) → ends_row b text ≡ v → (rows : List Text) → take_while is_inside text ≡ inside_first rows
        → cond (is_inside b) (b ∷ take_while is_inside text) [] ≡ inside_first (cond v ((b ∷ []) ∷ rows) (with_byte b rows))
    by true ends rows more =
        let outside = ends_outside b text ends in
        ap (λ v. cond v (b ∷ take_while is_inside text) []) outside ∙ sym (take_while-cons is_inside b [] ∙ ap (λ v. cond v (b ∷ take_while is_inside []) []) outside)
    by false ends [] more = ap (λ t. cond (is_inside b) (b ∷ t) []) more ∙ sym (take_while-cons is_inside b [])
    by false ends (row ∷ rows) more = ap (λ t. cond (is_inside b) (b ∷ t) []) more ∙ sym (take_while-cons is_inside b row)

place_split : (e : Encoding) (n line : ℕ) (rows : List Text) → reach line rows + fitting e n (inside_first (drop line rows)) ≡ place e rows line n
place_split e n zero [] = omega arith
place_split e n zero (row ∷ rows) = omega arith
place_split e n (suc line) [] = omega arith
place_split e n (suc line) (row ∷ rows) = let more = place_split e n line rows in omega (arith, more)

-- a position names the same place in the text as in its rows
pub offset_place : (e : Encoding) (text : Text) (position : Position) → offset_of e text position ≡ place e (whole_rows text) position.line position.character
offset_place e text position =
    let line : ℕ = position.line in
    let rows : List Text = whole_rows text in
    let start : start_of text line ≡ reach line rows = start_reach text line in
    let rest : drop (reach line rows) text ≡ concat (drop line rows) = ap (drop (reach line rows)) (sym (made text)) ∙ drop_reach line rows in
    let own : whole_rows (concat (drop line rows)) ≡ drop line rows = after_whole text (take line rows) (drop line rows) (sym (take-append-drop line rows)) in
    let row : row_at text (reach line rows) ≡ inside_first (drop line rows) = ap (take_while is_inside) rest ∙ first_inside (concat (drop line rows)) ∙ ap inside_first own in
    ap (λ s. s + fitting e position.character (row_at text s)) start ∙ ap (λ r. reach line rows + fitting e position.character r) row ∙ place_split e position.character line rows

-- after some rows
pub place_later : (e : Encoding) (n line : ℕ) (before after : List Text) → place e (before ++ after) (length before + line) n ≡ length (concat before) + place e after line n
place_later e n line [] after = let none : 0 + line ≡ line = omega arith in ap (λ k. place e after k n) none ∙ omega arith
place_later e n line (row ∷ before) after =
    let more = place_later e n line before after in
    let size = length-append row (concat before) in
    let next : length (row ∷ before) + line ≡ suc (length before + line) = omega arith in
    ap (λ k. place e ((row ∷ before) ++ after) k n) next ∙ omega (arith, more, size)

-- among the first rows
pub place_before : (e : Encoding) (n line : ℕ) (before after : List Text) → line < length before → place e (before ++ after) line n ≡ place e before line n
place_before e n line [] after h = absurd (omega arith)
place_before e n zero (row ∷ before) after h = refl
place_before e n (suc line) (row ∷ before) after h = ap (λ k. length row + k) (place_before e n line before after (omega arith))

inside_most : (e : Encoding) (n : ℕ) (row : Text) → fitting e n (take_while is_inside row) ≤ prefix_len is_inside row
inside_most e n row =
    let within = fits_within e n (take_while is_inside row) in
    let len = length-prefix_len is_inside row in
    omega (arith, within, len)

row_most : (e : Encoding) (n : ℕ) (row : Text) → fitting e n (take_while is_inside row) ≤ length row
row_most e n row = let within = inside_most e n row in let most = prefix_len-le-length is_inside row in omega (arith, within, most)

-- not past the text
pub place_most : (e : Encoding) (n line : ℕ) (rows : List Text) → place e rows line n ≤ length (concat rows)
place_most e n line [] = omega arith
place_most e n zero (row ∷ rows) = let within = row_most e n row in let size = length-append row (concat rows) in omega (arith, within, size)
place_most e n (suc line) (row ∷ rows) = let more = place_most e n line rows in let size = length-append row (concat rows) in omega (arith, more, size)

-- a place in the first row is not after one in a later row
pub place_first : (e : Encoding) (n m line : ℕ) (rows : List Text) → place e rows 0 n ≤ place e rows (suc line) m
place_first e n m line [] = omega arith
place_first e n m line (row ∷ rows) = let within = row_most e n row in omega (arith, within)

-- a place in a later row is not the start of the text
pub place_some : (e : Encoding) (n line : ℕ) (text : Text) (rows : List Text) → whole_rows text ≡ rows → 0 < length rows → 0 < line → 0 < place e rows line n
place_some e n line text [] is some later = absurd (omega arith)
place_some e n zero text (row ∷ rows) is some later = absurd (omega arith)
place_some e n (suc line) text ([] ∷ rows) is some later = absurd (no_row_empty text [] rows is refl)
place_some e n (suc line) text ((b ∷ row) ∷ rows) is some later = omega arith

cut_outside : (row after : Text) → 0 < length row → is_cut row after ≡ true → prefix_len is_inside row < length row
cut_outside [] after some h = absurd (omega arith)
cut_outside (b ∷ []) after some h = let outside = ends_outside b after h in rw outside (omega arith)
cut_outside (b ∷ c ∷ row) after some h = by (is_inside b) (cut_outside (c ∷ row) after (omega arith) h)
  where
    by : (v : Bool) → prefix_len is_inside (c ∷ row) < length (c ∷ row) → cond v (1 + prefix_len is_inside (c ∷ row)) 0 < length (b ∷ c ∷ row)
    by true more = omega arith
    by false more = omega arith

-- a row that others follow has an end, before which its places are
row_short : (e : Encoding) (n : ℕ) (text row : Text) (rows : List Text) → whole_rows text ≡ row ∷ rows → 0 < length rows → fitting e n (take_while is_inside row) < length row
row_short e n text [] rows is some = absurd (no_row_empty text [] rows is refl)
row_short e n text (b ∷ row) rows is some =
    let ends : is_cut ((b ∷ row) ++ []) (concat rows) ≡ true = cut_there text ((b ∷ row) ∷ []) rows is some in
    let short = cut_outside (b ∷ row) (concat rows) (omega arith) (ap (λ r. is_cut r (concat rows)) (sym (append-nil (b ∷ row))) ∙ ends) in
    let within = inside_most e n (b ∷ row) in
    omega (arith, short, within)

-- so places in rows that others follow are before the end of their text
pub place_short : (e : Encoding) (n line : ℕ) (text : Text) (before after : List Text) → whole_rows text ≡ before ++ after → 0 < length after → line < length before
    → place e before line n < length (concat before)
place_short e n line text [] after is some within = absurd (omega arith)
place_short e n zero text (row ∷ before) after is some within =
    let short = row_short e n text row (before ++ after) is (omega (arith, length-append before after)) in
    let size = length-append row (concat before) in
    omega (arith, short, size)
place_short e n (suc line) text (row ∷ before) after is some within =
    let more = place_short e n line (concat (before ++ after)) before after (after_whole text (row ∷ []) (before ++ after) is) some (omega arith) in
    let size = length-append row (concat before) in
    omega (arith, more, size)
