-- Positions and the places that they name.
use Rattle.std.proofs.Common.{◌≡◌, ℕ, zero, suc, ◌+◌, ◌-◌, ◌<◌, ◌≤◌, Bool, true, false, cond, not, ◌==◌, ◌&&◌, ◌||◌, [], ◌∷◌, length, drop, take, get_or, nat_le, nat_lt, refl, ap, sym, ◌∙◌, arith, true≢false}
use Rattle.std.proofs.lemmas.List.{get_or-drop, get_or-take, get_or_past, length-drop, length-take}
use Rattle.std.proofs.lemmas.List.Folds.{length-prefix_len}
use Rattle.std.proofs.lemmas.List.Sums.{count_by-le-length, prefix_len-le-length, prefix_len_passes, prefix_len_stops}
use Rattle.std.specs.List.{prefix_len}
use Rattle.text_bytes.specs.Numbers.{capped}
use Rattle.text_bytes.specs.Texts.{begins_with}
use Rattle.text_bytes.specs.Text.{Text}
use Rattle.lsp_messages.specs.Places.{IsPlace}
use Rattle.lsp_messages.specs.Rows.{is_inside, line_of, offset_of, position_of, row_at, start_of}
use Rattle.lsp_messages.specs.Starts.{ends_row, starts, starts_from}
use Rattle.lsp_messages.specs.Units.{fitting, is_within, units}
use Rattle.lsp_messages.specs.declared.counting.Encoding.{Encoding}
use Rattle.lsp_messages.specs.declared.rows.Position.{Position}
use Rattle.lsp_messages.proofs.Fits.{fits_back, fits_whole, fits_within, units_few}
use Rattle.lsp_messages.proofs.Reaching.{Reaches, begins_at, ends_at, inside_by, reaches, start_ends}
use Rattle.lsp_messages.proofs.Starting.{starts_within}

-- how long a row is
row_len : (text : Text) (start : ℕ) → length (row_at text start) ≡ prefix_len is_inside (drop start text)
row_len text start = length-prefix_len is_inside (drop start text)

-- a byte of a row is that of the text
row_byte : (text : Text) (start n : ℕ) → n < length (row_at text start) → get_or (row_at text start) n 0 ≡ get_or text (start + n) 0
row_byte text start n l =
    let len = row_len text start in
    let within : n < prefix_len is_inside (drop start text) = omega (arith, len) in
    get_or-take (prefix_len is_inside (drop start text)) (drop start text) n 0 within ∙ get_or-drop start text n 0

-- and it is none of the row's end
row_inside : (text : Text) (start n : ℕ) → n < length (row_at text start) → is_inside (get_or text (start + n) 0) ≡ true
row_inside text start n l =
    let len = row_len text start in
    ap is_inside (sym (get_or-drop start text n 0)) ∙ prefix_len_passes is_inside (drop start text) n 0 (omega (arith, len))

-- a row's end follows it, unless the text ends
row_stops : (text : Text) (start : ℕ) → start + length (row_at text start) < length text → is_inside (get_or text (start + length (row_at text start)) 0) ≡ false
row_stops text start l =
    let len = row_len text start in
    let left = length-drop start text in
    ap (λ n. is_inside (get_or text (start + n) 0)) len
    ∙ ap is_inside (sym (get_or-drop start text (prefix_len is_inside (drop start text)) 0))
    ∙ prefix_len_stops is_inside (drop start text) 0 (omega (arith, len, left))

ends_newline : (y : ℕ) (text : Text) → y ≡ 10 → ends_row y text ≡ true
ends_newline y text h = rw h refl

-- between the start of a row and a place in it there is no byte of its end
run_inside : (text : Text) (start offset : ℕ) → IsPlace text offset → Reaches 0 0 offset text start → (k : ℕ) → start ≤ k → k < offset → is_inside (get_or text k 0) ≡ true
run_inside text start offset place r k s l =
    inside_by (get_or text k 0) (get_or text (suc k) 0) (begins_with 10 (drop (suc k) text)) (begins_at 10 text (suc k) (omega arith)) (at k s l) (by (nat_lt (suc k) offset) refl)
  where
    at : (k : ℕ) → start ≤ k → k < offset → ends_at text k ≡ false
    at k s l = let same : k ≡ k - 0 = omega arith in ap (ends_at text) same ∙ r.none k s (omega arith) l

    by : (b : Bool) → nat_lt (suc k) offset ≡ b → get_or text k 0 ≡ 13 → get_or text (suc k) 0 ≡ 10 → ⊥
    by true is return newline =
        let next : suc k < offset = grind arith in
        true≢false (sym (ends_newline (get_or text (suc k) 0) (drop (suc (suc k)) text) newline) ∙ at (suc k) (omega arith) next)
    by false is return newline =
        let last : offset ≡ suc k = grind (arith, l) in
        let one : offset - 1 ≡ k = omega (arith, last) in
        place.apart (omega arith) (ap (λ n. get_or text n 0) one ∙ return) (ap (λ n. get_or text n 0) last ∙ newline)

-- the row reaches the place
run_within : (text : Text) (start offset : ℕ) → IsPlace text offset → Reaches 0 0 offset text start → offset - start ≤ length (row_at text start)
run_within text start offset place r = by (nat_lt (length (row_at text start)) (offset - start)) refl
  where
    by : (b : Bool) → nat_lt (length (row_at text start)) (offset - start) ≡ b → offset - start ≤ length (row_at text start)
    by true is =
        let short : length (row_at text start) < offset - start = grind arith in
        let end = place.inside in
        let before = r.before in
        absurd (true≢false (sym (run_inside text start offset place r (start + length (row_at text start)) (omega arith) (omega arith)) ∙ row_stops text start (omega (arith, end, before))))
    by false is = grind arith

-- the characters before a place in its row lead to it
lands : (e : Encoding) (text : Text) (offset start : ℕ) → length text ≤ 67108864 → IsPlace text offset → Reaches 0 0 offset text start
    → start + fitting e (capped (units e (take (offset - start) (row_at text start)))) (row_at text start) ≡ offset
lands e text offset start small place r =
    let within = run_within text start offset place r in
    let before = r.before in
    let end = place.inside in
    let some = units_few e (take (offset - start) (row_at text start)) in
    let taken = length-take (offset - start) (row_at text start) in
    let exact : capped (units e (take (offset - start) (row_at text start))) ≡ units e (take (offset - start) (row_at text start)) = omega (arith, some, taken, end) in
    let whole : offset - start < length (row_at text start) → is_within (get_or (row_at text start) (offset - start) 0) ≡ false =
    λ l. let same : start + (offset - start) ≡ offset = omega (arith, before) in
    ap is_within (row_byte text start (offset - start) l ∙ ap (λ n. get_or text n 0) same) ∙ place.whole in
    let back = fits_back e (row_at text start) (offset - start) within whole in
    ap (λ u. start + fitting e u (row_at text start)) exact ∙ ap (λ n. start + n) back ∙ omega (arith, before)

starts_few : (at : ℕ) (text : Text) → length (starts_from at text) ≤ length text
starts_few at [] = omega arith
starts_few at (b ∷ text) = by (ends_row b text) (starts_few (suc at) text)
  where
    by : (v : Bool) → length (starts_from (suc at) text) ≤ length text → length (cond v (suc at ∷ starts_from (suc at) text) (starts_from (suc at) text)) ≤ length (b ∷ text)
    by true more = omega arith
    by false more = omega arith

-- a place is found again by its position
pub comes_back : (e : Encoding) (text : Text) (offset : ℕ) → length text ≤ 67108864 → IsPlace text offset → offset_of e text (position_of e text offset) ≡ offset
comes_back e text offset small place =
    let start : ℕ = start_of text (line_of text offset) in
    let r : Reaches 0 0 offset text start = reaches text 0 0 offset (length text) (omega arith) (omega arith) (omega (arith, place.inside)) in
    let rows = starts_few 0 text in
    let few = count_by-le-length (λ s. nat_le s offset) (starts text) in
    let exact : capped (line_of text offset) ≡ line_of text offset = omega (arith, rows, few) in
    ap (λ line. start_of text line + fitting e (capped (units e (take (offset - start) (row_at text start)))) (row_at text (start_of text line))) exact
    ∙ lands e text offset start small place r

start_within : (text : Text) (line : ℕ) → start_of text line ≤ length text
start_within text zero = omega arith
start_within text (suc k) = by (nat_lt k (length (starts text))) refl
  where
    by : (b : Bool) → nat_lt k (length (starts text)) ≡ b → get_or (starts text) k (length text) ≤ length text
    by true is = let there = starts_within 0 text k (length text) (grind arith) in omega (arith, there.1)
    by false is = let past = get_or_past (starts text) k (length text) (grind arith) in omega (arith, past)

-- a carriage return and its newline are not cut apart where a row begins
start_apart : (text : Text) (line : ℕ) → 0 < start_of text line → get_or text (start_of text line - 1) 0 ≡ 13 → get_or text (start_of text line) 0 ≡ 10 → ⊥
start_apart text zero some return newline = omega arith
start_apart text (suc k) some return newline = by (nat_lt k (length (starts text))) refl
  where
    split : (start : ℕ) → 0 < start → ends_at text (start - 1) ≡ true → get_or text (start - 1) 0 ≡ 13 → get_or text start 0 ≡ 10 → ⊥
    split start some ends return newline =
        let one : suc (start - 1) ≡ start = omega arith in
        let follows : begins_with 10 (drop (suc (start - 1)) text) ≡ true =
        begins_at 10 text (suc (start - 1)) (omega arith) ∙ ap (λ n. get_or text n 0 == 10) one ∙ ap (λ y. y == 10) newline in
        true≢false (sym ends ∙ ap (λ x. x == 10 || (x == 13 && not (begins_with 10 (drop (suc (start - 1)) text)))) return ∙ ap (λ b. not b) follows)

    by : (b : Bool) → nat_lt k (length (starts text)) ≡ b → ⊥
    by true is =
        let ends = start_ends text 0 k (length text) (grind arith) in
        split (get_or (starts text) k (length text)) some ends.1 return newline
    by false is =
        let past : get_or (starts text) k (length text) ≡ length text = get_or_past (starts text) k (length text) (grind arith) in
        let none : get_or text (get_or (starts text) k (length text)) 0 ≡ 0 = get_or_past text (get_or (starts text) k (length text)) 0 (omega (arith, past)) in
        omega (arith, none, newline)

outside_whole : (b : ℕ) → is_inside b ≡ false → is_within b ≡ false
outside_whole b h = grind arith

-- characters of a row that fit into so many units lead to no byte within a character
fits_to : (e : Encoding) (text : Text) (start units : ℕ) → is_within (get_or text (start + fitting e units (row_at text start)) 0) ≡ false
fits_to e text start units = by (nat_lt (fitting e units (row_at text start)) (length (row_at text start))) (nat_lt (start + fitting e units (row_at text start)) (length text)) refl refl
  where
    by : (b c : Bool) → nat_lt (fitting e units (row_at text start)) (length (row_at text start)) ≡ b → nat_lt (start + fitting e units (row_at text start)) (length text) ≡ c
        → is_within (get_or text (start + fitting e units (row_at text start)) 0) ≡ false
    by true c is at =
        let short : fitting e units (row_at text start) < length (row_at text start) = grind arith in
        ap is_within (sym (row_byte text start (fitting e units (row_at text start)) short)) ∙ fits_whole e units (row_at text start) short
    by false true is at =
        let within = fits_within e units (row_at text start) in
        let all : fitting e units (row_at text start) ≡ length (row_at text start) = grind (arith, within) in
        let more : start + fitting e units (row_at text start) < length text = grind arith in
        ap (λ k. is_within (get_or text (start + k) 0)) all ∙ outside_whole (get_or text (start + length (row_at text start)) 0) (row_stops text start (omega (arith, all, more)))
    by false false is at = ap is_within (get_or_past text (start + fitting e units (row_at text start)) 0 (grind arith))

-- nor between a carriage return and its newline
fits_apart : (e : Encoding) (text : Text) (line n : ℕ) → n ≤ length (row_at text (start_of text line))
    → 0 < start_of text line + n → get_or text (start_of text line + n - 1) 0 ≡ 13 → get_or text (start_of text line + n) 0 ≡ 10 → ⊥
fits_apart e text line zero within some return newline =
    let same : start_of text line + 0 ≡ start_of text line = omega arith in
    start_apart text line (omega (arith, some)) (ap (λ k. get_or text (k - 1) 0) (sym same) ∙ return) (ap (λ k. get_or text k 0) (sym same) ∙ newline)
fits_apart e text line (suc n) within some return newline =
    let same : start_of text line + suc n - 1 ≡ start_of text line + n = omega arith in
    true≢false (sym (row_inside text (start_of text line) n (omega arith)) ∙ ap is_inside (ap (λ k. get_or text k 0) (sym same) ∙ return))

-- each position names a place
pub names_place : (e : Encoding) (text : Text) (position : Position) → IsPlace text (offset_of e text position)
names_place e text position =
    let within = fits_within e position.character (row_at text (start_of text position.line)) in
    let start = start_within text position.line in
    let len = row_len text (start_of text position.line) in
    let most = prefix_len-le-length is_inside (drop (start_of text position.line) text) in
    let left = length-drop (start_of text position.line) text in
    record {
      inside = omega (arith, within, start, len, most, left);
      whole = fits_to e text (start_of text position.line) position.character;
      apart = fits_apart e text position.line (fitting e position.character (row_at text (start_of text position.line))) within;
    }

-- the row of a place begins at it or before it
pub row_begun : (text : Text) (offset : ℕ) → offset ≤ length text → start_of text (line_of text offset) ≤ offset
row_begun text offset h = let r : Reaches 0 0 offset text (start_of text (line_of text offset)) = reaches text 0 0 offset (length text) (omega arith) (omega arith) (omega arith) in r.before

-- and no row ends in between
pub row_unbroken : (text : Text) (offset : ℕ) → offset ≤ length text → (k : ℕ) → start_of text (line_of text offset) ≤ k → k < offset
    → ends_row (get_or text k 0) (drop (k + 1) text) ≡ false
row_unbroken text offset h k s l =
    let r : Reaches 0 0 offset text (start_of text (line_of text offset)) = reaches text 0 0 offset (length text) (omega arith) (omega arith) (omega arith) in
    let same : k ≡ k - 0 = omega arith in
    let next : k + 1 ≡ suc k = omega arith in
    ap (λ n. ends_row (get_or text k 0) (drop n text)) next ∙ ap (ends_at text) same ∙ r.none k s (omega arith) l

-- each row but the first begins where one ends
pub row_after : (text : Text) (line : ℕ) → 0 < line → line ≤ length (starts text) → ends_row (get_or text (start_of text line - 1) 0) (drop (start_of text line) text) ≡ true
row_after text zero some within = absurd (omega arith)
row_after text (suc k) some within =
    let ends = start_ends text 0 k (length text) (omega arith) in
    let same : start_of text (suc k) ≡ suc (start_of text (suc k) - 1) = omega (arith, ends.0) in
    ap (λ n. ends_row (get_or text (start_of text (suc k) - 1) 0) (drop n text)) same ∙ ends.1
