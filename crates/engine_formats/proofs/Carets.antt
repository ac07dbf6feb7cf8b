-- The marks below places, in the lines that are shown.
use Rattle.std.proofs.Common.{◌≡◌, ℕ, zero, suc, ◌+◌, ◌-◌, ◌<◌, ◌≤◌, Bool, true, false, cond, eqb, ltb, List, [], ◌∷◌, ◌++◌, codes, drop, flat_map, length, map, slice_index_or, take, refl, ap, sym, ◌∙◌, arith, append_assoc}
use Rattle.std.specs.List.{prefix_len}
use Rattle.std.proofs.Math.Path.{subst₂}
use Rattle.std.proofs.lemmas.Bool.{agree_below_at, le-ltb, ltb-false, ltb-true, ne_eqb}
use Rattle.std.proofs.lemmas.List.{drop-drop, drop-take, drop_all, length-take, map-append, take-append-drop, take_all}
use Rattle.std.proofs.lemmas.List.Sums.{prefix_len-le-length}
use Rattle.text_bytes.specs.Lines.{lines}
use Rattle.text_bytes.specs.Names.{caret, newline, space, tab}
use Rattle.text_bytes.specs.Texts.{up_to as first_part}
use Rattle.engine_formats.specs.Diagnostics.{DiagnosticValue}
use Rattle.engine_formats.specs.Human.{advice_line, continues, first_start, human_lines, mark_line, shown_byte, source_line, source_lines, tilde, title_line, under, window, window_start, with_masked_path}
use Rattle.engine_formats.specs.Masked.{masked}
use Rattle.engine_formats.specs.Marks.{PointsAt, columns, columns_from, line_after}
use Rattle.engine_formats.specs.Paints.{escape_code, paint_of, paint_start, paint_stop}
use Rattle.engine_formats.specs.Readers.{HasPlace}
use Rattle.engine_formats.specs.declared.paint.Paint.{Paint}
use Rattle.engine_formats.specs.declared.paint.Paint.TheVariants.{Unpainted, Red, Yellow}
use Rattle.engine_formats.proofs.Counted.{IsLine, mark_body, mark_body_lacks, masked_place, shown_lacks, title_is_line}
use Rattle.engine_formats.proofs.Masking.{masked_length}
use Rattle.engine_formats.proofs.OneLine.{Lacks, first_line_is, lacks-append, up_to}

-- a byte as it is shown takes the columns that the byte has of its own
shown_column : (b : ℕ) (rest : List ℕ) → columns_from false (shown_byte b ∷ rest) ≡ cond (continues b) (columns_from false rest) (suc (columns_from false rest))
shown_column b rest = by_height (ltb b 128) refl where
  by_height : (low : Bool) → ltb b 128 ≡ low → columns_from false (shown_byte b ∷ rest) ≡ cond (continues b) (columns_from false rest) (suc (columns_from false rest))
  by_height true e =
      let small : b < 128 = ltb-true b 128 e in
      rw (
        agree_below_at (λ b. eqb (shown_byte b) escape_code) (λ _. false) 128 b refl small,
        agree_below_at (λ b. continues (shown_byte b)) (λ _. false) 128 b refl small,
        agree_below_at continues (λ _. false) 128 b refl small,
      )
      refl
  by_height false e =
      let high : 128 ≤ b = ltb-false b 128 e in
      rw (ne_eqb b tab (λ e. omega arith), le-ltb b 32 (omega arith), ne_eqb b 127 (λ e. omega arith), ne_eqb b escape_code (λ e. omega arith)) refl

under_column : (b : ℕ) (row after : List ℕ) → columns_from false ((under space b ++ row) ++ after) ≡ cond (continues b) (columns_from false (row ++ after)) (suc (columns_from false (row ++ after)))
under_column b row after = by_test (continues b) where
  by_test : (v : Bool) → columns_from false ((cond v [] (space ∷ []) ++ row) ++ after) ≡ cond v (columns_from false (row ++ after)) (suc (columns_from false (row ++ after)))
  by_test true = refl
  by_test false = refl

-- the spaces below a text take its columns
under_columns : (before after : List ℕ) → columns_from false after ≡ 0 → columns_from false (flat_map (under space) before ++ after) ≡ columns_from false (map shown_byte before)
under_columns [] after h = h
under_columns (b ∷ before) after h =
    under_column b (flat_map (under space) before) after
    ∙ ap (λ (n : ℕ). cond (continues b) n (suc n)) (under_columns before after h) ∙ sym (shown_column b (map shown_byte before))

start_columns : (paint : Paint) → columns_from false (paint_start paint) ≡ 0
start_columns Unpainted = refl
start_columns Red = refl
start_columns Yellow = refl

start_has_no_caret : (paint : Paint) → Lacks caret (paint_start paint)
start_has_no_caret Unpainted = refl
start_has_no_caret Red = refl
start_has_no_caret Yellow = refl

spaces_have_no_caret : (bytes : List ℕ) → Lacks caret (flat_map (under space) bytes)
spaces_have_no_caret [] = refl
spaces_have_no_caret (b ∷ bytes) = lacks-append caret (under space b) (flat_map (under space) bytes) (by_test (continues b)) (spaces_have_no_caret bytes) where
  by_test : (v : Bool) → Lacks caret (cond v [] (space ∷ []))
  by_test true = refl
  by_test false = refl

-- what comes before the mark takes the columns of what is shown before the place
below : (paint : Paint) (before place : List ℕ) → columns (first_part caret (mark_body paint before place)) ≡ columns (codes "  " ++ map shown_byte before)
unfolding mark_body
below paint before place =
    let row : List ℕ = flat_map (under space) before in
    let prefix : List ℕ = codes "  " ++ row ++ paint_start paint in
    let tildes : List ℕ = flat_map (under tilde) (drop 1 place) in
    let lacks = lacks-append caret (codes "  " ++ row) (paint_start paint) (lacks-append caret (codes "  ") row refl (spaces_have_no_caret before)) (start_has_no_caret paint) in
    ap (λ (t : List ℕ). columns (first_part caret t)) (append_assoc (prefix ++ codes "^") tildes (paint_stop paint) ∙ append_assoc prefix (codes "^") (tildes ++ paint_stop paint))
    ∙ ap columns (up_to (λ b. eqb b caret) prefix caret (tildes ++ paint_stop paint) lacks refl)
    ∙ ap (λ (n : ℕ). suc (suc n)) (under_columns before (paint_start paint) (start_columns paint))

-- what is known about the start of the part that is shown: it is before the place, and near enough to it
record Near (source : List ℕ) (column start : ℕ) : Type 0 where
  before : start ≤ column - 1
  room : 160 ≤ column - 1 - start → length source ≤ column - 1
  most : column - 1 - start ≤ 160

window_is_near : (source : List ℕ) (column : ℕ) → column ≤ length source + 1 → Near source column (window_start source column)
unfolding window_start
window_is_near source column h = by_test (first_start source column) refl where
  by_test : (n : ℕ) → first_start source column ≡ n → Near source column (cond (eqb n 0) 0 (n + prefix_len continues (take 3 (drop n source))))
  by_test zero e = record { before = omega arith; room = λ far. omega (arith, e, h, far); most = omega (arith, e, h) }
  by_test (suc n) e =
      let skipped : prefix_len continues (take 3 (drop (suc n) source)) ≤ 3 =
      omega (arith, prefix_len-le-length continues (take 3 (drop (suc n) source)), length-take 3 (drop (suc n) source)) in
      rw (ne_eqb (suc n) 0 (λ same. omega arith)) (record { before = omega (arith, e, skipped); room = λ far. omega (arith, e, h, skipped, far); most = omega (arith, e, h, skipped) })

-- where the part of its line begins that is shown
abbrev start_of : DiagnosticValue → ℕ
start_of d = window_start (masked d.source) d.column

-- how many bytes are shown before a place
abbrev count_before : DiagnosticValue → ℕ
count_before d = d.column - 1 - start_of d

-- the part of its line that is shown
abbrev part_of : DiagnosticValue → List ℕ
part_of d = window (masked d.source) (start_of d)

-- the line that is shown
abbrev shown_line : DiagnosticValue → List ℕ
shown_line d = codes "  " ++ map shown_byte (part_of d)

-- the marks below it
abbrev marks_of : Bool → DiagnosticValue → List ℕ
marks_of in_color d = mark_body (paint_of in_color d.remark) (take (count_before d) (part_of d)) (take (d.end - d.column) (drop (count_before d) (part_of d)))

first_of : (body rest : List ℕ) → Lacks newline body → lines ((body ++ newline ∷ []) ++ rest) ≡ body ∷ lines rest
first_of body rest h = ap lines (append_assoc body (newline ∷ []) rest) ∙ first_line_is body rest h

-- the lines of a diagnostic, one by one
four_lines : (in_color : Bool) (d : DiagnosticValue) → HasPlace d
    → (title : List ℕ) × (lines (human_lines in_color d) ≡ title ∷ shown_line d ∷ marks_of in_color d ∷ lines (advice_line d))
unfolding human_lines source_lines source_line mark_line mark_body IsLine
four_lines in_color d h =
    let paint : Paint = paint_of in_color d.remark in
    let advice : List ℕ = advice_line d in
    let shown : List ℕ = shown_line d in
    let marks : List ℕ = marks_of in_color d in
    let ended : List ℕ = shown ++ newline ∷ [] in
    let marked : List ℕ = marks ++ newline ∷ [] in
    let line = title_is_line paint (with_masked_path d) (masked_place d h) in
    let lacks = lacks-append newline (codes "  ") (map shown_byte (part_of d)) refl (shown_lacks (part_of d)) in (
      line.0,
      ap lines (append_assoc (title_line paint (with_masked_path d)) (ended ++ marked) advice ∙ ap (λ (t : List ℕ). title_line paint (with_masked_path d) ++ t) (append_assoc ended marked advice))
          ∙ ap (λ (t : List ℕ). lines (t ++ (ended ++ (marked ++ advice)))) line.2
          ∙ first_of line.0 (ended ++ (marked ++ advice)) line.1
          ∙ ap (λ (ls : List (List ℕ)). line.0 ∷ ls) (first_of shown (marked ++ advice) lacks
          ∙ ap (λ (ls : List (List ℕ)). shown ∷ ls) (first_of marks advice (mark_body_lacks paint (take (count_before d) (part_of d)) (take (d.end - d.column) (drop (count_before d) (part_of d)))))),
    )

none_of_none : (n : ℕ) → take {A = ℕ} n [] ≡ []
none_of_none zero = refl
none_of_none (suc n) = refl

-- at least one byte is shown of a place that is there
enough : (source : List ℕ) (column count : ℕ) → (160 ≤ count → length source ≤ column - 1) → count ≤ 160
    → take (160 - count) (drop (column - 1) source) ≡ take (suc (159 - count)) (drop (column - 1) source)
enough source column count far most = by_test (ltb count 160) refl where
  by_test : (v : Bool) → ltb count 160 ≡ v → take (160 - count) (drop (column - 1) source) ≡ take (suc (159 - count)) (drop (column - 1) source)
  by_test true e =
      let below : count < 160 = ltb-true count 160 e in
      let same : 160 - count ≡ suc (159 - count) = omega (arith, below) in
      ap (λ (n : ℕ). take n (drop (column - 1) source)) same
  by_test false e =
      let none : drop (column - 1) source ≡ [] = drop_all (column - 1) source (far (ltb-false count 160 e)) in
      ap (take (160 - count)) none ∙ none_of_none (160 - count) ∙ sym (none_of_none (suc (159 - count))) ∙ ap (take (suc (159 - count))) (sym none)

-- what is shown from the place on
from_place : (source : List ℕ) (column start : ℕ) → Near source column start
    → drop (column - 1 - start) (window source start) ≡ take (suc (159 - (column - 1 - start))) (drop (column - 1) source)
from_place source column start near =
    let count : ℕ = column - 1 - start in
    let width : 160 ≡ count + (160 - count) = omega (arith, near.most) in
    let at : start + count ≡ column - 1 = omega (arith, near.before) in
    ap (λ (n : ℕ). drop count (take n (drop start source))) width
    ∙ drop-take count (160 - count) (drop start source)
    ∙ ap (take (160 - count)) (drop-drop count start source ∙ ap (λ (n : ℕ). drop n source) at)
    ∙ enough source column count near.room near.most

pub caret_points : (in_color : Bool) (d : DiagnosticValue) → HasPlace d → d.column ≤ length d.source + 1
    → PointsAt (masked d.source) d.column (line_after 1 (human_lines in_color d)) (line_after 2 (human_lines in_color d))
caret_points in_color d h within =
    let source : List ℕ = masked d.source in
    let inside : d.column ≤ length source + 1 = omega (arith, within, masked_length 0 0 d.source) in
    let start : ℕ = start_of d in
    let count : ℕ = count_before d in
    let part : List ℕ = part_of d in
    let room : ℕ = suc (159 - count) in
    let split = four_lines in_color d h in
    let halves : map shown_byte part ≡ map shown_byte (take count part) ++ map shown_byte (take room (drop (d.column - 1) source)) =
    ap (map shown_byte) (sym (take-append-drop count part)) ∙ map-append shown_byte (take count part) (drop count part)
    ∙ ap (λ (t : List ℕ). map shown_byte (take count part) ++ map shown_byte t) (from_place source d.column start (window_is_near source d.column inside)) in
    let points : PointsAt source d.column (shown_line d) (marks_of in_color d) = record {
      before = codes "  " ++ map shown_byte (take count part);
      room = room;
      some = omega arith;
      place = ap (λ (t : List ℕ). codes "  " ++ t) halves;
      below = below (paint_of in_color d.remark) (take count part) (take (d.end - d.column) (drop count part));
    } in
    subst₂ (λ (shown marks : List ℕ). PointsAt source d.column shown marks)
    (sym (ap (λ (ls : List (List ℕ)). slice_index_or ls 1 []) split.1)) (sym (ap (λ (ls : List (List ℕ)). slice_index_or ls 2 []) split.1)) points

from_the_start : (source : List ℕ) (column : ℕ) → length source ≤ 160 → window_start source column ≡ 0
unfolding window_start
from_the_start source column short =
    let none : first_start source column ≡ 0 = omega (arith, short) in
    ap (λ (n : ℕ). cond (eqb n 0) 0 (n + prefix_len continues (take 3 (drop n source)))) none

pub whole_shown : (in_color : Bool) (d : DiagnosticValue) → HasPlace d → length d.source ≤ 160
    → line_after 1 (human_lines in_color d) ≡ codes "  " ++ map shown_byte (masked d.source)
whole_shown in_color d h short =
    let source : List ℕ = masked d.source in
    let few : length source ≤ 160 = omega (arith, short, masked_length 0 0 d.source) in
    ap (λ (ls : List (List ℕ)). slice_index_or ls 1 []) (four_lines in_color d h).1
    ∙ ap (λ (n : ℕ). codes "  " ++ map shown_byte (window source n)) (from_the_start source d.column few)
    ∙ ap (λ (t : List ℕ). codes "  " ++ map shown_byte t) (take_all 160 source few)
