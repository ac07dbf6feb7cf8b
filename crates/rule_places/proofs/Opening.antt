-- A line that is open at its file's end ends in the `\` that is reported.
use Rattle.std.proofs.Common.{◌≡◌, ℕ, suc, ◌+◌, ◌-◌, ◌<◌, ◌^◌, Bool, true, false, true≢false, cond, not, ◌&&◌, List, [], ◌∷◌, ◌++◌, length, take, map, slice_get, Option, Some, None, refl, ap, sym, ◌∙◌, subst, length-drop, length-take, arith}
use Rattle.std.specs.List.{onto_first, prefix_len}
use Rattle.text_bytes.specs.Lines.{NumberedLine, lines, numbered_lines}
use Rattle.text_bytes.specs.Numbers.{capped}
use Rattle.text_bytes.specs.Names.{backslash, is_blank}
use Rattle.text_bytes.specs.Texts.{ends_in}
use Rattle.file_messages.specs.declared.message.MessageKind.TheVariants.{OpenAtEnd}
use Rattle.text_bytes.specs.declared.profile.Profile.{Profile}
use Rattle.text_bytes.specs.declared.source_file.SourceFile.{SourceFile}
use Rattle.rule_core.specs.Ends.{abandoned}
use Rattle.rule_core.specs.Lines.{Piece, is_comment, is_open, joined_lines, kept, open_number, open_of_runs, piece_of, runs, unindented}
use Rattle.rule_core.specs.Rules.{landed, reading_of}
use Rattle.rule_places.specs.Files.{findings_of_lines, findings_unless, open_findings, placed_findings, placed_from}
use Rattle.rule_places.specs.Kept.{as_kept, backslash_of, kept_before, kept_from, kept_lines, place_at}
use Rattle.rule_places.specs.Laws.{EndsOpen}
use Rattle.rule_places.specs.Placed.{found_at}
use Rattle.rule_places.specs.Shown.{IsAmong}
use Rattle.rule_places.specs.declared.kept.KeptLine.{KeptLine}
use Rattle.rule_places.proofs.Placing.{among_others, capped_end, capped_is, line_bounds}
use Rattle.rule_places.proofs.Showing.{ends_alike}

-- the last of these pieces continues
abbrev LastContinues : List Piece → Type 0
LastContinues [] = ⊥
LastContinues (p ∷ []) = p.continues ≡ true
LastContinues (p ∷ q ∷ ps) = LastContinues (q ∷ ps)

-- if a run is open with one more piece at its front, it is open without it
still_open : (by : Profile) (last : ℕ) (Q : Type 0) (p : Piece) (rs : List (List Piece)) (n : ℕ) → p.continues ≡ true → (rs ≡ [] → Q) → ((m : ℕ) → open_of_runs by last rs ≡ Some m → Q) → open_of_runs by last (onto_first p rs) ≡ Some n → Q
still_open by last Q p [] n c none f e = none refl
still_open by last Q p (r ∷ rs) n c none f e = on (p.continues) (is_open r) c f e
  where
    on : (c o : Bool) → c ≡ true → ((m : ℕ) → cond o (Some (capped (open_number by last r))) (open_of_runs by last rs) ≡ Some m → Q) → cond (c && o) (Some (capped (open_number by last (p ∷ r)))) (open_of_runs by last rs) ≡ Some n → Q
    on true true h f e = f (capped (open_number by last r)) refl
    on true false h f e = f n e
    on false o h f e = absurd (true≢false (sym h))

no_run : {Q : Type 0} (q : Piece) (ps : List Piece) → runs (q ∷ ps) ≡ [] → Q
no_run {Q} q ps e = by q.continues (runs ps) e
  where
    by : (c : Bool) (rs : List (List Piece)) → cond c (onto_first q rs) ((q ∷ []) ∷ rs) ≡ [] → Q
    by true [] e = cc
    by true (r ∷ rs) e = cc
    by false rs e = cc

open_last : (by : Profile) (last : ℕ) (ps : List Piece) (n : ℕ) → open_of_runs by last (runs ps) ≡ Some n → LastContinues ps
open_last by last [] n e = cc
open_last by last (p ∷ []) n e = on p.continues refl e
  where
    on : (c : Bool) → p.continues ≡ c → open_of_runs by last (cond c (onto_first p []) ((p ∷ []) ∷ [])) ≡ Some n → c ≡ true
    on true h e = refl
    on false h e = let none : None ≡ Some n = ap (λ (c : Bool). cond (c && true) (Some (capped (open_number by last (p ∷ [])))) None) (sym h) ∙ e in cc
open_last by last (p ∷ q ∷ ps) n e = on p.continues refl e (λ m f. open_last by last (q ∷ ps) m f)
  where
    on : (c : Bool) → p.continues ≡ c → open_of_runs by last (cond c (onto_first p (runs (q ∷ ps))) ((p ∷ []) ∷ runs (q ∷ ps))) ≡ Some n → ((m : ℕ) → open_of_runs by last (runs (q ∷ ps)) ≡ Some m → LastContinues (q ∷ ps)) → LastContinues (q ∷ ps)
    on true h e f = still_open by last (LastContinues (q ∷ ps)) p (runs (q ∷ ps)) n h (no_run q ps) f e
    on false h e f = f n (ap (λ (c : Bool). cond (c && true) (Some (capped (open_number by last (p ∷ [])))) (open_of_runs by last (runs (q ∷ ps)))) (sym h) ∙ e)

-- the last of these lines that is kept is one of them, ends in a `\`, and is the last that is found
record LastKept (all : List KeptLine) (ls : List NumberedLine) : Type 0 where
  before : List NumberedLine
  line : NumberedLine
  following : List NumberedLine
  lines : ls ≡ before ++ line ∷ following
  comments : kept following ≡ []
  ends : ends_in backslash line.text ≡ true
  place : KeptLine
  found : slice_get all (length all - 1) ≡ Some place
  number : place.number ≡ line.number
  reaches : place.column + place.size ≡ length line.text

none_kept : (start : ℕ) (ls : List NumberedLine) → kept ls ≡ [] → kept_from start ls ≡ []
none_kept start [] e = refl
none_kept start (l ∷ ls) e = by (is_comment (unindented l)) e (λ f. none_kept start ls f)
  where
    by : (c : Bool) → cond (not c) (unindented l ∷ kept ls) (kept ls) ≡ [] → (kept ls ≡ [] → kept_from start ls ≡ []) → kept_before start (cond c None (Some (as_kept start l))) (λ n. kept_from n ls) ≡ []
    by true e f = f e
    by false e f = cc

-- the last of more than one
last_after : (k x : KeptLine) (lines : List KeptLine) → slice_get lines (length lines - 1) ≡ Some x → slice_get (k ∷ lines) (length (k ∷ lines) - 1) ≡ Some x
last_after k x [] e = cc
last_after k x (y ∷ lines) e =
    let one : suc (length (y ∷ lines)) - 1 ≡ suc (length (y ∷ lines) - 1) = omega arith in
    ap (slice_get (k ∷ y ∷ lines)) one ∙ e

-- the place of the `\` that a line ends in
reaches_end : (start : ℕ) (l : NumberedLine) → ends_in backslash (unindented l).text ≡ true → (ends_in backslash l.text ≡ true) × ((as_kept start l).column + (as_kept start l).size ≡ length l.text)
reaches_end start l e =
    let written = (unindented l).text in
    let some : 0 < length written = some_of written e in
    let left = length-drop (prefix_len is_blank l.text) l.text in
    let size : (as_kept start l).size ≡ length written - 1 = ap (λ (c : Bool). length (cond c (take (length written - 1) written) written)) e ∙ less written in
    (sym (ends_alike backslash (prefix_len is_blank l.text) l.text some) ∙ e, omega (arith, some, left, size))
  where
    some_of : (text : List ℕ) → ends_in backslash text ≡ true → 0 < length text
    some_of [] h = absurd (true≢false (sym h))
    some_of (b ∷ text) h = omega arith

    less : (text : List ℕ) → length (take (length text - 1) text) ≡ length text - 1
    less text = let long = length-take (length text - 1) text in omega (arith, long)

last_here : (start : ℕ) (l : NumberedLine) (ls : List NumberedLine) → kept ls ≡ [] → ends_in backslash (unindented l).text ≡ true → slice_get (as_kept start l ∷ kept_from (start + (as_kept start l).size) ls) (length (as_kept start l ∷ kept_from (start + (as_kept start l).size) ls) - 1) ≡ Some (as_kept start l)
last_here start l ls none e = ap (λ (x : List KeptLine). slice_get (as_kept start l ∷ x) (length (as_kept start l ∷ x) - 1)) (none_kept (start + (as_kept start l).size) ls none)

last_kept : (start : ℕ) (ls : List NumberedLine) → LastContinues (map piece_of (kept ls)) → LastKept (kept_from start ls) ls
last_kept start [] h = absurd h
last_kept start (l ∷ ls) h = by (is_comment (unindented l)) (kept ls) refl h (λ g. last_kept start ls g) (λ g. last_kept (start + (as_kept start l).size) ls g)
  where
    by : (c : Bool) (xs : List NumberedLine) → kept ls ≡ xs → LastContinues (map piece_of (cond (not c) (unindented l ∷ xs) xs)) → (LastContinues (map piece_of xs) → LastKept (kept_from start ls) ls)
        → (LastContinues (map piece_of xs) → LastKept (kept_from (start + (as_kept start l).size) ls) ls) → LastKept (kept_before start (cond c None (Some (as_kept start l))) (λ n. kept_from n ls)) (l ∷ ls)
    by true xs e h here next =
        let r = here h in
        record { before = l ∷ r.before; line = r.line; following = r.following; lines = ap (λ (x : List NumberedLine). l ∷ x) r.lines; comments = r.comments; ends = r.ends; place = r.place; found = r.found; number = r.number; reaches = r.reaches }
    by false [] e h here next =
        let r = reaches_end start l h in
        record { before = []; line = l; following = ls; lines = refl; comments = e; ends = r.0; place = as_kept start l; found = last_here start l ls e h; number = refl; reaches = r.1 }
    by false (x ∷ xs) e h here next =
        let r = next h in
        record {
          before = l ∷ r.before;
          line = r.line;
          following = r.following;
          lines = ap (λ (y : List NumberedLine). l ∷ y) r.lines;
          comments = r.comments;
          ends = r.ends;
          place = r.place;
          found = last_after (as_kept start l) r.place (kept_from (start + (as_kept start l).size) ls) r.found;
          number = r.number;
          reaches = r.reaches;
        }

lines_open : (by : Profile) (bytes : List ℕ) (number : ℕ) → length bytes < 2 ^ 32 - 1 → (joined_lines by bytes).open_at ≡ Some number → EndsOpen bytes (findings_of_lines by bytes)
lines_open by bytes number few e =
    let ls = (joined_lines by bytes).lines in
    let r = last_kept 0 (numbered_lines bytes) (open_last by (length (lines bytes)) (map piece_of (kept (numbered_lines bytes))) number e) in
    let others = placed_from (kept_lines bytes) 0 (landed (map (reading_of by) ls)) in
    let bounds = line_bounds bytes r.line (subst (IsAmong r.line) (sym r.lines) (among_others r.before r.line r.following)) in
    let reaches = r.reaches in
    record {
      others = others;
      reported = found_at number (place_at r.place r.place.size 1) OpenAtEnd [];
      last = ap (λ (o : Option ℕ). others ++ open_findings (kept_lines bytes) o) e ∙ ap (λ (o : Option KeptLine). others ++ found_at number (backslash_of o) OpenAtEnd [] ∷ []) r.found;
      kind = refl;
      before = r.before;
      line = r.line;
      following = r.following;
      lines = r.lines;
      comments = r.comments;
      backslash = r.ends;
      number = ap capped r.number ∙ capped_is r.line.number (length bytes) bounds.0 few;
      column = capped_end (r.place.column + r.place.size) (length bytes) (let b = bounds.1 in omega (arith, reaches, b)) few ∙ reaches;
      end = capped_end (r.place.column + r.place.size + 1) (length bytes) (let b = bounds.1 in omega (arith, reaches, b)) few ∙ ap (λ (n : ℕ). n + 1) reaches;
    }

pub all_open : (by : Profile) (file : SourceFile) (number : ℕ) → length file.bytes < 2 ^ 32 - 1 → abandoned by file.bytes ≡ None → (joined_lines by file.bytes).open_at ≡ Some number → EndsOpen file.bytes (placed_findings by file)
unfolding placed_findings
all_open by file number few none e = subst (λ (o : Option ℕ). EndsOpen file.bytes (findings_unless by file.bytes o)) (sym none) (lines_open by file.bytes number few e)
