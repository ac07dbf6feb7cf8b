-- The codes of comments, at their columns.
use Rattle.std.proofs.Common.{◌≡◌, ℕ, zero, suc, ◌+◌, ◌-◌, ◌^◌, ◌<◌, ◌≤◌, ◌==◌, Bool, true, false, cond, List, [], ◌∷◌, ◌++◌, append-nil, codes, length, take, drop, get_or, All, Option, Some, None, refl, ap, sym, ◌∙◌, subst, arith, length-append, length-drop, append_assoc, take-append-drop, unwrap_or}
use Rattle.std.specs.List.{onto_first, prefix_len, slice_split, suffix_len}
use Rattle.std.proofs.lemmas.List.{drop-append-le, drop-drop, drop_at, length-take-le, take-append-le}
use Rattle.std.proofs.lemmas.List.Elements.{All-append, All-cons, All-from_get_or, All-get_or, All-head, All-nil, All-tail}
use Rattle.std.proofs.lemmas.List.Sums.{prefix_len-le-length}
use Rattle.text_bytes.specs.declared.profile.Profile.{Profile}
use Rattle.text_bytes.specs.Lines.{NumberedLine, lines, numbered_from, numbered_lines}
use Rattle.text_bytes.specs.Numbers.{capped}
use Rattle.text_bytes.specs.Names.{comma, is_blank, is_whitespace}
use Rattle.text_bytes.specs.Texts.{following, unindented}
use Rattle.text_bytes.specs.declared.source_file.FileKind.{FileKind}
use Rattle.text_bytes.specs.declared.source_file.FileKind.TheVariants.{Hwdb, Rules}
use Rattle.text_bytes.specs.declared.source_file.SourceFile.{SourceFile}
use Rattle.text_bytes.specs.Text.{Text}
use Rattle.text_tables.specs.Texts.{same_text}
use Rattle.engine_formats.specs.Placing.{line_numbered}
use Rattle.engine_checks.specs.Ignores.{asked_by, asked_or, before_reason, code_column, code_in, comment_of, ignore_at, ignores_after, ignores_among, ignores_asked, ignores_at, ignores_in, ignores_of_line, next_after, reason_place, starts_of, texts_of}
use Rattle.engine_checks.specs.Laws.{IsInLine}
use Rattle.engine_checks.specs.declared.ignores.Scope.{Scope}
use Rattle.engine_checks.specs.declared.ignores.Scope.TheVariants.{File, Next, Unread}
use Rattle.engine_checks.proofs.Bare.{back_bare, prefix_bare}

-- A text is the end of another one.
abbrev pub IsEnd : Text → Text → Type 0
IsEnd whole text = (prefix : Text) × (whole ≡ prefix ++ text)

dropped : (n : ℕ) (text : Text) → IsEnd text (drop n text)
dropped n text = (take n text, sym (take-append-drop n text))

end_of_end : (whole text last : Text) → IsEnd whole text → IsEnd text last → IsEnd whole last
end_of_end whole text last (prefix, e) (more, f) = (prefix ++ more, e ∙ ap (λ t. prefix ++ t) f ∙ sym (append_assoc prefix more last))

-- Texts are the parts of a text, which begins with them, with a byte between each two.
abbrev pub AreParts : List Text → Text → Type 0
AreParts [] text = ⊥
AreParts (t ∷ []) text = (rest : Text) × (text ≡ t ++ rest)
AreParts (t ∷ u ∷ ts) text = (b : ℕ) × ((rest : Text) × ((text ≡ t ++ b ∷ rest) × AreParts (u ∷ ts) rest))

more_at_start : (b : ℕ) (ts : List Text) (text : Text) → AreParts ts text → AreParts (onto_first b ts) (b ∷ text)
more_at_start b [] text h = absurd h
more_at_start b (t ∷ []) text (rest, h) = (rest, ap (λ x. b ∷ x) h)
more_at_start b (t ∷ u ∷ ts) text (c, (rest, (e, h))) = (c, (rest, (ap (λ x. b ∷ x) e, h)))

cut_off : (b : ℕ) (ts : List Text) (text : Text) → AreParts ts text → AreParts ([] ∷ ts) (b ∷ text)
cut_off b [] text h = absurd h
cut_off b (t ∷ ts) text h = (b, (text, (refl, h)))

-- the parts between commas are such parts
commas : (text : Text) → AreParts (slice_split (λ b. b == comma) text) text
commas [] = ([], refl)
commas (b ∷ text) = by (b == comma) (commas text)
  where
    by : (v : Bool) → AreParts (slice_split (λ b. b == comma) text) text
        → AreParts (cond v ([] ∷ slice_split (λ b. b == comma) text) (onto_first b (slice_split (λ b. b == comma) text))) (b ∷ text)
    by true more = cut_off b (slice_split (λ b. b == comma) text) text more
    by false more = more_at_start b (slice_split (λ b. b == comma) text) text more

-- parts of a text are those of one that goes on
going_on : (ts : List Text) (text more : Text) → AreParts ts text → AreParts ts (text ++ more)
going_on [] text more h = absurd h
going_on (t ∷ []) text more (rest, h) = (rest ++ more, ap (λ x. x ++ more) h ∙ append_assoc t rest more)
going_on (t ∷ u ∷ ts) text more (b, (rest, (e, h))) =
    (b, (rest ++ more, (ap (λ x. x ++ more) e ∙ append_assoc t (b ∷ rest) more, going_on (u ∷ ts) rest more h)))

-- the codes before a reason are such parts
codes_are_parts : (list : Text) → AreParts (slice_split (λ b. b == comma) (before_reason list)) list
codes_are_parts list =
    let size : ℕ = unwrap_or (reason_place list) (length list) in
    subst (λ t. AreParts (slice_split (λ b. b == comma) (take size list)) t) (take-append-drop size list)
    (going_on (slice_split (λ b. b == comma) (take size list)) (take size list) (drop size list) (commas (take size list)))

texts_are_parts : (scope : Scope) (text : Text) → AreParts (texts_of scope text) text
texts_are_parts File text = codes_are_parts text
texts_are_parts (Next next) text = codes_are_parts text
texts_are_parts Unread text = ([], sym (append-nil text))

-- what a comment asks for ends where its line does
prefix_dropped : (prefix text rest : Text) → following prefix text ≡ Some rest → IsEnd text rest
prefix_dropped prefix text rest e = by (same_text (take (length prefix) text) prefix) e
  where
    by : (v : Bool) → cond v (Some (drop (length prefix) text)) None ≡ Some rest → IsEnd text rest
    by true e = let same : drop (length prefix) text ≡ rest = cc in subst (λ r. IsEnd text r) same (dropped (length prefix) text)
    by false e = cc

asked_ends : (next : Option ℕ) (one two : Option Text) (text : Text) → ((rest : Text) → one ≡ Some rest → IsEnd text rest) → ((rest : Text) → two ≡ Some rest → IsEnd text rest)
    → IsEnd text (asked_or next one two text).1
asked_ends next (Some list) two text h k = h list refl
asked_ends next None (Some list) text h k = k list refl
asked_ends next None None text h k = dropped (prefix_len is_blank text) text

comment_ends : (kind : FileKind) (text : Text) → IsEnd text (comment_of kind text)
comment_ends Rules text = dropped (prefix_len is_blank text) text
comment_ends Hwdb text = ([], refl)

-- a code is in a text of a line
code_there : (prefix text back : Text) → take (length (code_in text)) (drop (length prefix + (length text - length (unindented text))) (prefix ++ (text ++ back))) ≡ code_in text
code_there prefix text back =
    let n : ℕ = prefix_len is_blank text in
    let within : n ≤ length text = prefix_len-le-length is_blank text in
    let left : length (unindented text) ≡ length text - n = length-drop n text in
    let passed : length text - length (unindented text) ≡ n = omega arith in
    let size : length (code_in text) ≤ length (unindented text) = omega (arith, length-take-le (length (unindented text) - suffix_len is_whitespace (unindented text)) (unindented text) (omega arith)) in
    let kept : length (code_in text) ≡ length (unindented text) - suffix_len is_whitespace (unindented text) = length-take-le (length (unindented text) - suffix_len is_whitespace (unindented text)) (unindented text) (omega arith) in
    ap (λ m. take (length (code_in text)) (drop (length prefix + m) (prefix ++ (text ++ back)))) passed
    ∙ ap (take (length (code_in text))) (sym (drop-drop n (length prefix) (prefix ++ (text ++ back))) ∙ ap (drop n) (drop_at prefix (text ++ back) (length prefix) refl) ∙ drop-append-le n text back within)
    ∙ take-append-le (length (code_in text)) (unindented text) back size
    ∙ ap (λ m. take m (unindented text)) kept

module _ (bytes : List ℕ) (line : ℕ) (scope : Scope) (whole : Text) (there : line_numbered (numbered_lines bytes) line ≡ whole) (short : length whole < 2 ^ 32 - 1) where
  one_in_place : (prefix text back : Text) (column : ℕ) → column ≡ length prefix + 1 → whole ≡ prefix ++ (text ++ back) → IsInLine bytes (ignore_at line scope column text)
  one_in_place prefix text back column at is =
      let size : length whole ≡ length prefix + length (text ++ back) = ap length is ∙ length-append prefix (text ++ back) in
      let both : length (text ++ back) ≡ length text + length back = length-append text back in
      let n : length (unindented text) ≤ length text = omega (arith, length-drop (prefix_len is_blank text) text) in
      let kept : length (code_in text) ≡ length (unindented text) - suffix_len is_whitespace (unindented text) = length-take-le (length (unindented text) - suffix_len is_whitespace (unindented text)) (unindented text) (omega arith) in
      let begins : capped (code_column column text) ≡ code_column column text = omega arith in
      let ends : capped (code_column column text + length (code_in text)) ≡ code_column column text + length (code_in text) = omega arith in
      let span : capped (code_column column text + length (code_in text)) - capped (code_column column text) ≡ length (code_in text) = omega arith in
      let start : capped (code_column column text) - 1 ≡ length prefix + (length text - length (unindented text)) = omega arith in
      record {
        text =
            ap (λ m. take m (drop (capped (code_column column text) - 1) (line_numbered (numbered_lines bytes) line))) span
            ∙ ap (λ m. take (length (code_in text)) (drop m (line_numbered (numbered_lines bytes) line))) start
            ∙ ap (λ t. take (length (code_in text)) (drop (length prefix + (length text - length (unindented text))) t)) (there ∙ is)
            ∙ code_there prefix text back;
        begins = omega arith;
        prefix = prefix_bare text;
        back = back_bare text;
      }

  all_in_place : (ts : List Text) (prefix text : Text) (column : ℕ) → AreParts ts text → column ≡ length prefix + 1 → whole ≡ prefix ++ text → All (IsInLine bytes) (ignores_at line scope column ts)
  all_in_place [] prefix text column parts at is = absurd parts
  all_in_place (t ∷ []) prefix text column (rest, parts) at is =
      All-cons (IsInLine bytes) (ignore_at line scope column t) []
      (one_in_place prefix t rest column at (is ∙ ap (λ x. prefix ++ x) parts)) (All-nil (IsInLine bytes))
  all_in_place (t ∷ u ∷ ts) prefix text column (b, (rest, (e, parts))) at is =
      let more : whole ≡ (prefix ++ (t ++ b ∷ [])) ++ rest =
      is ∙ ap (λ x. prefix ++ x) (e ∙ sym (append_assoc t (b ∷ []) rest)) ∙ sym (append_assoc prefix (t ++ b ∷ []) rest) in
      let size : length (prefix ++ (t ++ b ∷ [])) ≡ length prefix + (length t + 1) = length-append prefix (t ++ b ∷ []) ∙ ap (λ m. length prefix + m) (length-append t (b ∷ [])) in
      All-cons (IsInLine bytes) (ignore_at line scope column t) (ignores_at line scope (column + length t + 1) (u ∷ ts))
      (one_in_place prefix t (b ∷ rest) column at (is ∙ ap (λ x. prefix ++ x) e))
      (all_in_place (u ∷ ts) (prefix ++ (t ++ b ∷ [])) rest (column + length t + 1) parts (omega arith) more)

-- the codes of a line are in it
module _ (bytes : List ℕ) (l : NumberedLine) (there : line_numbered (numbered_lines bytes) (capped l.number) ≡ l.text) (short : length l.text < 2 ^ 32 - 1) where
  asked_in_place : (asked : Scope × Text) → IsEnd l.text asked.1 → All (IsInLine bytes) (ignores_asked l asked)
  asked_in_place asked (prefix, is) =
      let size : length l.text ≡ length prefix + length asked.1 = ap length is ∙ length-append prefix asked.1 in
      all_in_place bytes (capped l.number) asked.0 l.text there short (texts_of asked.0 asked.1) prefix asked.1 (length l.text + 1 - length asked.1) (texts_are_parts asked.0 asked.1) (omega arith) is

  after_in_place : (next : Option ℕ) (text : Option Text) → ((rest : Text) → text ≡ Some rest → IsEnd l.text rest) → All (IsInLine bytes) (ignores_after l next text)
  after_in_place next None h = All-nil (IsInLine bytes)
  after_in_place next (Some text) h =
      asked_in_place (asked_by next text)
      (end_of_end l.text text (asked_by next text).1 (h text refl)
      (asked_ends next (following (codes " ignore ") text) (following (codes " ignore-file ") text) text (prefix_dropped (codes " ignore ") text) (prefix_dropped (codes " ignore-file ") text)))

  line_in_place : (kind : FileKind) (next : Option ℕ) → All (IsInLine bytes) (ignores_of_line kind next l)
  line_in_place kind next =
      after_in_place next (following (codes "# devdry:") (comment_of kind l.text))
      (λ rest e. end_of_end l.text (comment_of kind l.text) rest (comment_ends kind l.text) (prefix_dropped (codes "# devdry:") (comment_of kind l.text) rest e))

-- the line to use if there is none
abbrev no_line : NumberedLine
no_line = record { number = 0; text = [] }

numbered_at : (n : ℕ) (ts : List Text) (k : ℕ) → k < length (numbered_from n ts) → (get_or (numbered_from n ts) k no_line).number ≡ n + k
numbered_at n [] k h = absurd (omega arith)
numbered_at n (t ∷ ts) zero h = omega arith
numbered_at n (t ∷ ts) (suc k) h = numbered_at (n + 1) ts k (omega arith) ∙ omega arith

length_numbered : (n : ℕ) (ts : List Text) → length (numbered_from n ts) ≡ length ts
length_numbered n [] = refl
length_numbered n (t ∷ ts) = ap suc (length_numbered (n + 1) ts)

all_numbered : (P : Text → Type 0) (n : ℕ) (ts : List Text) → All P ts → All (λ l. P l.text) (numbered_from n ts)
all_numbered P n [] h = All-nil (λ (l : NumberedLine). P l.text)
all_numbered P n (t ∷ ts) h =
    All-cons (λ (l : NumberedLine). P l.text) (record { number = n; text = t }) (numbered_from (n + 1) ts) (All-head P t ts h) (all_numbered P (n + 1) ts (All-tail P t ts h))

-- A line is found by its number, and is short enough for its columns to be reported.
pub record IsReported (bytes : List ℕ) (l : NumberedLine) : Type 0 where
  pub there : line_numbered (numbered_lines bytes) (capped l.number) ≡ l.text
  pub short : length l.text < 2 ^ 32 - 1

all_reported : (bytes : List ℕ) → length (lines bytes) < 2 ^ 32 → All (λ t. length t < 2 ^ 32 - 1) (lines bytes) → All (IsReported bytes) (numbered_lines bytes)
all_reported bytes few short =
    All-from_get_or (IsReported bytes) (numbered_lines bytes) no_line
    (λ (k : ℕ) (h : k < length (numbered_lines bytes)).
    let number : (get_or (numbered_lines bytes) k no_line).number ≡ 1 + k = numbered_at 1 (lines bytes) k h in
    let size : length (numbered_lines bytes) ≡ length (lines bytes) = length_numbered 1 (lines bytes) in
    let index : capped (get_or (numbered_lines bytes) k no_line).number - 1 ≡ k = omega arith in
    record {
      there = ap (λ (j : ℕ). (get_or (numbered_lines bytes) j no_line).text) index;
      short = All-get_or (λ l. length l.text < 2 ^ 32 - 1) (numbered_lines bytes) k no_line h (all_numbered (λ t. length t < 2 ^ 32 - 1) 1 (lines bytes) short);
    })

lines_in_place : (bytes : List ℕ) (kind : FileKind) (starts : List ℕ) (ls : List NumberedLine) → All (IsReported bytes) ls → All (IsInLine bytes) (ignores_among kind starts ls)
lines_in_place bytes kind starts [] h = All-nil (IsInLine bytes)
lines_in_place bytes kind starts (l ∷ ls) h =
    let reported : IsReported bytes l = All-head (IsReported bytes) l ls h in
    All-append (IsInLine bytes) (ignores_of_line kind (next_after starts (capped l.number)) l) (ignores_among kind starts ls)
    (line_in_place bytes l reported.there reported.short kind (next_after starts (capped l.number))) (lines_in_place bytes kind starts ls (All-tail (IsReported bytes) l ls h))

-- the codes of a file are in its lines
pub codes_in_place : (by : Profile) (file : SourceFile) → length (lines file.bytes) < 2 ^ 32 → All (λ t. length t < 2 ^ 32 - 1) (lines file.bytes) → All (IsInLine file.bytes) (ignores_in by file)
unfolding ignores_in
codes_in_place by file few short = lines_in_place file.bytes file.kind (starts_of by file.kind file.bytes) (numbered_lines file.bytes) (all_reported file.bytes few short)
