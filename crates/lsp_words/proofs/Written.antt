-- The marks of a row are written in it.
use Rattle.std.proofs.Common.{◌≡◌, ℕ, ◌+◌, ◌-◌, ◌<◌, ◌≤◌, List, [], ◌∷◌, ◌++◌, Option, Some}
use Rattle.std.proofs.Common.{None, Ok, Err, true, refl, sym, ap, ◌∙◌, length, take, drop, arith, length-append}
use Rattle.std.specs.Prelude.{All, IfSome, filter_map, option_map}
use Rattle.std.specs.List.{cons_option, prefix_len}
use Rattle.std.proofs.lemmas.List.Elements.{All-nil, All-cons, All-head, All-tail}
use Rattle.std.proofs.lemmas.List.Sums.{prefix_len-le-length}
use Rattle.text_bytes.specs.Names.{double_quote}
use Rattle.text_bytes.specs.Text.{Text}
use Rattle.rule_tokens.specs.Grammar.{Item, Placed, is_gap_byte}
use Rattle.rule_tokens.specs.Lines.{items_after, items_from, items_left, items_within}
use Rattle.rule_tokens.specs.Reading.{head_at, key_at, token_at}
use Rattle.rule_tokens.specs.Places.{IsSlice, LiesIn}
use Rattle.rule_tokens.proofs.PlaceLemmas.{from_lie}
use Rattle.lsp_words.specs.Laws.{IsWrittenIn}
use Rattle.lsp_words.specs.Marks.{mark_kind, mark_of, marks_in, placed_mark}
use Rattle.lsp_words.specs.Rows.{body, is_comment, items_in}
use Rattle.lsp_words.specs.declared.marks.MarkKind.{MarkKind}
use Rattle.lsp_words.proofs.RowLemmas.{comment_empty, row_begins, slice_longer}

-- one more of what is made, if anything is
more_kept : {Y : Type 0} (Q : Y → Type 0) (o : Option Y) (ys : List Y) → IfSome o Q → All Q ys → All Q (cons_option o ys)
more_kept Q None ys h k = k
more_kept Q (Some y) ys h k = All-cons Q y ys h k

-- what is made of each element is as it should be
pub all_made : {X Y : Type 0} (P : X → Type 0) (Q : Y → Type 0) (f : X → Option Y) → ((x : X) → P x → IfSome (f x) Q) → (xs : List X) → All P xs
    → All Q (filter_map f xs)
all_made P Q f made [] h = All-nil Q
all_made P Q f made (x ∷ xs) h = more_kept Q (f x) (filter_map f xs) (made x (All-head P x xs h)) (all_made P Q f made xs (All-tail P x xs h))

-- a value between quotes has two bytes more
quoted_length : (value : Text) → length (double_quote ∷ value ++ double_quote ∷ []) ≡ length value + 2
quoted_length value = let n = length-append value (double_quote ∷ []) in omega (arith, n)

-- where a name begins, by where the quote before it is
name_start : (opens long whole end : ℕ) → whole ≡ long + 2 → opens + whole ≡ end
    → (0 < end - 1 - long) × (end - 1 - long + long ≡ end - 1) × (end - 1 - long - 1 ≡ opens) × (opens + (long + 2) ≡ end)
name_start opens long whole end e f = (omega arith, omega arith, omega arith, omega arith)

-- a token that lies in a row is written there
written : (row : Text) (rule line : ℕ) (t : Placed) → IsSlice (body row) t → (kind : MarkKind) → IsWrittenIn row (placed_mark rule line t kind)
written row rule line t s kind =
    let b = row_begins row in
    let q : length (double_quote ∷ t.parts.value ++ double_quote ∷ []) ≡ length t.parts.value + 2 = quoted_length t.parts.value in
    let n = name_start s.opens (length t.parts.value) (length (double_quote ∷ t.parts.value ++ double_quote ∷ [])) t.span.end q s.closes in
    let v : take (length t.parts.value + 2) (drop s.opens (body row)) ≡ double_quote ∷ t.parts.value ++ double_quote ∷ [] =
    ap (λ k. take k (drop s.opens (body row))) (sym q) ∙ s.value in
    let within : s.opens + (length t.parts.value + 2) ≤ length (body row) = let w = s.within in omega (arith, n.3) in
    record {
      after_quote = n.0;
      whole = n.1;
      quoted =
          ap (λ p. take (length t.parts.value + 2) (drop p row)) n.2
          ∙ (ap (λ r. take (length t.parts.value + 2) (drop s.opens r)) b.1
          ∙ (slice_longer (body row) b.0 s.opens (length t.parts.value + 2) within ∙ v));
    }

-- if it is a mark
written_if : (row : Text) (rule line : ℕ) (t : Placed) → IsSlice (body row) t → (o : Option MarkKind)
    → IfSome (option_map (placed_mark rule line t) o) (IsWrittenIn row)
written_if row rule line t s None = tt
written_if row rule line t s (Some kind) = written row rule line t s kind

-- the mark that an item of a row is
item_written : (row : Text) (rule line : ℕ) (item : Item) → LiesIn (body row) item → IfSome (mark_of rule line item) (IsWrittenIn row)
item_written row rule line (Err fault) h = tt
item_written row rule line (Ok t) h = written_if row rule line t h (mark_kind t.parts.head)

-- the items of a row lie in what it gives to its rule
items_lie : (row : Text) → All (LiesIn (body row)) (items_in row)
unfolding items_in
items_lie row = from_lie (prefix_len is_gap_byte (body row)) (body row) (prefix_len-le-length is_gap_byte (body row))

pub marks_written : (rule line : ℕ) (row : Text) → All (IsWrittenIn row) (marks_in rule line row)
unfolding marks_in
marks_written rule line row = all_made (LiesIn (body row)) (IsWrittenIn row) (mark_of rule line) (item_written row rule line) (items_in row) (items_lie row)

-- no text has no marks
nothing_marked : (rule line : ℕ) → filter_map (mark_of rule line) (items_from 0 []) ≡ []
unfolding items_left items_within items_after token_at head_at key_at
nothing_marked rule line = refl

-- a comment has none
pub comment_unmarked : (rule line : ℕ) (row : Text) → is_comment row ≡ true → marks_in rule line row ≡ []
unfolding marks_in items_in
comment_unmarked rule line row e =
    ap (λ text. filter_map (mark_of rule line) (items_from (prefix_len is_gap_byte text) text)) (comment_empty row e) ∙ nothing_marked rule line
