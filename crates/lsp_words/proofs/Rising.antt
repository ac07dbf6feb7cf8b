-- The marks of a document are in order: where a mark's rule begins later than another one's, it stands in a later row.
use Rattle.std.proofs.Common.{◌≡◌, ℕ, ◌+◌, ◌^◌, ◌<◌, ◌≤◌, ◌⊎◌, Bool, true, false, List, [], ◌∷◌}
use Rattle.std.proofs.Common.{◌++◌, Option, Some, None, Ok, Err, refl, sym, subst, inl, inr, ◌∙◌, length, arith}
use Rattle.std.specs.Prelude.{All, Contains, IfSome, if◌then◌else◌, option_map, slice_index_or}
use Rattle.std.specs.List.{find}
use Rattle.std.proofs.lemmas.List.Elements.{All-nil, All-append, All-contains, All-head, All-tail, All-weaker}
use Rattle.text_bytes.specs.Numbers.{capped}
use Rattle.text_bytes.specs.Text.{Text}
use Rattle.rule_tokens.specs.Grammar.{Item, Placed}
use Rattle.lsp_words.specs.Jumps.{definition_of, is_goal}
use Rattle.lsp_words.specs.Laws.{IsGoalOf}
use Rattle.lsp_words.specs.Marks.{mark_kind, mark_of, marks_from, marks_in, marks_of, MarkValue, placed_mark, rule_of}
use Rattle.lsp_words.specs.Rows.{goes_on_after, items_in}
use Rattle.lsp_words.specs.declared.marks.MarkKind.{MarkKind}
use Rattle.lsp_words.specs.declared.marks.MarkKind.TheVariants.{Goto}
use Rattle.lsp_words.proofs.Jumping.{goes_forward, jump_leads}
use Rattle.lsp_words.proofs.Written.{all_made}

-- a mark of a row, and of a rule that begins in one
record IsHere (rule line : ℕ) (mark : MarkValue) : Type 0 where
  of_rule : mark.rule ≡ rule
  in_row : mark.line ≡ line

-- a mark of rows from one on: of the rule that goes on there, or of one that begins there or later
record IsAfter (line rule : ℕ) (mark : MarkValue) : Type 0 where
  begun : (mark.rule ≡ rule) ⊎ (line ≤ mark.rule)
  row : line ≤ mark.line
  within : mark.rule ≤ mark.line

-- where a mark's rule begins after another one's, it begins after that one's row
abbrev Leaves : MarkValue → MarkValue → Type 0
Leaves mark other = mark.rule < other.rule → mark.line < other.rule

-- a token as a mark is of its row and its rule
here_if : (rule line : ℕ) (t : Placed) (o : Option MarkKind) → IfSome (option_map (placed_mark rule line t) o) (IsHere rule line)
here_if rule line t None = tt
here_if rule line t (Some kind) = record { of_rule = refl; in_row = refl }

item_here : (rule line : ℕ) (item : Item) → Unit {0} → IfSome (mark_of rule line item) (IsHere rule line)
item_here rule line (Err fault) h = tt
item_here rule line (Ok t) h = here_if rule line t (mark_kind t.parts.head)

-- so are the marks of a row
all_here : (rule line : ℕ) (row : Text) → All (IsHere rule line) (marks_in rule line row)
unfolding marks_in
all_here rule line row = all_made (λ _. Unit {0}) (IsHere rule line) (mark_of rule line) (item_here rule line) (items_in row) (λ k d h. tt)

-- a rule goes on, or begins in the row
rule_cases : (goes_on : Bool) (rule line : ℕ) → (rule_of goes_on rule line ≡ rule) ⊎ (rule_of goes_on rule line ≡ line)
rule_cases true rule line = inl refl
rule_cases false rule line = inr refl

-- rows are counted exactly up to the limit
small_capped : (line more : ℕ) → line + more < 2 ^ 32 → capped line ≡ line
small_capped line more h = omega arith

-- the rule of a row begins in it or before it
rule_within : (rule line begun : ℕ) → (begun ≡ rule) ⊎ (begun ≡ line) → rule ≤ line → begun ≤ line
rule_within rule line begun (inl e) l = omega arith
rule_within rule line begun (inr e) l = omega arith

-- a mark of the first of some rows
here_after : (line rule begun : ℕ) → (begun ≡ rule) ⊎ (begun ≡ line) → rule ≤ line → (mark : MarkValue) → IsHere begun line mark → IsAfter line rule mark
here_after line rule begun (inl e) l mark h =
    record { begun = inl (h.of_rule ∙ e); row = omega (arith, h.in_row); within = omega (arith, h.in_row, h.of_rule) }
here_after line rule begun (inr e) l mark h =
    record { begun = inr (omega (arith, h.of_rule)); row = omega (arith, h.in_row); within = omega (arith, h.in_row, h.of_rule) }

-- a mark of the others
begun_later : (line rule begun own : ℕ) → (begun ≡ rule) ⊎ (begun ≡ line) → (own ≡ begun) ⊎ (line + 1 ≤ own) → (own ≡ rule) ⊎ (line ≤ own)
begun_later line rule begun own (inl e) (inl f) = inl (f ∙ e)
begun_later line rule begun own (inr e) (inl f) = inr (omega arith)
begun_later line rule begun own e (inr f) = inr (omega arith)

later_after : (line rule begun : ℕ) → (begun ≡ rule) ⊎ (begun ≡ line) → (mark : MarkValue) → IsAfter (line + 1) begun mark → IsAfter line rule mark
later_after line rule begun e mark h =
    record { begun = begun_later line rule begun mark.rule e h.begun; row = omega (arith, h.row); within = h.within }

-- the marks of rows from one on are of these rows
all_after : (line rule : ℕ) (goes_on : Bool) (rows : List Text) → line + length rows < 2 ^ 32 → rule ≤ line
    → All (IsAfter line rule) (marks_from line rule goes_on rows)
all_after line rule goes_on [] h l = All-nil (IsAfter line rule)
all_after line rule goes_on (row ∷ rows) h l =
    let c : capped line ≡ line = small_capped line (length (row ∷ rows)) h in
    let begun : ℕ = rule_of goes_on rule (capped line) in
    let e : (begun ≡ rule) ⊎ (begun ≡ line) = subst (λ (n : ℕ). (begun ≡ rule) ⊎ (begun ≡ n)) c (rule_cases goes_on rule (capped line)) in
    let w : begun ≤ line = rule_within rule line begun e l in
    let here : All (IsHere begun line) (marks_in begun (capped line) row) =
    subst (λ (n : ℕ). All (IsHere begun n) (marks_in begun (capped line) row)) c (all_here begun (capped line) row) in
    All-append (IsAfter line rule) (marks_in begun (capped line) row) (marks_from (line + 1) begun (goes_on_after goes_on row) rows)
    (All-weaker (IsHere begun line) (IsAfter line rule) (here_after line rule begun e l) (marks_in begun (capped line) row) here)
    (All-weaker (IsAfter (line + 1) begun) (IsAfter line rule) (later_after line rule begun e) (marks_from (line + 1) begun (goes_on_after goes_on row) rows)
    (all_after (line + 1) begun (goes_on_after goes_on row) rows (omega arith) (omega arith)))

-- marks of one row do not leave it
here_leaves : (begun line : ℕ) (mark other : MarkValue) → IsHere begun line mark → IsHere begun line other → Leaves mark other
here_leaves begun line mark other h k l = absurd (omega (arith, h.of_rule, k.of_rule))

-- those of later rows do
after_leaves : (begun line : ℕ) (mark other : MarkValue) → IsHere begun line mark → IsAfter (line + 1) begun other → Leaves mark other
after_leaves begun line mark other h k l = by k.begun
  where
    by : (other.rule ≡ begun) ⊎ (line + 1 ≤ other.rule) → mark.line < other.rule
    by (inl e) = absurd (omega (arith, h.of_rule))
    by (inr e) = omega (arith, h.in_row)

-- the rule of a later row does not begin before
back_leaves : (begun line : ℕ) (mark other : MarkValue) → begun ≤ line → IsAfter (line + 1) begun mark → IsHere begun line other → Leaves mark other
back_leaves begun line mark other w h k l = by h.begun
  where
    by : (mark.rule ≡ begun) ⊎ (line + 1 ≤ mark.rule) → mark.line < other.rule
    by (inl e) = absurd (omega (arith, k.of_rule))
    by (inr e) = absurd (omega (arith, k.of_rule))

-- all marks of rows
all_leave : (line rule : ℕ) (goes_on : Bool) (rows : List Text) → line + length rows < 2 ^ 32 → rule ≤ line
    → All (λ mark. All (Leaves mark) (marks_from line rule goes_on rows)) (marks_from line rule goes_on rows)
all_leave line rule goes_on [] h l = All-nil (λ mark. All (Leaves mark) [])
all_leave line rule goes_on (row ∷ rows) h l =
    let c : capped line ≡ line = small_capped line (length (row ∷ rows)) h in
    let begun : ℕ = rule_of goes_on rule (capped line) in
    let e : (begun ≡ rule) ⊎ (begun ≡ line) = subst (λ (n : ℕ). (begun ≡ rule) ⊎ (begun ≡ n)) c (rule_cases goes_on rule (capped line)) in
    let w : begun ≤ line = rule_within rule line begun e l in
    let first : List MarkValue = marks_in begun (capped line) row in
    let others : List MarkValue = marks_from (line + 1) begun (goes_on_after goes_on row) rows in
    let here : All (IsHere begun line) first = subst (λ (n : ℕ). All (IsHere begun n) first) c (all_here begun (capped line) row) in
    let after : All (IsAfter (line + 1) begun) others = all_after (line + 1) begun (goes_on_after goes_on row) rows (omega arith) (omega arith) in
    let rest : All (λ mark. All (Leaves mark) others) others = all_leave (line + 1) begun (goes_on_after goes_on row) rows (omega arith) (omega arith) in
    All-append (λ mark. All (Leaves mark) (first ++ others)) first others
    (All-weaker (IsHere begun line) (λ mark. All (Leaves mark) (first ++ others))
    (λ mark h. All-append (Leaves mark) first others
    (All-weaker (IsHere begun line) (Leaves mark) (λ other k. here_leaves begun line mark other h k) first here)
    (All-weaker (IsAfter (line + 1) begun) (Leaves mark) (λ other k. after_leaves begun line mark other h k) others after)) first here)
    (λ k d lt. All-append (Leaves (slice_index_or others k d)) first others
    (All-weaker (IsHere begun line) (Leaves (slice_index_or others k d))
    (λ other o. back_leaves begun line (slice_index_or others k d) other w (after k d lt) o) first here)
    (rest k d lt))

-- what is found is one of them
found_among : {X : Type 0} (P : X → Type 0) (p : X → Bool) (xs : List X) → All P xs → IfSome (find p xs) P
found_among P p [] h = tt
found_among P p (x ∷ xs) h = by (p x) (found_among P p xs (All-tail P x xs h))
  where
    by : (b : Bool) → IfSome (find p xs) P → IfSome (if b then Some x else find p xs) P
    by true k = All-head P x xs h
    by false k = k

-- a label that a jump reaches stands below it
reaches : (jump label : MarkValue) → jump.rule < label.rule → Leaves jump label → label.rule ≤ label.line → jump.line < label.line
reaches jump label l leaves w = let n : jump.line < label.rule = leaves l in omega arith

pub leads_below : (rows : List Text) (jump label : MarkValue) → length rows < 2 ^ 32 → Contains (marks_of rows) jump → jump.kind ≡ Goto
    → definition_of (marks_of rows) jump ≡ Some label → jump.line < label.line
unfolding marks_of
leads_below rows jump label h there kind e =
    let marks : List MarkValue = marks_from 0 0 false rows in
    let goal : IsGoalOf jump label = subst (λ (found : Option MarkValue). IfSome found (IsGoalOf jump)) e (goes_forward marks jump kind) in
    let found : find (is_goal jump) marks ≡ Some label = sym (jump_leads marks jump kind) ∙ e in
    let leaves : Leaves jump label =
    subst (λ (o : Option MarkValue). IfSome o (Leaves jump)) found
    (found_among (Leaves jump) (is_goal jump) marks
    (All-contains (λ mark. All (Leaves mark) marks) marks jump (all_leave 0 0 false rows (omega arith) (omega arith)) there)) in
    let after : IsAfter 0 0 label =
    subst (λ (o : Option MarkValue). IfSome o (IsAfter 0 0)) found
    (found_among (IsAfter 0 0) (is_goal jump) marks (all_after 0 0 false rows (omega arith) (omega arith))) in
    reaches jump label goal.later leaves after.within
