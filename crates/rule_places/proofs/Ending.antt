-- What follows the last token of a line.
use Rattle.std.proofs.Common.{◌≡◌, ℕ, ◌+◌, ◌≤◌, Bool, true, false, List, [], ◌∷◌, ◌++◌, length, take, drop, Option, Some, None, Ok, Err, ap, sym, ◌∙◌, subst, append_assoc, append-nil, drop_at, length-append, arith}
use Rattle.std.proofs.lemmas.List.{length-take-le, take-append-drop}
use Rattle.rule_tokens.specs.Grammar.{AllAre, Item, LexesAt, Placed, answers, is_gap_byte, last, more}
use Rattle.rule_tokens.specs.Lines.{is_over, items_from, items_left}
use Rattle.rule_tokens.specs.declared.kinds.TokenFault.{TokenFault}
use Rattle.rule_tokens.proofs.Steps.{left_done, left_given}
use Rattle.rule_places.proofs.Prefixes.{own_of}

-- after a place, or the last of these items, only blanks and commas are in the line; if one is a fault, nothing is said
abbrev pub EndsInGap : List ℕ → ℕ → List Item → Type 0
EndsInGap line place [] = AllAre is_gap_byte (drop place line)
EndsInGap line place (Ok t ∷ items) = EndsInGap line t.span.end items
EndsInGap line place (Err fault ∷ items) = Unit {0}

ends : (line before text : List ℕ) (at place : ℕ) (tokens : List Placed) (end : Option TokenFault) → line ≡ before ++ text → length before ≡ at → LexesAt at text tokens end → EndsInGap line place (answers tokens end)
ends line before text at place [] None e l h = elim h [ ]
ends line before text at place [] (Some fault) e l h = tt
ends line before text at place (t ∷ []) None e l (last rest gap here between) =
    let o = own_of text t rest here.is_present in
    let own : length text ≡ length o.0 + length rest = ap length o.1 ∙ length-append o.0 rest in
    let spelled : line ≡ (before ++ o.0) ++ rest = e ∙ (ap (λ v. before ++ v) o.1 ∙ sym (append_assoc before o.0 rest)) in
    let n : length (before ++ o.0) ≡ length before + length o.0 = length-append before o.0 in
    let place : length (before ++ o.0) ≡ t.span.end = omega (arith, here.end) in
    let left : drop t.span.end line ≡ gap = ap (drop t.span.end) spelled ∙ drop_at (before ++ o.0) rest t.span.end place ∙ between.spelled ∙ append-nil gap in
    subst (AllAre is_gap_byte) (sym left) between.all
ends line before text at place (t ∷ tokens) end e l (more rest gap next here between some following) =
    let o = own_of text t rest here.is_present in
    let own : length text ≡ length o.0 + length rest = ap length o.1 ∙ length-append o.0 rest in
    let spelled : line ≡ (before ++ (o.0 ++ gap)) ++ next =
    e ∙ (ap (λ v. before ++ v) (o.1 ∙ (ap (λ v. o.0 ++ v) between.spelled ∙ sym (append_assoc o.0 gap next))) ∙ sym (append_assoc before (o.0 ++ gap) next)) in
    let n : length (before ++ (o.0 ++ gap)) ≡ length before + (length o.0 + length gap) = length-append before (o.0 ++ gap) ∙ ap (λ n. length before + n) (length-append o.0 gap) in
    let place : length (before ++ (o.0 ++ gap)) ≡ t.span.end + length gap = omega (arith, here.end) in
    ends line (before ++ (o.0 ++ gap)) next (t.span.end + length gap) t.span.end tokens end spelled place following

-- after the last of these items, if a token is there, only blanks and commas are in the line
abbrev pub EndsLast : List ℕ → List Item → Type 0
EndsLast line [] = Unit {0}
EndsLast line (Ok t ∷ items) = EndsInGap line t.span.end items
EndsLast line (Err fault ∷ items) = Unit {0}

after_any : (line : List ℕ) (place : ℕ) (items : List Item) → EndsInGap line place items → EndsLast line items
after_any line place [] h = tt
after_any line place (Ok t ∷ items) h = h
after_any line place (Err fault ∷ items) h = tt

pub all_end : (start : ℕ) (line : List ℕ) → start ≤ length line → EndsLast line (items_from start line)
all_end start line within = by (is_over start line)
  where
    by : (done : Bool) → EndsLast line (items_left done start (drop start line))
    by true = rw (left_done start (drop start line)) tt
    by false =
        let g = left_given start (drop start line) in
        rw g.3 (after_any line 0 (answers g.0 g.1) (ends line (take start line) (drop start line) start 0 g.0 g.1 (sym (take-append-drop start line)) (length-take-le start line within) g.2))

-- the first of these items, if it is a token, begins at a place
abbrev pub BeginsAt : ℕ → List Item → Type 0
BeginsAt place [] = Unit {0}
BeginsAt place (Ok t ∷ items) = t.span.start ≡ place
BeginsAt place (Err fault ∷ items) = Unit {0}

begins : (text : List ℕ) (at : ℕ) (tokens : List Placed) (end : Option TokenFault) → LexesAt at text tokens end → BeginsAt at (answers tokens end)
begins text at [] None h = tt
begins text at [] (Some fault) h = tt
begins text at (t ∷ []) None (last rest gap here between) = here.start
begins text at (t ∷ tokens) end (more rest gap next here between some following) = here.start

pub all_begin : (start : ℕ) (line : List ℕ) → BeginsAt start (items_from start line)
all_begin start line = by (is_over start line)
  where
    by : (done : Bool) → BeginsAt start (items_left done start (drop start line))
    by true = rw (left_done start (drop start line)) tt
    by false = let g = left_given start (drop start line) in rw g.3 (begins (drop start line) start g.0 g.1 g.2)
