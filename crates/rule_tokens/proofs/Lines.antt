-- The items of a line are those of the relation, and of no other tokens and end.
use Rattle.std.proofs.Common.{◌≡◌, ℕ, zero, suc, ◌+◌, ◌-◌, ◌<◌, Bool, true, false, List, [], ◌∷◌, length, take, Option, Some, None, Result, Ok, Err, cond, refl, ap, sym, subst, ◌∙◌, ◌==◌, arith, length-append}
use Rattle.std.specs.List.{prefix_len}
use Rattle.std.proofs.lemmas.Bool.{ne_eqb, eqb-true, eqb-false}
use Rattle.std.proofs.lemmas.List.{drop_at, take-append-drop}
use Rattle.text_bytes.specs.Texts.{skip_while}
use Rattle.rule_tokens.specs.declared.kinds.TokenFaultKind.{TokenFaultKind}
use Rattle.rule_tokens.specs.declared.kinds.TokenFault.{TokenFault}
use Rattle.rule_tokens.specs.Grammar.{Parts, Placed, TokenAt, Gap, LexesAt, faulty, last, more, OneAnswer, SomeAnswer, answers, is_gap_byte}
use Rattle.rule_tokens.specs.Reading.{token_at}
use Rattle.rule_tokens.specs.Lines.{items_after, items_within}
use Rattle.rule_tokens.proofs.RunLemmas.{run_again, run_all, run_stops}
use Rattle.rule_tokens.proofs.IsPresent.{token_again, token_in_place, fault_again, fault_in_place, rest_is_shorter}

gap_again : (rest gap next : List ℕ) → Gap rest gap next → skip_while is_gap_byte rest ≡ next
gap_again rest gap next g = rw g.spelled (rw (run_again is_gap_byte gap next g.all g.longest) (drop_at gap next _ refl))

gap_there : (rest : List ℕ) → Gap rest (take (prefix_len is_gap_byte rest) rest) (skip_while is_gap_byte rest)
gap_there rest = record { spelled = sym (take-append-drop (prefix_len is_gap_byte rest) rest); all = run_all is_gap_byte rest; longest = run_stops is_gap_byte rest }

-- where a token ends, and where the next one begins
ends_at : (at len r e : ℕ) → e + r ≡ at + len → r < len → at + (len - r) ≡ e
ends_at at len r e h l = omega arith

begins_at : (at len r e g n : ℕ) → e + r ≡ at + len → r < len → r ≡ g + n → at + (len - n) ≡ e + g
begins_at at len r e g n h l k = omega arith

placed : (t : Placed) (at to : ℕ) → t.span.start ≡ at → to ≡ t.span.end → (record { parts = t.parts; span = record { start = at; end = to } }) ≡ t
placed t at to e f = rw (← e) (rw f refl)

-- the tokens and the end of the relation are the items
pub only : (n at : ℕ) (text : List ℕ) (tokens : List Placed) (end : Option TokenFault) → LexesAt at text tokens end → length text < n → items_within n at text ≡ answers tokens end
unfolding items_within items_after
only zero at text tokens end l h = absurd (omega arith)
only (suc n) at text [] None l h = elim l [ ]
only (suc n) at text [] (Some fault) (faulty here is) h =
    let e : token_at text ≡ Err fault.kind = fault_again text fault.kind is in
    rw e (rw (← here) refl)
only (suc n) at text (t ∷ []) None (last rest gap here between) h =
    let e : token_at text ≡ Ok (t.parts, rest) = token_again text t.parts rest here.is_present in
    let less : length rest < length text = rest_is_shorter text t.parts rest here.is_present in
    let g : skip_while is_gap_byte rest ≡ [] = gap_again rest gap [] between in
    let to = ends_at at (length text) (length rest) t.span.end here.end less in
    rw e (rw g (rw (placed t at _ here.start to) refl))
only (suc n) at text (t ∷ tokens) end (more rest gap next here between some following) h =
    let e : token_at text ≡ Ok (t.parts, rest) = token_again text t.parts rest here.is_present in
    let less : length rest < length text = rest_is_shorter text t.parts rest here.is_present in
    let g : skip_while is_gap_byte rest ≡ next = gap_again rest gap next between in
    let parts : length rest ≡ length gap + length next = ap length between.spelled ∙ length-append gap next in
    let to = ends_at at (length text) (length rest) t.span.end here.end less in
    let on : at + (length text - length next) ≡ t.span.end + length gap = begins_at at (length text) (length rest) t.span.end (length gap) (length next) here.end less parts in
    let others : items_within n (t.span.end + length gap) next ≡ answers tokens end = only n (t.span.end + length gap) next tokens end following (omega arith) in
    rw e (rw g (rw on (rw (placed t at _ here.start to) (rw (ne_eqb (length next) 0 (λ z. absurd (omega (arith, some)))) (ap (λ items. Ok t ∷ items) others)))))

empty : (xs : List ℕ) → length xs ≡ 0 → xs ≡ []
empty [] e = refl
empty (x ∷ xs) e = absurd (omega arith)

ended : (rest gap next : List ℕ) → next ≡ [] → Gap rest gap next → Gap rest gap []
ended rest gap next e g = subst (Gap rest gap) e g

positive : (n : ℕ) → (n ≡ 0 → ⊥) → 0 < n
positive zero h = absurd (h refl)
positive (suc n) h = omega arith

-- the items are tokens and an end of the relation
pub given : (n at : ℕ) (text : List ℕ) → length text < n → (tokens : List Placed) × (end : Option TokenFault) × LexesAt at text tokens end × (items_within n at text ≡ answers tokens end)
unfolding items_within items_after
given zero at text h = absurd (omega arith)
given (suc n) at text h = by_result (token_at text) refl (λ to next less. given n to next less)
  where
    by_gap : (x : Parts × List ℕ) → token_at text ≡ Ok x → (t : Placed) → TokenAt at text t x.1 → (at + (length text - length (skip_while is_gap_byte x.1)) ≡ t.span.end + length (take (prefix_len is_gap_byte x.1) x.1))
        → (b : Bool) → (length (skip_while is_gap_byte x.1) == 0) ≡ b
        → ((tokens : List Placed) × (end : Option TokenFault) × LexesAt (t.span.end + length (take (prefix_len is_gap_byte x.1) x.1)) (skip_while is_gap_byte x.1) tokens end × (items_within n (t.span.end + length (take (prefix_len is_gap_byte x.1) x.1)) (skip_while is_gap_byte x.1) ≡ answers tokens end))
        → (tokens : List Placed) × (end : Option TokenFault) × LexesAt at text tokens end × (Ok t ∷ cond b [] (items_within n (at + (length text - length (skip_while is_gap_byte x.1))) (skip_while is_gap_byte x.1)) ≡ answers tokens end)
    by_gap x e t here on true d others = (t ∷ [], None, last x.1 (take (prefix_len is_gap_byte x.1) x.1) here (ended x.1 (take (prefix_len is_gap_byte x.1) x.1) (skip_while is_gap_byte x.1) (empty (skip_while is_gap_byte x.1) (eqb-true _ 0 d)) (gap_there x.1)), refl)
    by_gap x e t here on false d others = (t ∷ others.0, others.1, more x.1 (take (prefix_len is_gap_byte x.1) x.1) (skip_while is_gap_byte x.1) here (gap_there x.1) (positive (length (skip_while is_gap_byte x.1)) (eqb-false _ 0 d)) others.2, rw on (ap (λ items. Ok t ∷ items) others.3))

    by_result : (r : Result (Parts × List ℕ) TokenFaultKind) → token_at text ≡ r
        → ((to : ℕ) (next : List ℕ) → length next < n → (tokens : List Placed) × (end : Option TokenFault) × LexesAt to next tokens end × (items_within n to next ≡ answers tokens end))
        → (tokens : List Placed) × (end : Option TokenFault) × LexesAt at text tokens end × (items_after (items_within n) at (length text) r ≡ answers tokens end)
    by_result (Err kind) e others = ([], Some (record { at = at; kind = kind }), faulty refl (fault_in_place text kind e), refl)
    by_result (Ok x) e others =
        let is_present = token_in_place text x e in
        let less : length x.1 < length text = rest_is_shorter text x.0 x.1 is_present in
        let gap = take (prefix_len is_gap_byte x.1) x.1 in
        let next = skip_while is_gap_byte x.1 in
        let parts : length x.1 ≡ length gap + length next = ap length (gap_there x.1).spelled ∙ length-append gap next in
        let end : ℕ = at + (length text - length x.1) in
        let to : end + length x.1 ≡ at + length text = omega arith in
        let t : Placed = record { parts = x.0; span = record { start = at; end = end } } in
        by_gap x e t (record { is_present = is_present; start = refl; end = to }) (begins_at at (length text) (length x.1) end (length gap) (length next) to less parts)
        (length next == 0) refl (others (end + length gap) next (omega arith))

pub answers_same : (s t : List Placed) (e f : Option TokenFault) → answers s e ≡ answers t f → (s ≡ t) × (e ≡ f)
answers_same [] [] None None h = (refl, refl)
answers_same [] [] None (Some f) h = absurd (cc)
answers_same [] [] (Some e) None h = absurd (cc)
answers_same [] [] (Some e) (Some f) h = (refl, cc)
answers_same [] (t ∷ ts) None f h = absurd (cc)
answers_same [] (t ∷ ts) (Some e) f h = absurd (cc)
answers_same (s ∷ ss) [] e None h = absurd (cc)
answers_same (s ∷ ss) [] e (Some f) h = absurd (cc)
answers_same (s ∷ ss) (t ∷ ts) e f h =
    let a : s ≡ t = cc in
    let r : answers ss e ≡ answers ts f = cc in
    let q = answers_same ss ts e f r in
    let b = q.0 in
    (cc, q.1)

-- a line has one list of tokens and one end
pub one_answer : OneAnswer
one_answer line s t e f l m = answers_same s t e f (sym (only (length line + 1) 0 line s e l (omega arith)) ∙ only (length line + 1) 0 line t f m (omega arith))

-- each line has tokens and an end
pub some_answer : SomeAnswer
some_answer line = let g = given (length line + 1) 0 line (omega arith) in (g.0, g.1, g.2)
