-- Pieces are runs in one way, and no text is lost.
use Rattle.std.proofs.Common.{◌≡◌, ℕ, Bool, true, false, cond, List, [], ◌∷◌, ◌++◌, refl, sym, ◌∙◌, ap, append_assoc, append-nil}
use Rattle.std.specs.Prelude.{All}
use Rattle.std.specs.List.{flat_map, onto_first}
use Rattle.std.proofs.lemmas.List.Elements.{All-cons, All-head, All-nil, All-tail}
use Rattle.rule_core.specs.Lines.{Piece, run_text, runs}
use Rattle.rule_laws.specs.Runs.{AreRuns, IsClosed, NoTextLost, OneWay, open_run}

abbrev Continues : Piece → Type 0
Continues p = p.continues ≡ true

abbrev all_of : List (List Piece) → List Piece
all_of rs = flat_map (λ (run : List Piece). run) rs

-- ---- the runs that are found are such

longer : (p : Piece) (run : List Piece) → p.continues ≡ true → IsClosed run → IsClosed (p ∷ run)
longer p run e c = record {
  before = p ∷ c.before;
  last = c.last;
  whole = ap (λ (r : List Piece). p ∷ r) c.whole;
  continued = All-cons Continues p c.before e c.continued;
  ended = c.ended;
}

one : (p : Piece) → p.continues ≡ false → IsClosed (p ∷ [])
one p e = record { before = []; last = p; whole = refl; continued = All-nil Continues; ended = e }

-- one piece more before runs: the first of them begins with it
continued : (p : Piece) (ps : List Piece) (closed : List (List Piece)) (left : List Piece) → p.continues ≡ true → ps ≡ all_of closed ++ left → All IsClosed closed → All Continues left
    → AreRuns (p ∷ ps) (onto_first p (closed ++ open_run left))
continued p ps [] [] e w c o = record {
  closed = [];
  left = p ∷ [];
  parts = refl;
  whole = ap (λ (l : List Piece). p ∷ l) w;
  are_closed = All-nil IsClosed;
  all_continue = All-cons Continues p [] e o;
}
continued p ps [] (q ∷ left) e w c o = record {
  closed = [];
  left = p ∷ q ∷ left;
  parts = refl;
  whole = ap (λ (l : List Piece). p ∷ l) w;
  are_closed = All-nil IsClosed;
  all_continue = All-cons Continues p (q ∷ left) e o;
}
continued p ps (r ∷ closed) left e w c o = record {
  closed = (p ∷ r) ∷ closed;
  left = left;
  parts = refl;
  whole = ap (λ (l : List Piece). p ∷ l) w;
  are_closed = All-cons IsClosed (p ∷ r) closed (longer p r e (All-head IsClosed r closed c)) (All-tail IsClosed r closed c);
  all_continue = o;
}

before_runs : (p : Piece) (ps : List Piece) (b : Bool) → p.continues ≡ b → AreRuns ps (runs ps) → AreRuns (p ∷ ps) (cond b (onto_first p (runs ps)) ((p ∷ []) ∷ runs ps))
before_runs p ps true e h = rw h.parts (continued p ps h.closed h.left e h.whole h.are_closed h.all_continue)
before_runs p ps false e h = record {
  closed = (p ∷ []) ∷ h.closed;
  left = h.left;
  parts = ap (λ (rs : List (List Piece)). (p ∷ []) ∷ rs) h.parts;
  whole = ap (λ (l : List Piece). p ∷ l) h.whole;
  are_closed = All-cons IsClosed (p ∷ []) h.closed (one p e) h.are_closed;
  all_continue = h.all_continue;
}

found : (ps : List Piece) → AreRuns ps (runs ps)
found [] = record { closed = []; left = []; parts = refl; whole = refl; are_closed = All-nil IsClosed; all_continue = All-nil Continues }
found (p ∷ ps) = before_runs p ps p.continues refl (found ps)

-- ---- there are no others

by_end : (p : Piece) (ps : List Piece) (b : Bool) → p.continues ≡ b → runs (p ∷ ps) ≡ cond b (onto_first p (runs ps)) ((p ∷ []) ∷ runs ps)
by_end p ps b e = ap (λ (c : Bool). cond c (onto_first p (runs ps)) ((p ∷ []) ∷ runs ps)) e

open_again : (left : List Piece) → All Continues left → runs left ≡ open_run left
open_again [] o = refl
open_again (p ∷ left) o =
    let e : p.continues ≡ true = All-head Continues p left o in
    by_end p left true e ∙ (ap (onto_first p) (open_again left (All-tail Continues p left o)) ∙ first left)
  where
    first : (ps : List Piece) → onto_first p (open_run ps) ≡ (p ∷ ps) ∷ []
    first [] = refl
    first (q ∷ ps) = refl

closed_again : (before : List Piece) (last : Piece) (rest : List Piece) → All Continues before → last.continues ≡ false → runs ((before ++ last ∷ []) ++ rest) ≡ (before ++ last ∷ []) ∷ runs rest
closed_again [] last rest c e = by_end last rest false e
closed_again (p ∷ before) last rest c e =
    let k : p.continues ≡ true = All-head Continues p before c in
    by_end p ((before ++ last ∷ []) ++ rest) true k ∙ ap (onto_first p) (closed_again before last rest (All-tail Continues p before c) e)

again : (closed : List (List Piece)) (left : List Piece) → All IsClosed closed → All Continues left → runs (all_of closed ++ left) ≡ closed ++ open_run left
again [] left c o = open_again left o
again (r ∷ closed) left c o =
    let first : IsClosed r = All-head IsClosed r closed c in
    let rest : runs (all_of closed ++ left) ≡ closed ++ open_run left = again closed left (All-tail IsClosed r closed c) o in
    ap runs (append_assoc r (all_of closed) left)
    ∙ ap (λ (x : List Piece). runs (x ++ (all_of closed ++ left))) first.whole
    ∙ closed_again first.before first.last (all_of closed ++ left) first.continued first.ended
    ∙ ap (λ (x : List Piece). x ∷ runs (all_of closed ++ left)) (sym first.whole)
    ∙ ap (λ (rs : List (List Piece)). r ∷ rs) rest

same : (ps : List Piece) (rs : List (List Piece)) → AreRuns ps rs → rs ≡ runs ps
same ps rs h = h.parts ∙ sym (ap runs h.whole ∙ again h.closed h.left h.are_closed h.all_continue)

are : (ps : List Piece) (rs : List (List Piece)) → rs ≡ runs ps → AreRuns ps rs
are ps rs e = rw e (found ps)

pub one_way : OneWay
one_way ps rs = (same ps rs, are ps rs)

-- ---- the texts

onto_text : (p : Piece) (rs : List (List Piece)) → flat_map run_text (onto_first p rs) ≡ p.text ++ flat_map run_text rs
onto_text p [] = append_assoc p.text [] []
onto_text p (r ∷ rs) = append_assoc p.text (run_text r) (flat_map run_text rs)

text_by : (p : Piece) (rs : List (List Piece)) (b : Bool) → flat_map run_text (cond b (onto_first p rs) ((p ∷ []) ∷ rs)) ≡ p.text ++ flat_map run_text rs
text_by p rs true = onto_text p rs
text_by p rs false = ap (λ (t : List ℕ). t ++ flat_map run_text rs) (append-nil p.text)

pub no_text_lost : NoTextLost
no_text_lost [] = refl
no_text_lost (p ∷ ps) = text_by p (runs ps) p.continues ∙ ap (λ (t : List ℕ). p.text ++ t) (no_text_lost ps)
