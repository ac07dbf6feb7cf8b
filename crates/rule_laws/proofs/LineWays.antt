-- A text has its lines in one way.
use Rattle.std.proofs.Common.{◌≡◌, ℕ, Bool, true, false, cond, not, ◌==◌, List, [], ◌∷◌, ◌++◌, refl, sym, ◌∙◌, ap, append_assoc, eqb-true}
use Rattle.std.specs.Prelude.{All}
use Rattle.std.specs.List.{flat_map, list_all, onto_first}
use Rattle.std.proofs.lemmas.Bool.{and_from, and_parts}
use Rattle.std.proofs.lemmas.List.Elements.{All-cons, All-head, All-nil, All-tail}
use Rattle.text_bytes.specs.Names.{newline}
use Rattle.text_bytes.specs.Lines.{lines}
use Rattle.rule_laws.specs.LineLaws.{AreLines, HasNoNewline, OneWay, last_line}

abbrev is_other : ℕ → Bool
is_other b = not (b == newline)

abbrev with_newlines : List (List ℕ) → List ℕ
with_newlines ls = flat_map (λ (l : List ℕ). l ++ newline ∷ []) ls

-- ---- the lines that are found are such

onto_last : (b : ℕ) (left : List ℕ) → onto_first b (last_line left) ≡ (b ∷ left) ∷ []
onto_last b [] = refl
onto_last b (c ∷ left) = refl

other : (b : ℕ) (text : List ℕ) → (b == newline) ≡ false → HasNoNewline text → HasNoNewline (b ∷ text)
other b text e h = and_from (is_other b) (list_all is_other text) (ap not e) h

before_others : (b : ℕ) (text : List ℕ) (ended : List (List ℕ)) (left : List ℕ) → (b == newline) ≡ false → text ≡ with_newlines ended ++ left → All HasNoNewline ended → HasNoNewline left
    → AreLines (b ∷ text) (onto_first b (ended ++ last_line left))
before_others b text [] left e w a r = record {
  ended = [];
  left = b ∷ left;
  parts = onto_last b left;
  whole = ap (λ (t : List ℕ). b ∷ t) w;
  each = All-nil HasNoNewline;
  rest = other b left e r;
}
before_others b text (l ∷ ended) left e w a r = record {
  ended = (b ∷ l) ∷ ended;
  left = left;
  parts = refl;
  whole = ap (λ (t : List ℕ). b ∷ t) w;
  each = All-cons HasNoNewline (b ∷ l) ended (other b l e (All-head HasNoNewline l ended a)) (All-tail HasNoNewline l ended a);
  rest = r;
}

before_lines : (b : ℕ) (text : List ℕ) (v : Bool) → (b == newline) ≡ v → AreLines text (lines text) → AreLines (b ∷ text) (cond v ([] ∷ lines text) (onto_first b (lines text)))
before_lines b text true e h = record {
  ended = [] ∷ h.ended;
  left = h.left;
  parts = ap (λ (ls : List (List ℕ)). [] ∷ ls) h.parts;
  whole = ap (λ (c : ℕ). c ∷ text) (eqb-true b newline e) ∙ ap (λ (t : List ℕ). newline ∷ t) h.whole;
  each = All-cons HasNoNewline [] h.ended refl h.each;
  rest = h.rest;
}
before_lines b text false e h = rw h.parts (before_others b text h.ended h.left e h.whole h.each h.rest)

found : (text : List ℕ) → AreLines text (lines text)
found [] = record { ended = []; left = []; parts = refl; whole = refl; each = All-nil HasNoNewline; rest = refl }
found (b ∷ text) = before_lines b text (b == newline) refl (found text)

-- ---- there are no others

not_true : (b : Bool) → not b ≡ true → b ≡ false
not_true true h = sym h
not_true false h = refl

by_byte : (b : ℕ) (text : List ℕ) (v : Bool) → (b == newline) ≡ v → lines (b ∷ text) ≡ cond v ([] ∷ lines text) (onto_first b (lines text))
by_byte b text v e = ap (λ (w : Bool). cond w ([] ∷ lines text) (onto_first b (lines text))) e

left_again : (left : List ℕ) → HasNoNewline left → lines left ≡ last_line left
left_again [] h = refl
left_again (b ∷ left) h =
    let parts = and_parts (is_other b) (list_all is_other left) h in
    by_byte b left false (not_true (b == newline) parts.0) ∙ ap (onto_first b) (left_again left parts.1) ∙ onto_last b left

line_again : (l rest : List ℕ) → HasNoNewline l → lines ((l ++ newline ∷ []) ++ rest) ≡ l ∷ lines rest
line_again [] rest h = refl
line_again (b ∷ l) rest h =
    let parts = and_parts (is_other b) (list_all is_other l) h in
    by_byte b ((l ++ newline ∷ []) ++ rest) false (not_true (b == newline) parts.0) ∙ ap (onto_first b) (line_again l rest parts.1)

again : (ended : List (List ℕ)) (left : List ℕ) → All HasNoNewline ended → HasNoNewline left → lines (with_newlines ended ++ left) ≡ ended ++ last_line left
again [] left a r = left_again left r
again (l ∷ ended) left a r =
    ap lines (append_assoc (l ++ newline ∷ []) (with_newlines ended) left)
    ∙ line_again l (with_newlines ended ++ left) (All-head HasNoNewline l ended a)
    ∙ ap (λ (ls : List (List ℕ)). l ∷ ls) (again ended left (All-tail HasNoNewline l ended a) r)

same : (text : List ℕ) (ls : List (List ℕ)) → AreLines text ls → ls ≡ lines text
same text ls h = h.parts ∙ sym (ap lines h.whole ∙ again h.ended h.left h.each h.rest)

are : (text : List ℕ) (ls : List (List ℕ)) → ls ≡ lines text → AreLines text ls
are text ls e = rw e (found text)

pub one_way : OneWay
one_way text ls = (same text ls, are text ls)
