-- What one call of `next` leaves.
use Rattle.std.proofs.Common.{◌≡◌, ℕ, ◌+◌, ◌-◌, ◌<◌, Bool, true, false, List, [], ◌∷◌, length, drop, Option, Ok, Err, cond, refl, ap, sym, ◌∙◌, arith, ◌==◌, add-one, length-drop}
use Rattle.std.specs.List.{prefix_len}
use Rattle.text_bytes.specs.Texts.{skip_while}
use Rattle.rule_tokens.specs.declared.kinds.TokenFault.{TokenFault}
use Rattle.rule_tokens.specs.declared.kinds.TokenFaultKind.{TokenFaultKind}
use Rattle.rule_tokens.specs.Grammar.{Parts, Placed, LexesAt, answers, is_gap_byte, Given, GivenFrom, Only, OnlyFrom}
use Rattle.rule_tokens.specs.Reading.{token_at, IsWholeValue}
use Rattle.rule_tokens.specs.Lines.{items_after, items_within, items_left, items_from, items_of, is_over}
use Rattle.rule_tokens.proofs.Meanings.{whole_value}
use Rattle.rule_tokens.proofs.IsPresent.{token_in_place, rest_is_shorter}
use Rattle.rule_tokens.proofs.Lines.{given, only}

-- room for more items than can come changes nothing
within_enough : (n m at : ℕ) (text : List ℕ) → length text < n → length text < m → items_within n at text ≡ items_within m at text
within_enough n m at text h k = let g = given n at text h in g.3 ∙ sym (only m at text g.0 g.1 g.2 k)

pub token_left : (text : List ℕ) (x : Parts × List ℕ) → token_at text ≡ Ok x → length x.1 < length text
token_left text x e = rest_is_shorter text x.0 x.1 (token_in_place text x e)

-- the value of a token that is read is a whole one
pub read_whole : (text : List ℕ) (x : Parts × List ℕ) → token_at text ≡ Ok x → IsWholeValue x.0.quote x.0.value
read_whole text x e = let s = token_in_place text x e in whole_value x.0.quote s.pieces x.0.value s.value

pub left_done : (at : ℕ) (text : List ℕ) → items_left true at text ≡ []
unfolding items_left
left_done at text = refl

pub left_fault : (at : ℕ) (text : List ℕ) (kind : TokenFaultKind) → token_at text ≡ Err kind → items_left false at text ≡ Err (record { at = at; kind = kind }) ∷ items_left true at text
unfolding items_left items_within items_after
left_fault at text kind e = rw (add-one (length text)) (rw e refl)

rest_of : (b : Bool) (to n : ℕ) (rest : List ℕ) → length rest < n → cond b [] (items_within n to rest) ≡ items_left b to rest
unfolding items_left
rest_of true to n rest h = refl
rest_of false to n rest h = within_enough n (length rest + 1) to rest h (omega arith)

pub left_token : (at : ℕ) (text : List ℕ) (x : Parts × List ℕ) → token_at text ≡ Ok x → items_left false at text ≡ Ok (record { parts = x.0; span = record { start = at; end = at + (length text - length x.1) } }) ∷ items_left (length (skip_while is_gap_byte x.1) == 0) (at + (length text - length (skip_while is_gap_byte x.1))) (skip_while is_gap_byte x.1)
unfolding items_left items_within items_after
left_token at text x e =
    let less : length x.1 < length text = token_left text x e in
    rw (add-one (length text)) (rw e (ap (λ items. Ok (record { parts = x.0; span = record { start = at; end = at + (length text - length x.1) } }) ∷ items)
    (rest_of (length (skip_while is_gap_byte x.1) == 0) (at + (length text - length (skip_while is_gap_byte x.1))) (length text) (skip_while is_gap_byte x.1) (omega (arith, length-drop (prefix_len is_gap_byte x.1) x.1)))))

-- what is left of a line is what the relation gives, and nothing else
pub left_given : (at : ℕ) (text : List ℕ) → (tokens : List Placed) × (end : Option TokenFault) × LexesAt at text tokens end × (items_left false at text ≡ answers tokens end)
unfolding items_left
left_given at text = given (length text + 1) at text (omega arith)

left_only : (at : ℕ) (text : List ℕ) (tokens : List Placed) (end : Option TokenFault) → LexesAt at text tokens end → items_left false at text ≡ answers tokens end
unfolding items_left
left_only at text tokens end l = only (length text + 1) at text tokens end l (omega arith)

pub from_given : (start : ℕ) (line : List ℕ) → is_over start line ≡ false → GivenFrom start line (items_from start line)
from_given start line e = rw e (left_given start (drop start line))

pub from_only : (start : ℕ) (line : List ℕ) → is_over start line ≡ false → OnlyFrom start line (items_from start line)
from_only start line e = rw e (left_only start (drop start line))

pub from_none : (start : ℕ) (line : List ℕ) → is_over start line ≡ true → items_from start line ≡ []
from_none start line e = rw e (left_done start (drop start line))

pub new_given : (line : List ℕ) → Given line (items_of line)
new_given line = from_given 0 line refl

pub new_only : (line : List ℕ) → Only line (items_of line)
new_only line = from_only 0 line refl
