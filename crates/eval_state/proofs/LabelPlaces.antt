-- A label takes its place among others.
use Rattle.std.proofs.Common.{◌≡◌, ℕ, ◌+◌, ◌<◌, ◌≤◌, zero, suc, Bool, true, false, not, cond, nat_lt, List, [], ◌∷◌, ◌++◌, length, get_or, Some, None, position, set, refl, ap, sym, ◌∙◌, arith, ltb-false}
use Rattle.std.proofs.lemmas.List.Quantifiers.{position-Some}
use Rattle.std.specs.Cmp.Lexicographic.{bytes_decides}
use Rattle.std.specs.List.{position_or_len}
use Rattle.text_bytes.specs.Text.{Text}
use Rattle.text_tables.specs.Texts.{same_text}
use Rattle.text_tables.specs.Pairs.{Pair, with_value}

-- whether a label is one of a name
abbrev is_of : Text → Pair → Bool
is_of name label = same_text name label.0

is_same : (a b : Text) → same_text a b ≡ true → a ≡ b
is_same a b h = (bytes_decides a b).0 h

following : (labels : List Pair) (name text : Text) → length labels ≤ position_or_len (is_of name) labels → labels ++ (name, text) ∷ [] ≡ with_value labels name text
following [] name text h = refl
following (label ∷ labels) name text h = by (same_text name label.0) h (following labels name text)
  where
    by : (b : Bool) → suc (length labels) ≤ cond (not b) (1 + position_or_len (is_of name) labels) 0
        → (length labels ≤ position_or_len (is_of name) labels → labels ++ (name, text) ∷ [] ≡ with_value labels name text)
        → label ∷ (labels ++ (name, text) ∷ []) ≡ cond b ((label.0, text) ∷ labels) (label ∷ with_value labels name text)
    by true h more = absurd (omega (arith, h))
    by false h more = ap (λ ls. label ∷ ls) (more (omega (arith, h)))

-- if a name has no label, its label follows the others
pub put_after : (labels new : List Pair) (name text : Text) → position (is_of name) labels ≡ None → new ≡ labels ++ (name, text) ∷ [] → new ≡ with_value labels name text
put_after labels new name text h is = is ∙ following labels name text (by (nat_lt (position_or_len (is_of name) labels) (length labels)) refl h)
  where
    by : (b : Bool) → nat_lt (position_or_len (is_of name) labels) (length labels) ≡ b → cond b (Some (position_or_len (is_of name) labels)) None ≡ None → length labels ≤ position_or_len (is_of name) labels
    by true e h = cc
    by false e h = ltb-false (position_or_len (is_of name) labels) (length labels) e

there : (labels : List Pair) (name text : Text) (place : ℕ) → place < length labels → is_of name (get_or labels place ([], [])) ≡ true → ((k : ℕ) → k < place → is_of name (get_or labels k ([], [])) ≡ false)
    → set labels place (name, text) ≡ with_value labels name text
there [] name text place within is none = absurd (omega (arith, within))
there (label ∷ labels) name text zero within is none =
    ap (λ n. (n, text) ∷ labels) (is_same name label.0 is)
    ∙ ap (λ b. cond b ((label.0, text) ∷ labels) (label ∷ with_value labels name text)) (sym is)
there (label ∷ labels) name text (suc place) within is none =
    ap (λ ls. label ∷ ls) (there labels name text place (omega (arith, within)) is (λ k h. none (suc k) (omega (arith, h))))
    ∙ ap (λ b. cond b ((label.0, text) ∷ labels) (label ∷ with_value labels name text)) (sym (none 0 (omega arith)))

-- if it has one, the first takes the text
pub put_there : (labels : List Pair) (name text : Text) (place : ℕ) → position (is_of name) labels ≡ Some place → set labels place (name, text) ≡ with_value labels name text
put_there labels name text place h =
    let found = position-Some (is_of name) labels place ([], []) h in
    there labels name text place found.0 found.1 found.2
