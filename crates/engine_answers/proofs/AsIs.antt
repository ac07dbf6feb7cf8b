-- Lines of properties that were put together as they are: if only their newlines would have to be escaped, nothing else has to be.
use Rattle.std.proofs.Common.{◌≡◌, ℕ, Bool, true, false, not, cond, ◌&&◌, ◌+◌, List, [], ◌∷◌, ◌++◌, codes, count_by, flat_map, arith, refl, ap, sym, ◌∙◌}
use Rattle.std.specs.List.{sum_by}
use Rattle.std.proofs.lemmas.List.Sums.{sum_by-append, sum_by-cons}
use Rattle.text_bytes.specs.Escapes.{is_escaped}
use Rattle.text_bytes.specs.Names.{newline}
use Rattle.text_tables.specs.Pairs.{Pair}
use Rattle.engine_sessions.proofs.Plain.{are_plain}
use Rattle.engine_answers.specs.Inner.{env_as_is, lines_as_is, pair_words, shown_as_is, shown_count, shown_line}
use Rattle.engine_answers.specs.Lines.{is_hidden, pair_line}
use Rattle.engine_answers.proofs.Plain.{plain_pair}

-- how many bytes of a text have to be escaped
abbrev pub escapes : List ℕ → ℕ
escapes text = count_by is_escaped text

plain_on : (escaped : Bool) (n : ℕ) (rest : Bool) → cond escaped 1 0 + n ≡ 0 → (n ≡ 0 → rest ≡ true) → (not escaped && rest) ≡ true
plain_on true n rest e h = absurd (omega arith)
plain_on false n rest e h = h (omega arith)

none_escaped : (text : List ℕ) → escapes text ≡ 0 → are_plain text ≡ true
none_escaped [] e = refl
none_escaped (b ∷ text) e =
    let all : cond (is_escaped b) 1 0 + escapes text ≡ 0 = sym (sum_by-cons (λ b. cond (is_escaped b) 1 0) b text) ∙ e in
    plain_on (is_escaped b) (escapes text) (are_plain text) all (none_escaped text)

-- how many bytes of a property's line have to be escaped, besides its newline
abbrev pub inner_escapes : Pair → ℕ
inner_escapes pair = cond (is_hidden pair.0) 0 (escapes (pair_words (codes "env") pair.0 pair.1))

line_count : (hidden : Bool) (words : List ℕ) → escapes (cond hidden [] (words ++ newline ∷ [])) ≡ cond (not hidden) 1 0 + cond hidden 0 (escapes words)
line_count true words = refl
line_count false words = let all = sum_by-append (λ b. cond (is_escaped b) 1 0) words (newline ∷ []) in omega (arith, all)

lines_count : (pairs : List Pair) → escapes (lines_as_is pairs) ≡ shown_count pairs + sum_by inner_escapes pairs
lines_count [] = refl
lines_count (pair ∷ pairs) =
    let all = sum_by-append (λ b. cond (is_escaped b) 1 0) (shown_as_is pair) (lines_as_is pairs) in
    let first = line_count (is_hidden pair.0) (pair_words (codes "env") pair.0 pair.1) in
    let shown = sum_by-cons (λ (p : Pair). cond (not (is_hidden p.0)) 1 0) pair pairs in
    let inner = sum_by-cons inner_escapes pair pairs in
    omega (arith, all, first, shown, inner, lines_count pairs)

line_is : (hidden : Bool) (name value : List ℕ) → cond hidden 0 (escapes (pair_words (codes "env") name value)) ≡ 0
    → cond hidden [] (env_as_is (name, value)) ≡ cond hidden [] (pair_line (codes "env") (name, value))
line_is true name value e = refl
line_is false name value e = plain_pair (codes "env") name value (none_escaped (pair_words (codes "env") name value) e)

lines_are : (pairs : List Pair) → sum_by inner_escapes pairs ≡ 0 → lines_as_is pairs ≡ flat_map shown_line pairs
lines_are [] e = refl
lines_are ((name, value) ∷ pairs) e =
    let all = sum_by-cons inner_escapes (name, value) pairs in
    let first : inner_escapes (name, value) ≡ 0 = omega (arith, all, e) in
    let others : sum_by inner_escapes pairs ≡ 0 = omega (arith, all, e) in
    ap (λ l. l ++ lines_as_is pairs) (line_is (is_hidden name) name value first) ∙ ap (λ l. shown_line (name, value) ++ l) (lines_are pairs others)

-- then the lines are as they should be
pub as_they_are : (pairs : List Pair) → escapes (lines_as_is pairs) ≡ shown_count pairs → lines_as_is pairs ≡ flat_map shown_line pairs
as_they_are pairs e = let none : sum_by inner_escapes pairs ≡ 0 = omega (arith, e, lines_count pairs) in lines_are pairs none
