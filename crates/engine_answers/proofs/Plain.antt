-- Lines in which nothing has to be escaped.
use Rattle.std.proofs.Common.{◌≡◌, ℕ, Bool, true, false, not, ◌&&◌, ◌-◌, ◌≤◌, List, [], ◌∷◌, ◌++◌, length, take, drop, arith, refl, ap, sym, ◌∙◌}
use Rattle.std.proofs.lemmas.List.{length-append, take_all}
use Rattle.std.proofs.Math.Seq.{drop-append_seam}
use Rattle.std.proofs.lemmas.List.Folds.{list_all-append}
use Rattle.text_bytes.specs.Escapes.{escape_text, is_escaped}
use Rattle.text_bytes.specs.Names.{space, equals, newline}
use Rattle.engine_sessions.proofs.Plain.{are_plain, plain_is_same}
use Rattle.engine_answers.specs.Inner.{pair_words}
use Rattle.engine_answers.specs.Lines.{pair_line}

both : (a b : Bool) → (a && b) ≡ true → (a ≡ true) × (b ≡ true)
both true true h = (refl, refl)
both true false h = absurd (cc h)
both false b h = absurd (cc h)

-- a word, a name and its value in which nothing has to be escaped are the line as it is
pub plain_pair : (word name value : List ℕ) → are_plain (pair_words word name value) ≡ true → pair_words word name value ++ newline ∷ [] ≡ pair_line word (name, value)
unfolding pair_line
plain_pair word name value h =
    let after_word = both (are_plain word) (are_plain (space ∷ (name ++ equals ∷ value))) (sym (list_all-append (λ b. not (is_escaped b)) word (space ∷ (name ++ equals ∷ value))) ∙ h) in
    let after_space = both (not (is_escaped space)) (are_plain (name ++ equals ∷ value)) after_word.1 in
    let after_name = both (are_plain name) (are_plain (equals ∷ value)) (sym (list_all-append (λ b. not (is_escaped b)) name (equals ∷ value)) ∙ after_space.1) in
    let after_equals = both (not (is_escaped equals)) (are_plain value) after_name.1 in
    let same_name : word ++ space ∷ (name ++ equals ∷ value) ++ newline ∷ [] ≡ word ++ space ∷ (escape_text name ++ equals ∷ value) ++ newline ∷ [] =
    ap (λ t. word ++ space ∷ (t ++ equals ∷ value) ++ newline ∷ []) (sym (plain_is_same name after_name.0)) in
    let same_value : word ++ space ∷ (escape_text name ++ equals ∷ value) ++ newline ∷ [] ≡ pair_line word (name, value) =
    ap (λ t. word ++ space ∷ (escape_text name ++ equals ∷ t) ++ newline ∷ []) (sym (plain_is_same value after_equals.1)) in
    same_name ∙ same_value

-- what was added to other lines is what follows them
pub added_is : (old added now : List ℕ) (n : ℕ) → n ≡ length old → now ≡ old ++ added → take (length now - n) (drop n now) ≡ added
added_is old added now n is joined =
    let after : drop n now ≡ added = ap (λ l. drop n l) joined ∙ ap (λ k. drop k (old ++ added)) is ∙ drop-append_seam old added in
    let size : length added ≤ length now - n = omega (arith, is, ap length joined, length-append old added) in
    ap (take (length now - n)) after ∙ take_all (length now - n) added size
