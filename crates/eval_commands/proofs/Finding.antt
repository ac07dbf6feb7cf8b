-- The first answer that is not empty, among those to texts from a place on.
use Rattle.std.proofs.Common.{◌≡◌, ℕ, suc, ◌<◌, false, ◌==◌, not, cond, List, [], ◌∷◌, ◌++◌, map, drop, get_or, length, refl, ap, sym, ◌∙◌, drop-cons}
use Rattle.std.specs.Prelude.{Some, find, unwrap_or}
use Rattle.std.specs.Borrow.{Bor}
use Rattle.text_bytes.specs.Texts.{is_empty}
use Rattle.text_bytes.specs.Text.{Text}
use Rattle.text_tables.specs.Pairs.{Pair}
use Rattle.trie_nodes.specs.Query.{shown}
use Rattle.eval_commands.specs.LookUps.{first_found}

not_empty : (found : List (Bor Text × Bor Text)) → (length found == 0) ≡ false → is_empty (shown found) ≡ false
not_empty [] e = cc
not_empty (p ∷ found) e = refl

head_found : (x : List Pair) (xs : List (List Pair)) → is_empty x ≡ false → first_found (x ∷ xs) ≡ x
head_found x xs e = ap (λ t. unwrap_or (cond (not t) (Some x) (find (λ properties. not (is_empty properties)) xs)) []) e

-- the answer at a place is what is found, if those before it are skipped and it is not empty
pub first_here : (f : Text → List Pair) (prefix : Text) (ms : List (Bor Text)) (i : ℕ) (d : Bor Text) (found : List (Bor Text × Bor Text)) (whole : List Pair)
    → i < length ms → shown found ≡ f (prefix ++ (get_or ms i d).now) → (length found == 0) ≡ false
    → first_found (map f (map (λ m. prefix ++ m) (map (λ m. m.now) (drop i ms)))) ≡ whole → shown found ≡ whole
first_here f prefix ms i d found whole inside is some so_far =
    let here : is_empty (f (prefix ++ (get_or ms i d).now)) ≡ false = ap (λ x. is_empty x) (sym is) ∙ not_empty found some in
    is
    ∙ sym (head_found (f (prefix ++ (get_or ms i d).now)) (map f (map (λ m. prefix ++ m) (map (λ m. m.now) (drop (suc i) ms)))) here)
    ∙ ap (λ rest. first_found (map f (map (λ m. prefix ++ m) (map (λ m. m.now) rest)))) (sym (drop-cons ms i d inside))
    ∙ so_far
