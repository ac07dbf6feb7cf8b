-- What is where in the lists of an image.
use Rattle.std.proofs.Common.{◌≡◌, ℕ, zero, suc, ◌+◌, ◌<◌, Bool, true, false, List, [], ◌∷◌, ◌++◌, length, take, drop, flat_map, get_or, refl, sym, ◌∙◌, ap, subst, arith, append_assoc}
use Rattle.std.proofs.Math.Logic.{⊎_elim}
use Rattle.std.proofs.Math.Seq.{drop-append-add, take-length}
use Rattle.std.specs.declared.cmp.Ordering.{Ordering}
use Rattle.std.specs.declared.cmp.Ordering.TheVariants.{Less, Equal, Greater}
use Rattle.text_core.specs.declared.item.Item.{Item}
use Rattle.trie_nodes.specs.declared.entry.Entry.{Entry}
use Rattle.trie_build.specs.Distinct.{IsIn, number_in}
use Rattle.std.specs.Ordering.{is_eq}
use Rattle.trie_build.proofs.TotalOrder.{IsOrder}
use Rattle.trie_build.specs.Order.{path_cmp}
use Rattle.trie_build.specs.Paths.{ending_at, paths_of, patterns_of, same_path}
use Rattle.trie_build.proofs.Distinguishing.{in_filter, in_flat_map, map_in}
use Rattle.trie_build.proofs.Orders.{paths_order}
use Rattle.trie_build.proofs.Paths.{prefix_is_path}
use Rattle.trie_build.specs.Image.{by_nodes}

pub tied : (o : Ordering) → is_eq o ≡ true → o ≡ Equal
tied Less h = cc
tied Equal h = refl
tied Greater h = cc

-- a member is found at its number
module _ {A : Type 0} (cmp : A → A → Ordering) (order : IsOrder cmp) (x : A) where
  pub number_within : (xs : List A) → IsIn x xs → number_in cmp xs x < length xs
  number_within [] i = absurd i
  number_within (y ∷ ys) i = by (is_eq (cmp x y)) refl (λ j. number_within ys j) where
    by : (v : Bool) → is_eq (cmp x y) ≡ v → (IsIn x ys → number_in cmp ys x < length ys) → number_in cmp (y ∷ ys) x < suc (length ys)
    by true e on = rw e (omega arith)
    by false e on = rw e (omega (arith, on (rest e))) where
      rest : is_eq (cmp x y) ≡ false → IsIn x ys
      rest f = ⊎_elim (λ same. absurd (let tie : is_eq (cmp x y) ≡ true = ap (λ z. is_eq (cmp x z)) (sym same) ∙ ap is_eq (order.itself x) in cc)) (λ j. j) i

  pub number_found : (xs : List A) (d : A) → IsIn x xs → get_or xs (number_in cmp xs x) d ≡ x
  number_found [] d i = absurd i
  number_found (y ∷ ys) d i = by (is_eq (cmp x y)) refl (λ j. number_found ys d j) where
    by : (v : Bool) → is_eq (cmp x y) ≡ v → (IsIn x ys → get_or ys (number_in cmp ys x) d ≡ x) → get_or (y ∷ ys) (number_in cmp (y ∷ ys) x) d ≡ x
    by true e on = rw e (sym (order.same x y (tied (cmp x y) e)))
    by false e on = rw e (ap (λ k. get_or (y ∷ ys) k d) (one_more (number_in cmp ys x)) ∙ on (rest e)) where
      one_more : (n : ℕ) → 1 + n ≡ suc n
      one_more n = omega arith

      rest : is_eq (cmp x y) ≡ false → IsIn x ys
      rest f = ⊎_elim (λ same. absurd (let tie : is_eq (cmp x y) ≡ true = ap (λ z. is_eq (cmp x z)) (sym same) ∙ ap is_eq (order.itself x) in cc)) (λ j. j) i

-- the entries of the nodes are the entries
module _ (es : List Entry) where
  pub pattern_is : (e : Entry) (p : List Item) → IsIn e (ending_at es p) → e.pattern ≡ p
  pattern_is e p i = let w = in_filter (λ (x : Entry). same_path x.pattern p) e es i in paths_order.same e.pattern p (tied (path_cmp e.pattern p) w.1)

  pub in_entries : (e : Entry) → IsIn e (by_nodes es) → IsIn e es
  in_entries e i =
      let w = in_flat_map (ending_at es) e (paths_of es) i in
      (in_filter (λ (x : Entry). same_path x.pattern w.0) e es w.2).0

  pub pattern_in : (e : Entry) → IsIn e es → IsIn e.pattern (paths_of es)
  pattern_in e i =
      subst (λ q. IsIn q (paths_of es)) (take-length e.pattern)
      (prefix_is_path (patterns_of es) e.pattern (length e.pattern) (map_in (λ (x : Entry). x.pattern) e es i) (omega arith))

-- pieces one after another: one of them, what comes before it and what after it
module _ {X : Type 0} (f : X → List ℕ) where
  pub cut_at : (xs : List X) (i : ℕ) (d : X) → i < length xs → flat_map f xs ≡ flat_map f (take i xs) ++ (f (get_or xs i d) ++ flat_map f (drop (suc i) xs))
  cut_at [] i d h = absurd (omega arith)
  cut_at (x ∷ xs) zero d h = refl
  cut_at (x ∷ xs) (suc i) d h = ap (λ l. f x ++ l) (cut_at xs i d (omega arith)) ∙ sym (append_assoc (f x) (flat_map f (take i xs)) (f (get_or xs i d) ++ flat_map f (drop (suc i) xs)))

  -- what is read at the start of a piece, with the pieces between others
  pub piece_read : (xs : List X) (i : ℕ) (d : X) (before following piece : List ℕ) (place : ℕ) → i < length xs → f (get_or xs i d) ≡ piece → place ≡ length before + length (flat_map f (take i xs))
      → (rest : List ℕ) × (drop place (before ++ (flat_map f xs ++ following)) ≡ piece ++ rest)
  piece_read xs i d before following piece place h own at =
      let prefix : List ℕ = flat_map f (take i xs) in
      let later : List ℕ = flat_map f (drop (suc i) xs) in
      let whole : before ++ (flat_map f xs ++ following) ≡ before ++ (prefix ++ (piece ++ (later ++ following))) =
      ap (λ l. before ++ (l ++ following)) (cut_at xs i d h ∙ ap (λ l. prefix ++ (l ++ later)) own) ∙ simp append_assoc in
      let after_before : drop (length before + length prefix) (before ++ (prefix ++ (piece ++ (later ++ following)))) ≡ drop (length prefix) (prefix ++ (piece ++ (later ++ following))) =
      drop-append-add before (prefix ++ (piece ++ (later ++ following))) (length prefix) in
      let at_piece : drop (length prefix) (prefix ++ (piece ++ (later ++ following))) ≡ piece ++ (later ++ following) =
      ap (λ n. drop n (prefix ++ (piece ++ (later ++ following)))) (sym (add_none (length prefix))) ∙ drop-append-add prefix (piece ++ (later ++ following)) 0 in
      (later ++ following, ap (λ n. drop n (before ++ (flat_map f xs ++ following))) at ∙ ap (drop (length before + length prefix)) whole ∙ after_before ∙ at_piece)
    where
      add_none : (n : ℕ) → n + 0 ≡ n
      add_none n = omega arith
