-- Entries without their patterns, among which those count that count with them.
use Rattle.std.proofs.Common.{◌≡◌, nat_lt, true, false, cond, List, ◌∷◌, [], ℕ, map, fold, refl, sym, ◌∙◌, ap}
use Rattle.std.specs.declared.cmp.Ordering.{Ordering}
use Rattle.std.specs.declared.cmp.Ordering.TheVariants.{Less, Equal, Greater}
use Rattle.trie_nodes.specs.Found.{stripped}
use Rattle.trie_nodes.specs.Query.{fitting, put, winners}
use Rattle.trie_nodes.specs.Places.{placed}
use Rattle.text_bytes.specs.Insertion.{text_order}
use Rattle.trie_nodes.specs.declared.entry.Entry.{Entry}

put_same : (es : List Entry) (e : Entry) → map stripped (put es e) ≡ put (map stripped es) (stripped e)
put_same [] e = refl
put_same (x ∷ es) e = by (put_same es e) (text_order x.key e.key) where
  by : map stripped (put es e) ≡ put (map stripped es) (stripped e)
      → (o : Ordering) → map stripped (placed o e x es (put es e)) ≡ placed o (stripped e) (stripped x) (map stripped es) (put (map stripped es) (stripped e))
  by rest Less = ap (λ (l : List Entry). stripped x ∷ l) rest
  by rest Equal = elim (nat_lt e.order x.order) as (λ v. stripped (cond v x e) ∷ map stripped es ≡ cond v (stripped x) (stripped e) ∷ map stripped es) [ true ↦ refl | false ↦ refl ]
  by rest Greater = refl

pub fold_same : (acc es : List Entry) → map stripped (fold put acc es) ≡ fold put (map stripped acc) (map stripped es)
fold_same acc [] = refl
fold_same acc (e ∷ es) = fold_same (put acc e) es ∙ ap (λ (l : List Entry). fold put l (map stripped es)) (put_same acc e)

-- what does not look at the pattern is the same of the stripped entries
pub same_stripped : {A : Type 0} (f : Entry → A) → ((e : Entry) → f (stripped e) ≡ f e) → (es : List Entry) → map f (map stripped es) ≡ map f es
same_stripped f same [] = refl
same_stripped f same (e ∷ es) = ap (λ x. x ∷ map f (map stripped es)) (same e) ∙ ap (λ l. f e ∷ l) (same_stripped f same es)

-- what is reported for those that count, if they were found without their patterns
pub reported_for_winners : {A : Type 0} (f : Entry → A) → ((e : Entry) → f (stripped e) ≡ f e) → (won es : List Entry) (m : List ℕ)
    → won ≡ fold put [] (map stripped (fitting es m)) → map f won ≡ map f (winners es m)
reported_for_winners f same won es m is = ap (map f) (is ∙ sym (fold_same [] (fitting es m))) ∙ same_stripped f same (winners es m)
