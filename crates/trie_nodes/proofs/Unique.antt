-- No other list is the answer.
use Rattle.std.proofs.Common.{◌≡◌, ℕ, zero, suc, ◌+◌, ◌-◌, ◌<◌, ◌≤◌, List, ◌∷◌, [], ◌++◌, length, get_or, refl, sym, ◌∙◌, ap, arith, subst, All, length-append}
use Rattle.std.proofs.Math.ListN.{get_or-append, get_or-map}
use Rattle.std.proofs.Math.Logic.{⊎_elim}
use Rattle.std.proofs.Math.Seq.{get_or-append_seam}
use Rattle.std.proofs.lemmas.Bool.{cases_order}
use Rattle.std.proofs.lemmas.List.{get_or-append-add, length-map}
use Rattle.std.proofs.lemmas.List.Elements.{All-contains, Contains-append_right}
use Rattle.std.specs.List.{Contains}
use Rattle.std.specs.declared.cmp.Ordering.TheVariants.{Less}
use Rattle.trie_nodes.specs.declared.entry.Entry.{Entry}
use Rattle.trie_nodes.specs.Query.{winners}
use Rattle.text_bytes.specs.Insertion.{text_order}
use Rattle.trie_nodes.specs.Winning.{Applies, Counts, IsAnswer, KeysRise}
use Rattle.trie_nodes.proofs.Counting.{differs, first_or, winners_answer}
use Rattle.trie_nodes.proofs.Keys.{before_trans}
use Rattle.trie_nodes.proofs.Placing.{rises_head, rises_tail}

module _ (es : List Entry) (m : List ℕ) where
  -- of two entries that count with one key, none is listed after the other
  not_after : (w v : Entry) (c : Counts es m w) (d : Counts es m v) → w.key ≡ v.key → length c.before < length d.before → ⊥
  not_after w v c d same less =
      let j : ℕ = length d.before - (length c.before + 1) in
      let place : length d.before ≡ length c.before + suc j = omega arith in
      let listed : c.before ++ w ∷ c.after ≡ d.before ++ v ∷ d.after = sym c.listed ∙ d.listed in
      let lengths : length c.before + suc (length c.after) ≡ length d.before + suc (length d.after) =
      sym (length-append c.before (w ∷ c.after)) ∙ ap length listed ∙ length-append d.before (v ∷ d.after) in
      let w_there : get_or d.before (length c.before) w ≡ w =
      sym (get_or-append d.before (v ∷ d.after) w (length c.before) less)
      ∙ ap (λ (l : List Entry). get_or l (length c.before) w) (sym listed)
      ∙ get_or-append_seam c.before w c.after w in
      let v_there : get_or c.after j v ≡ v =
      sym (get_or-append-add c.before (w ∷ c.after) (suc j) v)
      ∙ ap (λ n. get_or (c.before ++ w ∷ c.after) n v) (sym place)
      ∙ ap (λ (l : List Entry). get_or l (length d.before) v) listed
      ∙ get_or-append_seam d.before v d.after v in
      let up : w.order ≤ v.order =
      subst (λ (x : Entry). Applies m v.key x → x.order ≤ v.order) w_there (d.earlier (length c.before) w less) (record { applies = c.applies; has_key = same }) in
      let down : v.order < w.order =
      subst (λ (x : Entry). Applies m w.key x → x.order < w.order) v_there (c.later j v (omega arith)) (record { applies = d.applies; has_key = sym same }) in
      omega arith

  -- so they are one
  same_entry : (w v : Entry) → Counts es m w → Counts es m v → w.key ≡ v.key → w ≡ v
  same_entry w v c d same = ⊎_elim one (⊎_elim (λ less. absurd (not_after w v c d same less)) (λ more. absurd (not_after v w d c (sym same) more))) (cases_order (length c.before) (length d.before)) where
    one : length c.before ≡ length d.before → w ≡ v
    one place =
        sym (get_or-append_seam c.before w c.after v)
        ∙ ap (λ n. get_or (c.before ++ w ∷ c.after) n v) place
        ∙ ap (λ (l : List Entry). get_or l (length d.before) v) (sym c.listed ∙ d.listed)
        ∙ get_or-append_seam d.before v d.after v

  -- what counts is listed
  is_listed : (w : Entry) → Counts es m w → Contains es w
  is_listed w c = subst (λ (l : List Entry). Contains l w) (sym c.listed) (Contains-append_right c.before (w ∷ c.after) w (zero, omega arith, refl))

  -- of two answers, the one has what the other has
  each_in : (xs ys : List Entry) → IsAnswer es m xs → IsAnswer es m ys → All (Contains ys) xs
  each_in xs ys first second k d within =
      let x : Entry = get_or xs k d in
      let counts : Counts es m x = first.counts k d within in
      let there = second.whole x (is_listed x counts) counts.applies in
      let inside : there.0 < length ys = simp length-map at there.1 in
      let same : (get_or ys there.0 x).key ≡ x.key = sym (get_or-map (λ (e : Entry). e.key) ys there.0 x) ∙ there.2 in
      (there.0, inside, same_entry (get_or ys there.0 x) x (second.counts there.0 x inside) counts same)

-- with rising keys the same elements are the same list
pub one_list : (xs ys : List Entry) → KeysRise xs → KeysRise ys → All (Contains ys) xs → All (Contains xs) ys → xs ≡ ys
one_list [] [] up up' to fro = refl
one_list [] (y ∷ ys) up up' to fro = absurd (let c = fro zero y (omega arith) in omega (arith, c.1))
one_list (x ∷ xs) [] up up' to fro = absurd (let c = to zero x (omega arith) in omega (arith, c.1))
one_list (x ∷ xs) (y ∷ ys) up up' to fro =
    let head : x ≡ y = heads in
    let tail : xs ≡ ys = one_list xs ys (rises_tail x xs up) (rises_tail y ys up') (tails x xs y ys up to heads) (tails y ys x xs up' fro (sym heads)) in
    cc where
      heads : x ≡ y
      heads = ⊎_elim sym (λ x_later. ⊎_elim (λ is. is)
          (λ y_later. absurd (differs x.key x.key (before_trans x.key y.key x.key
          (All-contains (λ (z : Entry). text_order x.key z.key ≡ Less) xs y (rises_head x xs up) y_later)
          (All-contains (λ (z : Entry). text_order y.key z.key ≡ Less) ys x (rises_head y ys up') x_later)) refl))
          (first_or x xs y (fro zero y (omega arith)))) (first_or y ys x (to zero x (omega arith)))

      tails : (x : Entry) (xs : List Entry) (y : Entry) (ys : List Entry) → KeysRise (x ∷ xs) → All (Contains (y ∷ ys)) (x ∷ xs) → x ≡ y → All (Contains ys) xs
      tails x xs y ys up to same k d within =
          ⊎_elim (λ is. absurd (differs x.key (get_or xs k d).key (rises_head x xs up k d within) (ap (λ (e : Entry). e.key) (same ∙ is)))) (λ later. later)
          (first_or y ys (get_or xs k d) (to (suc k) d (omega arith)))

-- an answer is the winners
pub only_winners : (es : List Entry) (m : List ℕ) (won : List Entry) → IsAnswer es m won → won ≡ winners es m
only_winners es m won answer =
    one_list won (winners es m) answer.rises (winners_answer es m).rises
    (each_in es m won (winners es m) answer (winners_answer es m)) (each_in es m (winners es m) won (winners_answer es m) answer)
