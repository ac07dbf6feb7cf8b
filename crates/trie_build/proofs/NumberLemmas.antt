-- The number of a text among others.
use Rattle.std.proofs.Common.{◌≡◌, ℕ, zero, suc, ◌<◌, ◌≤◌, List, [], ◌∷◌, inl, inr, length, get_or, sym, ◌∙◌, ap, subst, arith, Ok, Err, ⊎_elim}
use Rattle.std.proofs.Math.ListN.{get_or-map}
use Rattle.std.proofs.lemmas.Bool.{cases_order}
use Rattle.std.proofs.lemmas.Bool.Decides.{leb_tells}
use Rattle.std.proofs.lemmas.List.{length-map}
use Rattle.std.specs.List.Sorted.{IsBinarySearchResult, IsSearchInRange, IsNonDecreasingBy}
use Rattle.std.specs.Ordering.{ordering_index}
use Rattle.std.specs.Borrow.{Bor}
use Rattle.std.specs.declared.cmp.Ordering.TheVariants.{Less, Equal, Greater}
use Rattle.trie_nodes.proofs.Keys.{rank_rises, same_key}
use Rattle.trie_build.specs.Distinct.{IsIn, Rises, number_in}
use Rattle.text_bytes.specs.Insertion.{text_order}
use Rattle.trie_build.proofs.Distinguishing.{in_get}
use Rattle.trie_build.proofs.Orders.{texts_order}
use Rattle.trie_build.proofs.Members.{number_found, number_within}
use Rattle.trie_build.specs.Content.{shown}
use Rattle.trie_build.proofs.Parts.{rises_apart}

-- what holds of the text after the reference at i holds of the text at i
at_shown : (P : List ℕ → Type 0) (ws : List (Bor (List ℕ))) (i : ℕ) (d : List ℕ) → i < length ws → ((b : Bor (List ℕ)) → P (get_or ws i b).now) → P (get_or (shown ws) i d)
at_shown P [] i d h p = absurd (omega arith)
at_shown P (w ∷ ws) zero d h p = p w
at_shown P (w ∷ ws) (suc i) d h p = at_shown P ws i d (omega arith) p

module _ (ws : List (Bor (List ℕ))) (text : List ℕ) (up : Rises text_order (shown ws)) (there : IsIn text (shown ws)) where
  following : (i : ℕ) (b : Bor (List ℕ)) → get_or (shown ws) i b.now ≡ (get_or ws i b).now
  following i b = get_or-map (λ (t : Bor (List ℕ)). t.now) ws i b

  ranks_rise : IsNonDecreasingBy (λ (b : Bor (List ℕ)). ordering_index (text_order b.now text)) ws
  ranks_rise i j d le within = ⊎_elim same (⊎_elim apart (λ (more : j < i). absurd (omega arith))) (cases_order i j) where
    apart : i < j → ordering_index (text_order (get_or ws i d).now text) ≤ ordering_index (text_order (get_or ws j d).now text)
    apart less =
        let inside : j < length (shown ws) = simp length-map within in
        let rise : text_order (get_or ws i d).now (get_or ws j d).now ≡ Less =
        ap (λ (t : List ℕ). text_order t (get_or ws j d).now) (sym (following i d)) ∙ ap (text_order (get_or (shown ws) i d.now)) (sym (following j d)) ∙ rises_apart text_order (shown ws) up i j d.now less inside in
        rank_rises (get_or ws i d).now (get_or ws j d).now text rise

    same : i ≡ j → ordering_index (text_order (get_or ws i d).now text) ≤ ordering_index (text_order (get_or ws j d).now text)
    same one = subst (λ (n : ℕ). ordering_index (text_order (get_or ws i d).now text) ≤ ordering_index (text_order (get_or ws n d).now text)) one (omega arith)

  -- places with one text are one
  one_place : (i j : ℕ) → i < length (shown ws) → j < length (shown ws) → get_or (shown ws) i [] ≡ get_or (shown ws) j [] → i ≡ j
  one_place i j h k e = ⊎_elim (λ same. same) (λ rest. absurd (⊎_elim
      (λ less. let below = rises_apart text_order (shown ws) up i j [] less k in let tie : text_order (get_or (shown ws) i []) (get_or (shown ws) j []) ≡ Equal = ap (text_order (get_or (shown ws) i [])) (sym e) ∙ texts_order.itself (get_or (shown ws) i []) in cc)
      (λ more. let below = rises_apart text_order (shown ws) up j i [] more h in let tie : text_order (get_or (shown ws) j []) (get_or (shown ws) i []) ≡ Equal = ap (text_order (get_or (shown ws) j [])) e ∙ texts_order.itself (get_or (shown ws) j []) in cc) rest)) (cases_order i j)

  pub found_is : (i : ℕ) → IsSearchInRange (Ok i) (length ws) → IsBinarySearchResult (λ (b : Bor (List ℕ)). text_order b.now text) ws (Ok i) → i ≡ number_in text_order (shown ws) text
  found_is i range found =
      let inside : i < length (shown ws) = simp length-map range in
      let own : get_or (shown ws) i [] ≡ text = at_shown (λ t. t ≡ text) ws i [] range (λ b. same_key (get_or ws i b).now text (found b)) in
      one_place i (number_in text_order (shown ws) text) inside (number_within text_order texts_order text (shown ws) there) (own ∙ sym (number_found text_order texts_order text (shown ws) [] there))

  pub not_missing : (i : ℕ) → IsBinarySearchResult (λ (b : Bor (List ℕ)). text_order b.now text) ws (Err i) → ⊥
  not_missing i found =
      let parts = found ranks_rise in
      let w = in_get [] text (shown ws) there in
      let k : ℕ = w.0 in
      let inside : k < length ws = simp length-map at w.1 in
      let tie : text_order (get_or (shown ws) k []) text ≡ Equal = ap (λ t. text_order t text) (sym w.2) ∙ texts_order.itself text in
      elim (leb_tells i k) [
        | inl t ↦ let above : text_order (get_or (shown ws) k []) text ≡ Greater = at_shown (λ t. text_order t text ≡ Greater) ws k [] inside (λ b. parts.1 k b t.1 inside) in cc
        | inr t ↦ let below : text_order (get_or (shown ws) k []) text ≡ Less = at_shown (λ t. text_order t text ≡ Less) ws k [] inside (λ b. parts.0 k b (omega arith) t.1) in cc
      ]
