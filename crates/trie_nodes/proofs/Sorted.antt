-- Properties that are sorted by key, among those that were put.
use Rattle.std.proofs.Common.{◌≡◌, ℕ, ◌+◌, ◌<◌, min, Bool, true, false, cond, List, ◌∷◌, [], ◌++◌, length, take, filter, fold, get_or, refl, sym, ◌∙◌, ap, arith, subst, length-take}
use Rattle.std.proofs.lemmas.Cmp.{nat_list_cmp_total}
use Rattle.std.proofs.lemmas.List.{get_or-take, map-append, take_more, get_or_default}
use Rattle.std.proofs.lemmas.List.Elements.{All-map}
use Rattle.std.proofs.lemmas.List.Sorted.{ranks_by, sorted_far}
use Rattle.std.specs.List.Sorted.{IsSortedBy, IsStableBy}
use Rattle.std.specs.Ordering.{is_lt}
use Rattle.trie_nodes.specs.declared.entry.Entry.{Entry}
use Rattle.trie_nodes.specs.declared.found.Found.{Found}
use Rattle.trie_nodes.specs.Found.{found_entries, found_entry}
use Rattle.trie_nodes.specs.Places.{NoneAfter}
use Rattle.trie_nodes.specs.Query.{put}
use Rattle.text_bytes.specs.Insertion.{text_order}
use Rattle.trie_nodes.proofs.Settling.{alike, AlikeIn, fold_all, settle_alike}

-- whether the key of a property comes before that of another
abbrev pub before : Found → Found → Bool
before f other = is_lt (text_order (found_entry f).key (found_entry other).key)

filter_seen : (key : List ℕ) (fs : List Found) → filter (alike key) (found_entries fs) ≡ found_entries (filter (λ f. alike key (found_entry f)) fs)
filter_seen key [] = refl
filter_seen key (f ∷ fs) = ap (λ l. cond (alike key (found_entry f)) (found_entry f ∷ l) l) (filter_seen key fs) ∙ by (alike key (found_entry f)) where
  by : (b : Bool) → cond b (found_entry f ∷ found_entries (filter (λ f. alike key (found_entry f)) fs)) (found_entries (filter (λ f. alike key (found_entry f)) fs))
      ≡ found_entries (cond b (f ∷ filter (λ f. alike key (found_entry f)) fs) (filter (λ f. alike key (found_entry f)) fs))
  by true = refl
  by false = refl

alike_sorted : (fs sorted : List Found) → IsStableBy before fs sorted → (f : Found) → AlikeIn (found_entries sorted) (found_entries fs) (found_entry f).key
alike_sorted fs sorted stable f = filter_seen (found_entry f).key sorted ∙ ap found_entries (stable f) ∙ sym (filter_seen (found_entry f).key fs)

-- what is sorted settles as it was listed
pub same_settled : (fs sorted : List Found) → IsStableBy before fs sorted → fold put [] (found_entries sorted) ≡ fold put [] (found_entries fs)
same_settled fs sorted stable =
    settle_alike (found_entries sorted) (found_entries fs)
    (All-map (λ (e : Entry). AlikeIn (found_entries sorted) (found_entries fs) e.key) found_entry sorted (λ k d within. alike_sorted fs sorted stable (get_or sorted k d)))
    (All-map (λ (e : Entry). AlikeIn (found_entries fs) (found_entries sorted) e.key) found_entry fs (λ k d within. sym (alike_sorted fs sorted stable (get_or fs k d))))

module _ (sorted : List Found) (i : ℕ) (d : Found) (within : i < length sorted) where
  abbrev next : Found
  next = get_or sorted i d

  -- none of those that count so far has a key after the next
  pub first_came : (won : List Entry) → won ≡ fold put [] (found_entries (take i sorted)) → IsSortedBy before sorted → NoneAfter won (found_entry next).key
  first_came won is up =
      subst (λ (l : List Entry). NoneAfter l (found_entry next).key) (sym is) (fold_all (λ (e : Entry). is_lt (text_order (found_entry next).key e.key) ≡ false) [] (found_entries (take i sorted)) (λ k e inside. absurd (omega arith))
      (All-map (λ (e : Entry). is_lt (text_order (found_entry next).key e.key) ≡ false) found_entry (take i sorted) (λ k e inside. earlier k e (let shorter : k < min i (length sorted) = simp length-take at inside in omega (arith, shorter))))) where
        earlier : (k : ℕ) (e : Found) → k < i → is_lt (text_order (found_entry next).key (found_entry (get_or (take i sorted) k e)).key) ≡ false
        earlier k e less =
            ap (λ (x : Found). is_lt (text_order (found_entry next).key (found_entry x).key)) (get_or-take i sorted k e less)
            ∙ ap (λ (x : Found). is_lt (text_order (found_entry x).key (found_entry (get_or sorted k e)).key)) (get_or_default sorted i d e within)
            ∙ sorted_far before (ranks_by nat_list_cmp_total (λ f. (found_entry f).key)) sorted up k i e (omega arith) within

  -- one more is put
  pub settle_more : (won more : List Entry) → won ≡ fold put [] (found_entries (take i sorted)) → more ≡ put won (found_entry next) → more ≡ fold put [] (found_entries (take (i + 1) sorted))
  settle_more won more is grown =
      grown
      ∙ ap (λ (l : List Entry). put l (found_entry next)) is
      ∙ sym (fold_push [] (found_entries (take i sorted)) (found_entry next))
      ∙ ap (fold put []) (sym (map-append found_entry (take i sorted) (next ∷ [])) ∙ ap found_entries (sym (take_more sorted i d within))) where
        fold_push : (xs es : List Entry) (e : Entry) → fold put xs (es ++ e ∷ []) ≡ put (fold put xs es) e
        fold_push xs [] e = refl
        fold_push xs (x ∷ es) e = fold_push (put xs x) es e
