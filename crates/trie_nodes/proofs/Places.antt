-- Properties that were found, among which others are placed.
use Rattle.std.proofs.Common.{◌≡◌, ◌≢◌, ℕ, zero, suc, ◌-◌, ◌<◌, ◌≤◌, List, ◌∷◌, [], ◌++◌, length, set, get_or, sym, ◌∙◌, ap, arith, cond}
use Rattle.std.proofs.Math.ListN.{get_or-map}
use Rattle.std.proofs.lemmas.Bool.{lt-ltb, le-ltb}
use Rattle.std.proofs.lemmas.List.{length-map, map-set, map-append, set-get_or, get_or_default}
use Rattle.std.specs.List.{HoldsAt}
use Rattle.trie_nodes.specs.Places.{NoneAfter}
use Rattle.trie_nodes.specs.Found.{found_entry, found_entries}
use Rattle.trie_nodes.specs.declared.found.Found.{Found}
use Rattle.trie_nodes.specs.declared.entry.Entry.{Entry}
use Rattle.trie_nodes.specs.Query.{put, winner}
use Rattle.trie_nodes.specs.Winning.{KeysRise}
use Rattle.trie_nodes.proofs.Placing.{all_before, put_after, put_found}

-- what holds of the entry at i holds of the entry at i
at_seen : (P : Entry → Type 0) (ws : List Found) (i : ℕ) (d : Entry) → i < length ws → ((b : Found) → P (found_entry (get_or ws i b))) → P (get_or (found_entries ws) i d)
at_seen P [] i d h p = absurd (omega arith)
at_seen P (w ∷ ws) zero d h p = p w
at_seen P (w ∷ ws) (suc i) d h p = at_seen P ws i d (omega arith) p

-- the entry at i
there : (ws : List Found) (i : ℕ) (r old : Found) → i < length (found_entries ws) → old ≡ get_or ws i old → get_or (found_entries ws) i (found_entry r) ≡ (found_entry old)
there ws i r old within is =
    get_or_default (found_entries ws) i (found_entry r) (found_entry old) within ∙ get_or-map (λ (b : Found). found_entry b) ws i old ∙ ap (λ (b : Found). found_entry b) (sym is)

-- r, which has the key of what is at i, wins over what is there
pub wins : (ws : List Found) (i : ℕ) (r old : Found) → KeysRise (found_entries ws) → (i < length (found_entries ws)) × HoldsAt (λ (x : Entry). x.key ≡ (found_entry r).key) (found_entries ws) i
    → old ≡ get_or ws i old → (found_entry old).order ≤ (found_entry r).order → found_entries (set ws i r) ≡ put (found_entries ws) (found_entry r)
wins ws i r old rises found is up =
    map-set found_entry ws i r
    ∙ sym (put_found (found_entries ws) i (found_entry r) rises found.0 found.1
    ∙ ap (λ (x : Entry). set (found_entries ws) i (winner x (found_entry r))) (there ws i r old found.0 is)
    ∙ ap (λ b. set (found_entries ws) i (cond b (found_entry old) (found_entry r))) (le-ltb (found_entry r).order (found_entry old).order up))

-- it loses, and all stays
pub loses : (ws : List Found) (i : ℕ) (r old : Found) → KeysRise (found_entries ws) → (i < length (found_entries ws)) × HoldsAt (λ (x : Entry). x.key ≡ (found_entry r).key) (found_entries ws) i
    → old ≡ get_or ws i old → (found_entry r).order < (found_entry old).order → found_entries ws ≡ put (found_entries ws) (found_entry r)
loses ws i r old rises found is less =
    sym (put_found (found_entries ws) i (found_entry r) rises found.0 found.1
    ∙ ap (λ (x : Entry). set (found_entries ws) i (winner x (found_entry r))) (there ws i r old found.0 is)
    ∙ ap (λ b. set (found_entries ws) i (cond b (found_entry old) (found_entry r))) (lt-ltb (found_entry r).order (found_entry old).order less)
    ∙ ap (set (found_entries ws) i) (sym (there ws i r old found.0 is))
    ∙ set-get_or (found_entries ws) i (found_entry r))

-- the last has the key
pub last_has : (ws : List Found) (last : Found) (key : List ℕ) → 0 < length ws → last ≡ get_or ws (length ws - 1) last → (found_entry last).key ≡ key
    → (length ws - 1 < length (found_entries ws)) × HoldsAt (λ (x : Entry). x.key ≡ key) (found_entries ws) (length ws - 1)
last_has ws last key some is same =
    (simp length-map (omega arith), λ d. at_seen (λ e. e.key ≡ key) ws (length ws - 1) d (omega arith) (λ b. ap (λ (f : Found). (found_entry f).key) (get_or_default ws (length ws - 1) b last (omega arith) ∙ sym is) ∙ same))

-- the last has another key
pub other_last : (ws : List Found) (last : Found) (key : List ℕ) → last ≡ get_or ws (length ws - 1) last → (last.key.now ≢ key)
    → (other : Found) → 0 < length ws → other ≡ get_or ws (length ws - 1) other → (found_entry other).key ≢ key
other_last ws last key is apart other some is_too same =
    apart (ap (λ (f : Found). (found_entry f).key) (is ∙ get_or_default ws (length ws - 1) last other (omega arith) ∙ sym is_too) ∙ same)

-- one whose key is not the last's comes in after all
pub enters : (ws : List Found) (r : Found) → KeysRise (found_entries ws) → NoneAfter (found_entries ws) (found_entry r).key
    → ((last : Found) → 0 < length ws → last ≡ get_or ws (length ws - 1) last → (found_entry last).key ≢ (found_entry r).key) → found_entries (ws ++ r ∷ []) ≡ put (found_entries ws) (found_entry r)
enters ws r rises following apart =
    map-append found_entry ws (r ∷ [])
    ∙ sym (put_after (found_entries ws) (found_entry r) (all_before (found_entries ws) (found_entry r).key rises following own)) where
      own : (x : Entry) → 0 < length (found_entries ws) → x ≡ get_or (found_entries ws) (length (found_entries ws) - 1) x → x.key ≢ (found_entry r).key
      own x some is same =
          let there : 0 < length ws = simp length-map at some in
          let last : Found = get_or ws (length ws - 1) r in
          let shown : x ≡ found_entry last =
          is ∙ ap (λ n. get_or (found_entries ws) (n - 1) x) (simp length-map) ∙ get_or_default (found_entries ws) (length ws - 1) x (found_entry r) (simp length-map (omega arith)) ∙ get_or-map (λ (b : Found). found_entry b) ws (length ws - 1) r in
          apart last there (get_or_default ws (length ws - 1) r last (omega arith)) (ap (λ (e : Entry). e.key) (sym shown) ∙ same)
