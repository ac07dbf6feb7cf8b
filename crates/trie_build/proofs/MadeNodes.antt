-- The trie that is built of entries.
use Rattle.std.proofs.Common.{◌≡◌, ℕ, ◌<◌, List, ◌∷◌, [], length, map, get_or, sym, ◌∙◌, ap, subst, arith, Result, Err}
use Rattle.std.proofs.lemmas.List.{get_or-map, length-map}
use Rattle.std.proofs.lemmas.List.Sorted.{Contains-permutation}
use Rattle.std.specs.Result.{MatchResult}
use Rattle.std.specs.List.{All, Contains, range_with_len}
use Rattle.std.specs.List.Sorted.{IsPermutation}
use Rattle.text_core.specs.declared.item.Item.{Item}
use Rattle.trie_nodes.specs.Orders.{Rising}
use Rattle.trie_nodes.specs.declared.entry.Entry.{Entry}
use Rattle.trie_nodes.specs.declared.node.Node.{Node}
use Rattle.trie_build.specs.Distinct.{IsIn}
use Rattle.trie_build.specs.Order.{path_cmp}
use Rattle.trie_build.specs.Paths.{paths_among, paths_of, patterns_of}
use Rattle.trie_build.proofs.Distinguishing.{get_in, in_get, in_map, map_in, one_list, range_in}
use Rattle.trie_build.proofs.Orders.{paths_order}
use Rattle.trie_build.proofs.Paths.{path_is_prefix, paths_tree, prefix_is_path}
use Rattle.trie_build.specs.Building.{AreNodes}
use Rattle.trie_build.specs.Content.{entry_at, no_entry}
use Rattle.trie_build.specs.Held.{IsHeld}
use Rattle.trie_build.specs.Rows.{Reports, SameRise, pattern_at, patterns}
use Rattle.trie_build.specs.declared.fault.TrieFault.{TrieFault}
use Rattle.trie_build.specs.declared.fault.TrieFault.TheVariants.{TooLarge}
use Rattle.trie_build.specs.declared.rows.Row.{Row}
use Rattle.trie_build.proofs.Answering.{contains_of, in_of, rising_far}
use Rattle.trie_build.proofs.Sorting.{row_at}

-- what is said of a fault that is passed on
pub refused : {T : Type 0} (r : Result T TrieFault) (y e : TrieFault) (P : T → Type 0) (Q : Type 0) → r ≡ Err y → y ≡ e → (e ≡ TooLarge → Q) → MatchResult r P (λ f. f ≡ TooLarge → Q)
refused {T} r y e P Q f g h = subst (λ (x : Result T TrieFault). MatchResult x P (λ f. f ≡ TooLarge → Q)) (sym (f ∙ ap Err g)) h

-- the paths of patterns are among those of patterns that have them all
among : (ps qs : List (List Item)) → ((p : List Item) → IsIn p ps → IsIn p qs) → (z : List Item) → IsIn z (paths_among ps) → IsIn z (paths_among qs)
among ps qs to [] i = (paths_tree qs).root
among ps qs to (x ∷ z) i =
    let w = path_is_prefix ps (x ∷ z) i (omega arith) in
    subst (λ q. IsIn q (paths_among qs)) (sym w.3) (prefix_is_path qs w.0 (length (x ∷ z)) (to w.0 w.1) w.2)

same_paths : (ps qs : List (List Item)) → ((p : List Item) → IsIn p ps → IsIn p qs) → ((p : List Item) → IsIn p qs → IsIn p ps) → paths_among ps ≡ paths_among qs
same_paths ps qs to fro = one_list path_cmp paths_order (paths_among ps) (paths_among qs) (paths_tree ps).rises (paths_tree qs).rises (among ps qs to) (among qs ps fro)

module _ (es : List Entry) (rows : List Row) (reports : All (Reports es) rows) (numbers : List ℕ) (same : numbers ≡ map (λ (r : Row). r.number) rows)
    (each : IsPermutation (range_with_len 0 (length es)) (map (λ (r : Row). r.number) rows)) where
  row_reported : (x : ℕ) → x < length rows → pattern_at (patterns rows) x ≡ (entry_at es (get_or numbers x 0)).pattern
  row_reported x h =
      let w = row_at rows x h in
      let r : Row = w.0 in
      let reported : Reports es r = subst (Reports es) (w.2 r) (reports x r h) in
      let number : get_or numbers x 0 ≡ r.number = ap (λ l. get_or l x 0) same ∙ get_or-map (λ (s : Row). s.number) rows x r 0 h ∙ ap (λ (s : Row). s.number) (w.2 r) in
      w.1 ∙ reported.items ∙ ap (λ n. (entry_at es n).pattern) (sym number)

  to : (p : List Item) → IsIn p (patterns rows) → IsIn p (patterns_of es)
  to p i =
      let w = in_map (λ (r : Row). r.items.now) p rows i in
      let r : Row = w.0 in
      let at = in_get r r rows w.1 in
      let reported : Reports es r = subst (Reports es) (sym at.2) (reports at.0 r at.1) in
      subst (λ q. IsIn q (patterns_of es)) (sym (w.2 ∙ reported.items)) (map_in (λ (e : Entry). e.pattern) (entry_at es r.number) es (get_in no_entry es r.number reported.within))

  fro : (p : List Item) → IsIn p (patterns_of es) → IsIn p (patterns rows)
  fro p i =
      let w = in_map (λ (e : Entry). e.pattern) p es i in
      let at = in_get no_entry w.0 es w.1 in
      let n : ℕ = at.0 in
      let named : Contains (map (λ (r : Row). r.number) rows) n =
      Contains-permutation (range_with_len 0 (length es)) (map (λ (r : Row). r.number) rows) n each (contains_of n (range_with_len 0 (length es)) (range_in n 0 (length es) (omega arith) (omega (arith, at.1)))) in
      let own = in_map (λ (r : Row). r.number) n rows (in_of n (map (λ (r : Row). r.number) rows) named) in
      let r : Row = own.0 in
      let place = in_get r r rows own.1 in
      let reported : Reports es r = subst (Reports es) (sym place.2) (reports place.0 r place.1) in
      let pattern : p ≡ r.items.now = w.2 ∙ ap (λ (e : Entry). e.pattern) at.2 ∙ ap (λ k. (entry_at es k).pattern) own.2 ∙ sym reported.items in
      subst (λ q. IsIn q (patterns rows)) (sym pattern) (map_in (λ (s : Row). s.items.now) r rows own.1)

  pub paths_are : paths_among (patterns rows) ≡ paths_of es
  paths_are = same_paths (patterns rows) (patterns_of es) to fro

  pub made : Rising es → SameRise rows → (nodes : List Node) → AreNodes (patterns rows) nodes → IsHeld (record { entries = es; numbers = numbers; nodes = nodes })
  made rising rise nodes are =
      let len : length numbers ≡ length rows = ap length same ∙ length-map rows (λ (r : Row). r.number) in
      let long : length (patterns rows) ≡ length rows = length-map rows (λ (r : Row). r.items.now) in
      record {
        rising = rising;
        shape = are.shape;
        count = are.count ∙ ap length paths_are;
        paths = λ i h. are.paths i h ∙ ap (λ l. get_or l i []) paths_are;
        values = subst (IsPermutation (range_with_len 0 (length es))) (sym same) each;
        within = λ i h. omega (arith, (are.each i h).within, len, long);
        own = λ i j h k. (
          (λ v. sym (row_reported j (omega (arith, k, len))) ∙ (are.each i h).own j v.0 v.1 ∙ sym (are.paths i h)),
          (λ e. (are.each i h).has j (omega (arith, k, len, long)) (row_reported j (omega (arith, k, len)) ∙ e ∙ are.paths i h)),
        );
        by_order = λ i j k h v w less.
            let there : k < length rows = omega (arith, w.1, (are.each i h).within, long) in
            let one : pattern_at (patterns rows) j ≡ pattern_at (patterns rows) k =
            (are.each i h).own j v.0 v.1 ∙ sym ((are.each i h).own k w.0 w.1) in
            let up : get_or (map (λ (r : Row). r.number) rows) j 0 < get_or (map (λ (r : Row). r.number) rows) k 0 = rise j k less there one in
            let r = row_at rows k there in
            let reported : Reports es r.0 = subst (Reports es) (r.2 r.0) (reports k r.0 there) in
            let last : get_or (map (λ (s : Row). s.number) rows) k 0 ≡ r.0.number = get_or-map (λ (s : Row). s.number) rows k r.0 0 there ∙ ap (λ (s : Row). s.number) (r.2 r.0) in
            subst (λ l. (entry_at es (get_or l j 0)).order < (entry_at es (get_or l k 0)).order) (sym same)
            (rising_far es rising (get_or (map (λ (s : Row). s.number) rows) j 0) (get_or (map (λ (s : Row). s.number) rows) k 0) up (omega (arith, last, reported.within)));
      }
