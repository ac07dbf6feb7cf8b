-- An index answers as its entries do.
use Rattle.std.proofs.Common.{◌≡◌, ℕ, List, map, sym, ap, subst}
use Rattle.trie_nodes.specs.Orders.{Rising}
use Rattle.trie_nodes.specs.Query.{origin, property, query, sourced, winners}
use Rattle.trie_nodes.specs.declared.entry.Entry.{Entry}
use Rattle.trie_build.proofs.Answering.{same_winners}
use Rattle.trie_nodes.specs.Values.{listed}
use Rattle.trie_build.specs.Distinct.{IsIn}
use Rattle.std.specs.Ordering.{is_eq}
use Rattle.trie_build.specs.Paths.{ending_at, paths_of, same_path}
use Rattle.trie_build.specs.Sizes.{KeepsBounds}
use Rattle.trie_build.proofs.Distinguishing.{filter_in, flat_map_in}
use Rattle.trie_build.proofs.Orders.{paths_order}
use Rattle.trie_build.specs.Contents.{contents}
use Rattle.trie_build.specs.Entries.{AreTyped}
use Rattle.trie_build.specs.Image.{image}
use Rattle.rule_laws.proofs.HwdbListing.{image_lists}
use Rattle.trie_build.proofs.Members.{in_entries, pattern_in}

module _ (es : List Entry) (rising : Rising es) (bounds : KeepsBounds es) (typed : AreTyped es) (m : List ℕ) where
  abbrev reported : List Entry
  reported = listed (contents (image es)).nodes (contents (image es)).values

  to : (e : Entry) → IsIn e reported → IsIn e es
  to e i = in_entries es e (subst (IsIn e) (image_lists es rising bounds typed) i)

  fro : (e : Entry) → IsIn e es → IsIn e reported
  fro e i =
      let own : IsIn e (ending_at es e.pattern) = filter_in (λ (x : Entry). same_path x.pattern e.pattern) e es i (ap is_eq (paths_order.itself e.pattern)) in
      subst (IsIn e) (sym (image_lists es rising bounds typed)) (flat_map_in (ending_at es) e e.pattern (paths_of es) (pattern_in es e i) own)

  same : winners reported m ≡ winners es m
  same = same_winners reported es rising to fro m

  pub query_is : query reported m ≡ query es m
  query_is = ap (map property) same

  pub sources_are : sourced reported m ≡ sourced es m
  sources_are = ap (map origin) same
