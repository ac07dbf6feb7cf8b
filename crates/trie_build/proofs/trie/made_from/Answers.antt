use Rattle.std.proofs.Common.{◌≡◌, ◌≤◌, ◌<◌, ◌∙◌, List, length, map, refl, sym, subst, ap, arith}
use Rattle.std.proofs.lemmas.Result.{err_from_is_err_and}
use Rattle.std.specs.List.{range_with_len}
use Rattle.std.proofs.lemmas.List.{length-map}
use Rattle.std.proofs.lemmas.List.FromFn.{length-range_with_len}
use Rattle.std.proofs.lemmas.List.Sorted.{length_permutation}
use Rattle.trie_build.specs.Paths.{paths_among, paths_of}
use Rattle.trie_build.specs.Building.{AreNodes}
use Rattle.trie_nodes.specs.Bounds.{max_nodes}
use Rattle.trie_build.specs.Rows.{AreShared, patterns}
use Rattle.trie_build.specs.declared.rows.Row.{Row}
use Rattle.trie_build.proofs.MadeNodes.{made, paths_are, refused}
use Rattle.trie_build.proofs.trie.made_from.Goals as goal

pub nodes_of-requires-clause-few : goal.nodes_of-requires-clause-few
nodes_of-requires-clause-few c =
    let rows : List Row = c.in_ok-rows.rows.items in
    let all : length (map (λ (r : Row). r.number) rows) ≡ length (range_with_len 0 (length c.args.entries.now)) =
    length_permutation (range_with_len 0 (length c.args.entries.now)) (map (λ (r : Row). r.number) rows) c.in_ok-rows.ensures.numbers in
    let one : length (map (λ (r : Row). r.number) rows) ≡ length rows = length-map rows (λ (r : Row). r.number) in
    let other : length (patterns c.deref-2.result.now) ≡ length rows = length-map c.deref-2.result.now (λ (r : Row). r.items.now) ∙ ap length c.deref-2.ensures.value in
    omega (arith, all, one, other, length-range_with_len 0 (length c.args.entries.now), c.requires.few)

pub nodes_of-requires-clause-shared : goal.nodes_of-requires-clause-shared
nodes_of-requires-clause-shared c =
    let rows : AreShared (patterns c.deref-2.result.now) c.in_ok-shared.shared.items =
    subst (λ (l : List Row). AreShared (patterns l) c.in_ok-shared.shared.items) (c.deref.ensures.value ∙ sym c.deref-2.ensures.value) c.in_ok-shared.ensures in
    subst (AreShared (patterns c.deref-2.result.now)) (sym c.deref-3.ensures.value) rows

pub returns-in_err-nodes-clause-fits : goal.returns-in_err-nodes-clause-fits
returns-in_err-nodes-clause-fits c =
    let rows : List Row = c.in_ok-rows.rows.items in
    let p = err_from_is_err_and c.from_residual-in_err-nodes.result c.from_residual-in_err-nodes.ensures.1 in
    let same : paths_among (patterns c.deref-2.result.now) ≡ paths_of c.args.entries.now =
    ap (λ (l : List Row). paths_among (patterns l)) c.deref-2.ensures.value
    ∙ paths_are c.args.entries.now rows c.in_ok-rows.ensures.rows (map (λ (r : Row). r.number) rows) refl c.in_ok-rows.ensures.numbers in
    refused c.from_residual-in_err-nodes.result p.0 c.in_err-nodes.field-0.0 (λ _. length (paths_of c.args.entries.now) ≤ max_nodes) (max_nodes < length (paths_of c.args.entries.now)) p.1 p.2
    (λ is. subst (λ l. max_nodes < length l) same (c.in_err-nodes.ensures.fits is))

pub returns-clause-trie : goal.returns-clause-trie
returns-clause-trie c =
    let rows : List Row = c.in_ok-rows.rows.items in
    let numbers : c.in_ok-numbers.numbers.items ≡ map (λ (r : Row). r.number) rows = c.in_ok-numbers.ensures ∙ ap (map (λ (r : Row). r.number)) c.deref-4.ensures.value in
    let nodes : AreNodes (patterns rows) c.in_ok-nodes.nodes.items = subst (λ (l : List Row). AreNodes (patterns l) c.in_ok-nodes.nodes.items) c.deref-2.ensures.value c.in_ok-nodes.ensures.nodes in
    made c.args.entries.now rows c.in_ok-rows.ensures.rows c.in_ok-numbers.numbers.items numbers c.in_ok-rows.ensures.numbers c.requires.rising c.in_ok-rows.ensures.rise c.in_ok-nodes.nodes.items nodes

pub returns-clause-fits : goal.returns-clause-fits
returns-clause-fits c =
    let rows : List Row = c.in_ok-rows.rows.items in
    let numbers : c.in_ok-numbers.numbers.items ≡ map (λ (r : Row). r.number) rows = c.in_ok-numbers.ensures ∙ ap (map (λ (r : Row). r.number)) c.deref-4.ensures.value in
    let same : paths_among (patterns rows) ≡ paths_of c.args.entries.now = paths_are c.args.entries.now rows c.in_ok-rows.ensures.rows c.in_ok-numbers.numbers.items numbers c.in_ok-rows.ensures.numbers in
    subst (λ l. length l ≤ max_nodes) (ap (λ (l : List Row). paths_among (patterns l)) c.deref-2.ensures.value ∙ same) c.in_ok-nodes.ensures.fits
