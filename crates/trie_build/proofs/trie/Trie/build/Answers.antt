use Rattle.std.proofs.Common.{◌≡◌, ◌≤◌, ℕ, List, length, subst, arith, rules, vec_len}
use Rattle.std.specs.List.{range_with_len}
use Rattle.std.proofs.lemmas.List.FromFn.{length-range_with_len}
use Rattle.std.proofs.lemmas.List.Sorted.{length_permutation}
use Rattle.trie_nodes.specs.declared.entry.Entry.{Entry}
use Rattle.trie_nodes.specs.declared.node.Node.{Node}
use Rattle.trie_build.specs.Paths.{paths_of}
use Rattle.trie_build.specs.Sizes.{KeepsBounds}
use Rattle.trie_nodes.specs.Bounds.{max_nodes}
use Rattle.trie_build.specs.Held.{IsHeld}
use Rattle.trie_build.proofs.Gathering.{is_trie}
use Rattle.trie_build.proofs.trie.Trie.build.Goals as goal

pub invariant_of-result : goal.invariant_of-result
invariant_of-result c =
    let entries : List Entry = c.args.entries.items in
    let numbers : List ℕ = c.in_ok-numbers.field-0.numbers.items in
    let nodes : List Node = c.in_ok-numbers.field-0.nodes.items in
    let trie : IsHeld (record { entries = entries; numbers = numbers; nodes = nodes }) =
    subst (λ (es : List Entry). IsHeld (record { entries = es; numbers = numbers; nodes = nodes })) c.deref.ensures.value c.in_ok-numbers.ensures.trie in
    let keeps : KeepsBounds entries = subst KeepsBounds c.deref.ensures.value c.in_ok-numbers.ensures.fits in
    let fits : length (paths_of entries) ≤ max_nodes = keeps.nodes in
    let all : length numbers ≡ length (range_with_len 0 (length entries)) = length_permutation (range_with_len 0 (length entries)) numbers trie.values in
    let len : vec_len c.args.entries ≡ length entries = search rules in
    (trie, omega (arith, trie.count, fits), omega (arith, all, length-range_with_len 0 (length entries), len, c.len.ensures, c.if-len-gt-MAX_ENTRIES.false), keeps)

pub returns-clause-trie : goal.returns-clause-trie
returns-clause-trie c =
    let entries : List Entry = c.args.entries.items in
    let numbers : List ℕ = c.in_ok-numbers.field-0.numbers.items in
    let nodes : List Node = c.in_ok-numbers.field-0.nodes.items in
    let trie : IsHeld (record { entries = entries; numbers = numbers; nodes = nodes }) =
    subst (λ (es : List Entry). IsHeld (record { entries = es; numbers = numbers; nodes = nodes })) c.deref.ensures.value c.in_ok-numbers.ensures.trie in
    is_trie (record { entries = entries; numbers = numbers; nodes = nodes }) trie
