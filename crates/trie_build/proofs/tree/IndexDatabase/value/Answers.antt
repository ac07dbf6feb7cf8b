use Rattle.std.proofs.Common.{◌≡◌, ℕ, ◌<◌, List, arith, refl}
use Rattle.trie_nodes.specs.Values.{value_at}
use Rattle.trie_build.specs.Contents.{value_of}
use Rattle.trie_build.specs.Header.{header_of}
use Rattle.trie_build.specs.declared.index_fault.IndexFault.TheVariants.{Text}
use Rattle.trie_build.proofs.NodeLemmas.{length_values, value_is}
use Rattle.trie_build.proofs.tree.IndexDatabase.value.Goals as goal

pub value-value-requires : goal.value-value-requires
value-value-requires c = omega (arith, length_values c.self.inside.records c.args.self.now c.self.view_is)

pub text_of-requires : goal.text_of-requires
text_of-requires c =
    let inside : c.args.j < (header_of c.self.inside.records).values = omega (arith, length_values c.self.inside.records c.args.self.now c.self.view_is) in
    rw c.value-value.ensures (c.self.invariant Text c.args.j inside).key

pub text_of-requires-2 : goal.text_of-requires-2
text_of-requires-2 c =
    let inside : c.args.j < (header_of c.self.inside.records).values = omega (arith, length_values c.self.inside.records c.args.self.now c.self.view_is) in
    rw c.value-value.ensures (c.self.invariant Text c.args.j inside).value

pub text_of-requires-3 : goal.text_of-requires-3
text_of-requires-3 c =
    let inside : c.args.j < (header_of c.self.inside.records).values = omega (arith, length_values c.self.inside.records c.args.self.now c.self.view_is) in
    rw c.value-value.ensures (c.self.invariant Text c.args.j inside).file

pub returns : goal.returns
returns c =
    let bytes : List ℕ = c.self.inside.records in
    let inside : c.args.j < (header_of bytes).values = omega (arith, length_values bytes c.args.self.now c.self.view_is) in
    let own : value_at c.args.self.now.values c.args.j ≡ value_of bytes c.args.j = value_is bytes c.args.self.now c.self.view_is c.args.j inside in
    rw (c.text_of.ensures, c.text_of-2.ensures, c.text_of-3.ensures, c.value-value.ensures, own) refl
