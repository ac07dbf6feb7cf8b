use Rattle.std.proofs.Common.{◌≡◌, List, length, ap, arith}
use Rattle.trie_nodes.specs.declared.entry.Entry.{Entry}
use Rattle.trie_build.specs.Content.{entry_at}
use Rattle.trie_build.specs.Image.{own_text}
use Rattle.trie_build.specs.Writing.{named}
use Rattle.trie_build.proofs.Placing.{length_named, texts_within}
use Rattle.trie_build.proofs.values.texts_len.Goals as goal

pub own_len-len-requires : goal.own_len-len-requires
own_len-len-requires c =
    let es : List Entry = named c.args.entries.now c.args.order.now in
    let own : length (own_text c.entry_of.result.now) ≡ length (own_text (entry_at es c.loop-j.j)) = ap (λ (e : Entry). length (own_text e)) c.entry_of.ensures in
    omega (arith, own, texts_within es c.loop-j.j (omega (arith, length_named c.args.entries.now c.args.order.now)), c.requires.short)

pub overflow_add-len : goal.overflow_add-len
overflow_add-len c =
    let es : List Entry = named c.args.entries.now c.args.order.now in
    let own : length (own_text c.entry_of.result.now) ≡ length (own_text (entry_at es c.loop-j.j)) = ap (λ (e : Entry). length (own_text e)) c.entry_of.ensures in
    omega (arith, own, c.own_len-len.ensures, c.loop-j.invariant, texts_within es c.loop-j.j (omega (arith, length_named c.args.entries.now c.args.order.now)), c.requires.short)
