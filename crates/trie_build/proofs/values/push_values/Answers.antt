use Rattle.std.proofs.Common.{◌≡◌, ℕ, ◌+◌, ◌++◌, List, length, map, flat_map, sym, subst, ◌∙◌, ap, arith}
use Rattle.trie_nodes.specs.declared.entry.Entry.{Entry}
use Rattle.trie_build.specs.Content.{entry_at, shown}
use Rattle.std.specs.List.{range_with_len}
use Rattle.trie_build.specs.Distinct.{IsIn}
use Rattle.trie_build.specs.Image.{own_text}
use Rattle.trie_build.specs.Records.{value_bytes}
use Rattle.trie_build.specs.declared.records.ValueRecord.{ValueRecord}
use Rattle.trie_build.specs.Writing.{named, value_record}
use Rattle.trie_build.proofs.Parts.{one_more, pieces_more}
use Rattle.trie_build.proofs.Placing.{in_named, length_named, length_places, length_shown, member_short, texts_more, texts_within, value_reported}
use Rattle.trie_build.proofs.values.push_values.Goals as goal

pub record_of-requires-clause-own : goal.record_of-requires-clause-own
record_of-requires-clause-own c =
    let es : List Entry = named c.args.entries.now c.args.order.now in
    let own : length (own_text c.entry_of-entry.result.now) ≡ length (own_text (entry_at es c.loop-j.j)) = ap (λ (e : Entry). length (own_text e)) c.entry_of-entry.ensures in
    omega (arith, own, c.loop-j.invariant.place, texts_within es c.loop-j.j (omega (arith, length_named c.args.entries.now c.args.order.now)), c.requires.short)

pub record_of-requires-clause-there : goal.record_of-requires-clause-there
record_of-requires-clause-there c =
    let among : IsIn (entry_at (named c.args.entries.now c.args.order.now) c.loop-j.j) c.args.entries.now = in_named c.args.entries.now c.args.order.now c.requires.within c.loop-j.j (omega arith) in
    c.requires.there c.entry_of-entry.result.now (subst (λ e. IsIn e c.args.entries.now) (sym c.entry_of-entry.ensures) among)

pub record_of-requires-clause-short : goal.record_of-requires-clause-short
record_of-requires-clause-short c =
    let among : IsIn (entry_at (named c.args.entries.now c.args.order.now) c.loop-j.j) c.args.entries.now = in_named c.args.entries.now c.args.order.now c.requires.within c.loop-j.j (omega arith) in
    let there : IsIn c.entry_of-entry.result.now.file (shown c.args.names.now) = c.requires.there c.entry_of-entry.result.now (subst (λ e. IsIn e c.args.entries.now) (sym c.entry_of-entry.ensures) among) in
    omega (arith, member_short (shown c.args.names.now) c.entry_of-entry.result.now.file there, c.requires.lengths)

pub record_of-requires-clause-places : goal.record_of-requires-clause-places
record_of-requires-clause-places c =
    omega (arith, length_places (named c.args.entries.now c.args.order.now) (shown c.args.names.now) c.args.places.now c.requires.places, length_shown c.args.names.now)

pub own_len-place-requires : goal.own_len-place-requires
own_len-place-requires c =
    let es : List Entry = named c.args.entries.now c.args.order.now in
    let own : length (own_text c.entry_of-entry.result.now) ≡ length (own_text (entry_at es c.loop-j.j)) = ap (λ (e : Entry). length (own_text e)) c.entry_of-entry.ensures in
    omega (arith, own, texts_within es c.loop-j.j (omega (arith, length_named c.args.entries.now c.args.order.now)), c.requires.short)

pub overflow_add-place : goal.overflow_add-place
overflow_add-place c =
    let es : List Entry = named c.args.entries.now c.args.order.now in
    let own : length (own_text c.entry_of-entry.result.now) ≡ length (own_text (entry_at es c.loop-j.j)) = ap (λ (e : Entry). length (own_text e)) c.entry_of-entry.ensures in
    omega (arith, own, c.own_len-place.ensures, c.loop-j.invariant.place, texts_within es c.loop-j.j (omega (arith, length_named c.args.entries.now c.args.order.now)), c.requires.short)

pub loop-j-preserved : goal.loop-j-preserved
loop-j-preserved c =
    let es : List Entry = named c.args.entries.now c.args.order.now in
    let own : length (own_text c.entry_of-entry.result.now) ≡ length (own_text (entry_at es c.loop-j.j)) = ap (λ (e : Entry). length (own_text e)) c.entry_of-entry.ensures in
    let among : IsIn (entry_at (named c.args.entries.now c.args.order.now) c.loop-j.j) c.args.entries.now = in_named c.args.entries.now c.args.order.now c.requires.within c.loop-j.j (omega arith) in
    let names : List (List ℕ) = shown c.args.names.now in
    let j : ℕ = c.loop-j.j in
    let there : IsIn c.entry_of-entry.result.now.file names = c.requires.there c.entry_of-entry.result.now (subst (λ e. IsIn e c.args.entries.now) (sym c.entry_of-entry.ensures) among) in
    let written : c.record_of.result ≡ value_record es names j =
    c.record_of.ensures ∙ value_reported es names c.args.places.now j c.loop-j.place c.entry_of-entry.result.now c.requires.places c.loop-j.invariant.place c.entry_of-entry.ensures there in
    record {
      out = one_more c.write.new.out.items c.loop-j.out.items c.args.out.now.items (flat_map value_bytes (map (value_record es names) (range_with_len 0 j)))
          (flat_map value_bytes (map (value_record es names) (range_with_len 0 (j + 1)))) (value_bytes (value_record es names j))
          (c.in_ok-write.ensures.value ∙ ap (λ (r : ValueRecord). c.loop-j.out.items ++ value_bytes r) written) c.loop-j.invariant.out (pieces_more value_bytes (value_record es names) j);
      place = omega (arith, own, c.own_len-place.ensures, c.loop-j.invariant.place, texts_more es j (omega (arith, length_named c.args.entries.now c.args.order.now)));
    }
