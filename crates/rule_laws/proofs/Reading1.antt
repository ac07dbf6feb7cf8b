-- What a file of version 1 says by the definitions for both versions is what it says by itself.
use Rattle.std.proofs.Common.{◌≡◌, ℕ, ◌+◌, ◌*◌, List, cond, eqb, take, drop, sym, ◌∙◌, ap, subst, arith, inl, ◌↔◌}
use Rattle.text_core.specs.declared.byte_set.ByteSet.{ByteSet}
use Rattle.text_core.specs.declared.item.Item.TheVariants.{Byte, One, Many, Among}
use Rattle.trie_nodes.specs.Bounds.{first_version, value_len}
use Rattle.trie_build.specs.Accepted.{Accepted, HasTexts, Holds}
use Rattle.trie_build.specs.Contents.{label_of}
use Rattle.trie_build.specs.Header.{header_of, text_start, whole_len}
use Rattle.trie_build.specs.Numbers.{number_at}
use Rattle.trie_build.specs.Records.{set, set_start, text_of, value, value_at, value_start}
use Rattle.trie_build.specs.declared.index_fault.IndexFault.{IndexFault}
use Rattle.trie_build.specs.declared.index_fault.IndexFault.TheVariants.{Short, Magic, Version, Size, Shape, Label, Text, Order}
use Rattle.trie_build.specs.declared.records.NodeRecord.{NodeRecord}
use Rattle.trie_build.specs.declared.records.ValueRecord.{ValueRecord}
use Rattle.rule_laws.specs.Version1.{Accepted1, Holds1, Value1, label_1, len_1, set_start_1, text_1, text_start_1, value_1, value_start_1}

-- a value as a record of both versions
abbrev pub as_record : Value1 → ValueRecord
as_record v = record {
  key = record { place = v.key_place; len = v.key_len };
  value = record { place = v.value_place; len = v.value_len };
  order = v.order;
  file = record { place = 0; len = 0 };
  line = 0;
}

module _ (bytes : List ℕ) (first : (header_of bytes).version ≡ 1) where
  value_len_is : value_len (header_of bytes).version ≡ 20
  value_len_is = ap value_len first

  value_start_is : (j : ℕ) → value_start (header_of bytes) j ≡ value_start_1 bytes j
  value_start_is j = ap (λ k. 32 + 24 * (header_of bytes).nodes + k * j) value_len_is

  set_start_is : (s : ℕ) → set_start (header_of bytes) s ≡ set_start_1 bytes s
  set_start_is s = ap (λ k. 32 + 24 * (header_of bytes).nodes + k * (header_of bytes).values + 32 * s) value_len_is

  text_start_is : text_start (header_of bytes) ≡ text_start_1 bytes
  text_start_is = ap (λ k. 32 + 24 * (header_of bytes).nodes + k * (header_of bytes).values + 32 * (header_of bytes).sets) value_len_is

  pub whole_is : whole_len (header_of bytes) ≡ len_1 bytes
  whole_is = ap (λ k. k + (header_of bytes).text) text_start_is

  pub value_is : (j : ℕ) → value bytes j ≡ as_record (value_1 bytes j)
  unfolding value
  value_is j =
      let at : ℕ = value_start_1 bytes j in
      let next : (at + 8) + 4 ≡ at + 12 = omega arith in
      ap (λ v. value_at v bytes (value_start (header_of bytes) j)) first
      ∙ ap (value_at first_version bytes) (value_start_is j)
      ∙ ap (λ k. as_record (record { key_place = number_at bytes at; key_len = number_at bytes (at + 4); value_place = number_at bytes (at + 8); value_len = number_at bytes k; order = number_at bytes (at + 16) })) next

  pub text_is : (place len : ℕ) → text_of bytes (record { place = place; len = len }) ≡ text_1 bytes place len
  text_is place len = ap (λ k. take len (drop (k + place) bytes)) text_start_is

  set_is : (s : ℕ) → set bytes s ≡ record { bits = take 32 (drop (set_start_1 bytes s) bytes) }
  unfolding set
  set_is s = ap (λ k. record { bits = take 32 (drop k bytes) }) (set_start_is s)

  pub label_is : (n : NodeRecord) → label_of bytes n ≡ label_1 bytes n
  label_is n = ap (λ (s : ByteSet). cond (eqb n.kind 1) (Byte n.byte) (cond (eqb n.kind 3) Many (cond (eqb n.kind 4) (Among s) One))) (set_is n.set)

  order_is : (j : ℕ) → (value bytes j).order ≡ (value_1 bytes j).order
  order_is j = ap (λ (v : ValueRecord). v.order) (value_is j)

  to_both : (check : IndexFault) → Holds1 check bytes → Holds check bytes
  to_both Short f = f
  to_both Magic f = f
  to_both Version f = inl f
  to_both Size f = record { some = f.some; nodes = f.nodes; values = f.values; sets = f.sets; reserved = f.reserved; whole = f.whole ∙ sym whole_is }
  to_both Shape f = f
  to_both Label f = f
  to_both Text f = λ j h.
      subst (HasTexts (header_of bytes).text) (sym (value_is j))
      (record { some = (f j h).some; key = (f j h).key; value = (f j h).value; file = omega arith })
  to_both Order f = λ i h j from below. omega (arith, order_is j, order_is (j + 1), f i h j from below)

  from_both : (check : IndexFault) → Holds check bytes → Holds1 check bytes
  from_both Short h = h
  from_both Magic h = h
  from_both Version h = first
  from_both Size h = record { some = h.some; nodes = h.nodes; values = h.values; sets = h.sets; reserved = h.reserved; whole = h.whole ∙ whole_is }
  from_both Shape h = h
  from_both Label h = h
  from_both Text h = λ j k.
      let texts : HasTexts (header_of bytes).text (as_record (value_1 bytes j)) = subst (HasTexts (header_of bytes).text) (value_is j) (h j k) in
      record { some = texts.some; key = texts.key; value = texts.value }
  from_both Order h = λ i k j from below. omega (arith, order_is j, order_is (j + 1), h i k j from below)

  pub same_checks : (check : IndexFault) → Holds1 check bytes ↔ Holds check bytes
  same_checks check = (to_both check, from_both check)

pub same_files : (bytes : List ℕ) → Accepted1 bytes ↔ (Accepted bytes × ((header_of bytes).version ≡ 1))
same_files bytes = (
  λ first. (λ check. (same_checks bytes (first Version) check).0 (first check), first Version),
  λ both check. (same_checks bytes both.1 check).1 (both.0 check),
)
