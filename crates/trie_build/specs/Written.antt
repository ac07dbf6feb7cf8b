-- An index as it is written: version 2.
use Rattle.std.specs.Prelude.{ℕ, ◌≡◌, List, ◌++◌, length, map, take, drop, flat_map, All}
use Rattle.std.specs.List.{range_with_len}
use Rattle.text_core.specs.declared.byte_set.ByteSet.{ByteSet}
use Rattle.trie_nodes.specs.Bounds.{second_version, set_len}
use Rattle.trie_build.specs.Header.{header_bytes, header_of, whole_len}
use Rattle.trie_build.specs.Numbers.{IsSmall}
use Rattle.trie_build.specs.Records.{node, node_bytes, set, set_bytes, text_of, value, value_bytes}
use Rattle.trie_build.specs.declared.header.Header.{Header}
use Rattle.trie_build.specs.declared.records.NodeRecord.{NodeRecord}
use Rattle.trie_build.specs.declared.records.ValueRecord.{ValueRecord}
use Rattle.trie_build.specs.declared.records.Span.{Span}

-- what is to be written after the header, in its order
pub record Draft : Type 0 where
  pub nodes : List NodeRecord
  pub values : List ValueRecord
  pub sets : List ByteSet
  pub text : List ℕ

-- the header of a draft
abbrev pub draft_header : Draft → Header
draft_header d = record {
  version = second_version;
  nodes = length d.nodes;
  values = length d.values;
  sets = length d.sets;
  text = length d.text;
  reserved = 0;
}

-- the bytes from the sets on, from the values on and from the nodes on
abbrev pub written_sets : Draft → List ℕ
written_sets d = flat_map set_bytes d.sets ++ d.text

abbrev pub written_values : Draft → List ℕ
written_values d = flat_map value_bytes d.values ++ written_sets d

abbrev pub written_nodes : Draft → List ℕ
written_nodes d = flat_map node_bytes d.nodes ++ written_values d

-- the whole
unfoldable pub written : Draft → List ℕ
written d = header_bytes (draft_header d) ++ written_nodes d

-- whether the numbers of a record can be written
pub record IsSmallNode (n : NodeRecord) : Type 0 where
  pub set : IsSmall n.set
  pub first : IsSmall n.first
  pub count : IsSmall n.count
  pub first_value : IsSmall n.first_value
  pub values : IsSmall n.values

pub record IsSmallSpan (s : Span) : Type 0 where
  pub place : IsSmall s.place
  pub len : IsSmall s.len

pub record IsSmallValue (v : ValueRecord) : Type 0 where
  pub key : IsSmallSpan v.key
  pub value : IsSmallSpan v.value
  pub order : IsSmall v.order
  pub file : IsSmallSpan v.file
  pub line : IsSmall v.line

-- whether all numbers of a draft can be written, and its sets are sets
pub record IsWritable (d : Draft) : Type 0 where
  pub nodes : All IsSmallNode d.nodes
  pub values : All IsSmallValue d.values
  pub sets : All (λ (s : ByteSet). length s.bits ≡ set_len) d.sets
  pub few_nodes : IsSmall (length d.nodes)
  pub few_values : IsSmall (length d.values)
  pub few_sets : IsSmall (length d.sets)
  pub short : IsSmall (length d.text)

-- The bytes of an index say what a draft says: its records, one after another, and the parts of its text.
pub record SaysDraft (bytes : List ℕ) (d : Draft) : Type 0 where
  pub header : header_of bytes ≡ draft_header d
  pub whole : length bytes ≡ whole_len (header_of bytes)
  pub nodes : map (node bytes) (range_with_len 0 (length d.nodes)) ≡ d.nodes
  pub values : map (value bytes) (range_with_len 0 (length d.values)) ≡ d.values
  pub sets : map (set bytes) (range_with_len 0 (length d.sets)) ≡ d.sets
  pub text : (s : Span) → text_of bytes s ≡ take s.len (drop s.place d.text)
