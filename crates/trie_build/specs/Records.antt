-- The records of an index, field by field: nodes, values and sets, by number, and parts of the text.
use Rattle.std.specs.Prelude.{ℕ, ◌+◌, ◌*◌, ◌==◌, List, ◌∷◌, ◌++◌, take, drop, if◌then◌else◌}
use Rattle.text_core.specs.declared.byte_set.ByteSet.{ByteSet}
use Rattle.trie_nodes.specs.Bounds.{first_version, header_len, node_len, set_len, value_len}
use Rattle.trie_build.specs.Header.{header_of, sets_start, text_start, values_start}
use Rattle.trie_build.specs.Numbers.{byte_at, number_at, number_bytes}
use Rattle.trie_build.specs.declared.header.Header.{Header}
use Rattle.trie_build.specs.declared.records.NodeRecord.{NodeRecord}
use Rattle.trie_build.specs.declared.records.ValueRecord.{ValueRecord}
use Rattle.trie_build.specs.declared.records.Span.{Span}

-- the node that begins at a place
abbrev pub node_at : List ℕ → ℕ → NodeRecord
node_at bytes at = record {
  kind = byte_at bytes at;
  byte = byte_at bytes (at + 1);
  first_zero = byte_at bytes (at + 2);
  second_zero = byte_at bytes (at + 3);
  set = number_at bytes (at + 4);
  first = number_at bytes (at + 8);
  count = number_at bytes (at + 12);
  first_value = number_at bytes (at + 16);
  values = number_at bytes (at + 20);
}

-- a node as it is written
abbrev pub node_bytes : NodeRecord → List ℕ
node_bytes n =
    n.kind ∷ n.byte ∷ n.first_zero ∷ n.second_zero
    ∷ (number_bytes n.set ++ number_bytes n.first ++ number_bytes n.count ++ number_bytes n.first_value ++ number_bytes n.values)

-- a part of the text, as the bytes at a place give it
abbrev pub span_at : List ℕ → ℕ → Span
span_at bytes at = record { place = number_at bytes at; len = number_at bytes (at + 4) }

-- the same as it is written
abbrev pub span_bytes : Span → List ℕ
span_bytes s = number_bytes s.place ++ number_bytes s.len

-- no part of the text
abbrev pub no_span : Span
no_span = record { place = 0; len = 0 }

-- the value that begins at a place, in an index of a version
abbrev pub value_at : ℕ → List ℕ → ℕ → ValueRecord
value_at version bytes at = record {
  key = span_at bytes at;
  value = span_at bytes (at + 8);
  order = number_at bytes (at + 16);
  file = if version == first_version then no_span else span_at bytes (at + 20);
  line = if version == first_version then 0 else number_at bytes (at + 28);
}

-- a value as it is written, in version 2
abbrev pub value_bytes : ValueRecord → List ℕ
value_bytes v = span_bytes v.key ++ span_bytes v.value ++ number_bytes v.order ++ span_bytes v.file ++ number_bytes v.line

-- a set as it is written
abbrev pub set_bytes : ByteSet → List ℕ
set_bytes s = s.bits

-- where the records with a number begin
abbrev pub node_start : ℕ → ℕ
node_start i = header_len + node_len * i

abbrev pub value_start : Header → ℕ → ℕ
value_start h j = values_start h + value_len h.version * j

abbrev pub set_start : Header → ℕ → ℕ
set_start h s = sets_start h + set_len * s

-- node i of an index
unfoldable pub node : List ℕ → ℕ → NodeRecord
node bytes i = node_at bytes (node_start i)

-- value j of an index
unfoldable pub value : List ℕ → ℕ → ValueRecord
value bytes j = value_at (header_of bytes).version bytes (value_start (header_of bytes) j)

-- set s of an index
unfoldable pub set : List ℕ → ℕ → ByteSet
set bytes s = record { bits = take set_len (drop (set_start (header_of bytes) s) bytes) }

-- a part of the text of an index
abbrev pub text_of : List ℕ → Span → List ℕ
text_of bytes span = take span.len (drop (text_start (header_of bytes) + span.place) bytes)
