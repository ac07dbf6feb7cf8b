-- The header of an index, field by field, and where the parts after it begin.
use Rattle.std.specs.Prelude.{ℕ, ◌+◌, ◌*◌, List, ◌++◌, codes}
use Rattle.trie_nodes.specs.Bounds.{header_len, node_len, set_len, value_len}
use Rattle.trie_build.specs.Numbers.{number_at, number_bytes}
use Rattle.trie_build.specs.declared.header.Header.{Header}
use Rattle.trie_build.specs.declared.header.Places.{Places}

-- what each index begins with
abbrev pub magic : List ℕ
magic = codes "devdryhw"

-- what a header says, each field by its place
abbrev pub header_of : List ℕ → Header
header_of bytes = record {
  version = number_at bytes 8;
  nodes = number_at bytes 12;
  values = number_at bytes 16;
  sets = number_at bytes 20;
  text = number_at bytes 24;
  reserved = number_at bytes 28;
}

-- a header as it is written
abbrev pub header_bytes : Header → List ℕ
header_bytes h =
    magic ++ number_bytes h.version ++ number_bytes h.nodes ++ number_bytes h.values
    ++ number_bytes h.sets ++ number_bytes h.text ++ number_bytes h.reserved

-- the nodes follow the header, then the values, the sets and the text
abbrev pub values_start : Header → ℕ
values_start h = header_len + node_len * h.nodes

abbrev pub sets_start : Header → ℕ
sets_start h = values_start h + value_len h.version * h.values

abbrev pub text_start : Header → ℕ
text_start h = sets_start h + set_len * h.sets

abbrev pub whole_len : Header → ℕ
whole_len h = text_start h + h.text

-- where the parts begin, and where the last of them ends
abbrev pub places_of : Header → Places
places_of h = record {
  values = values_start h;
  sets = sets_start h;
  text = text_start h;
  end = whole_len h;
}
