-- What an index says: its nodes and its values.
use Rattle.std.specs.Prelude.{ℕ, ◌==◌, if◌then◌else◌, List, map}
use Rattle.std.specs.List.{range_with_len}
use Rattle.text_core.specs.declared.item.Item.{Item}
use Rattle.text_core.specs.declared.item.Item.TheVariants.{Byte, One, Many, Among}
use Rattle.trie_nodes.specs.declared.node.Node.{Node}
use Rattle.trie_nodes.specs.Values.{Value}
use Rattle.trie_build.specs.Header.{header_of}
use Rattle.trie_build.specs.Kinds.{byte_kind, many_kind, among_kind}
use Rattle.trie_build.specs.Records.{node, value, set, text_of}
use Rattle.trie_build.specs.declared.records.NodeRecord.{NodeRecord}

-- the item that leads to a node; the root's is never used
abbrev pub label_of : List ℕ → NodeRecord → Item
label_of bytes n =
    if n.kind == byte_kind then Byte n.byte
    else if n.kind == many_kind then Many
    else if n.kind == among_kind then Among (set bytes n.set)
    else One

-- what node i is
abbrev pub node_of : List ℕ → ℕ → Node
node_of bytes i = record {
  label = label_of bytes (node bytes i);
  first = (node bytes i).first;
  count = (node bytes i).count;
  first_value = (node bytes i).first_value;
  values = (node bytes i).values;
}

-- what value j is
abbrev pub value_of : List ℕ → ℕ → Value
value_of bytes j = record {
  key = text_of bytes (value bytes j).key;
  value = text_of bytes (value bytes j).value;
  order = (value bytes j).order;
  file = text_of bytes (value bytes j).file;
  line = (value bytes j).line;
}

-- nodes and values, each by number
pub record Contents : Type 0 where
  pub nodes : List Node
  pub values : List Value

-- what the bytes of an index say
unfoldable pub contents : List ℕ → Contents
contents bytes = record {
  nodes = map (node_of bytes) (range_with_len 0 (header_of bytes).nodes);
  values = map (value_of bytes) (range_with_len 0 (header_of bytes).values);
}
