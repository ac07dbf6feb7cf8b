-- How much a database may hold, and how long what an index has of it is.
use Rattle.std.specs.Prelude.{ℕ, ◌-◌, ◌^◌, ◌==◌, if◌then◌else◌}

-- entries
abbrev pub max_entries : ℕ
max_entries = 2 ^ 24

-- nodes of its trie, and sets by which some of these are reached
abbrev pub max_nodes : ℕ
max_nodes = 2 ^ 26

-- bytes of the matches that give an entry
abbrev pub max_match_bytes : ℕ
max_match_bytes = 2 ^ 25 - 1

-- bytes of the keys and values of all entries
abbrev pub max_text_bytes : ℕ
max_text_bytes = 2 ^ 30

-- bytes of the names of the files that were read
abbrev pub max_name_bytes : ℕ
max_name_bytes = 2 ^ 28

-- the two versions of an index: values of the first have no file and no line
abbrev pub first_version : ℕ
first_version = 1

abbrev pub second_version : ℕ
second_version = 2

-- how many bytes the header of an index, a node, a value and a set have
abbrev pub header_len : ℕ
header_len = 32

abbrev pub node_len : ℕ
node_len = 24

abbrev pub value_len : ℕ → ℕ
value_len version = if version == first_version then 20 else 32

abbrev pub set_len : ℕ
set_len = 32
