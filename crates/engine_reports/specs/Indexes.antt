-- The outcome of opening an index file that is passed in, and what is said about one that is refused.
use Rattle.std.specs.Prelude.{◌≡◌, ◌⊎◌, List, [], ◌∷◌, ◌++◌, Option, Some, None, Result, Ok, Err, codes}
use Rattle.text_bytes.specs.Names.{newline}
use Rattle.text_bytes.specs.Text.{Text}
use Rattle.trie_nodes.specs.declared.entry.Entry.{Entry}
use Rattle.trie_nodes.specs.Values.{listed}
use Rattle.trie_build.specs.Accepted.{Accepted, FailsFirst}
use Rattle.trie_build.specs.declared.index_fault.IndexFault.{IndexFault}
use Rattle.trie_build.specs.IndexFaultTexts.{fault_text}
use Rattle.trie_build.specs.Contents.{Contents, contents}
use Rattle.engine_sessions.specs.Delivery.{RunOutcome}

-- The outcome of opening an index: nothing if none is passed in; what its bytes hold if they are accepted, and else
-- the first check that they fail.
abbrev pub Opens : Option Text → Option (Result Contents IndexFault) → Type 0
Opens None opened = opened ≡ None
Opens (Some bytes) opened = (Accepted bytes × (opened ≡ Some (Ok (contents bytes))))
    ⊎ ((fault : IndexFault) × FailsFirst bytes fault × (opened ≡ Some (Err fault)))

-- the entries that an index lists, node by node and value by value
abbrev pub entries_in : Contents → List Entry
entries_in contents = listed contents.nodes contents.values

-- the line on an index that fails a check
abbrev pub index_line : IndexFault → Text
index_line fault = codes "devdry: index: " ++ fault_text fault ++ newline ∷ []

-- what is said about an index that fails a check
abbrev pub refused_index : IndexFault → RunOutcome
refused_index fault = record { output = []; messages = index_line fault; status = 1 }
