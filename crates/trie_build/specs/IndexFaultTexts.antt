-- What is said about a file that is not an index.
use Rattle.std.specs.Prelude.{ℕ, List, codes}
use Rattle.trie_build.specs.declared.index_fault.IndexFault.{IndexFault}
use Rattle.trie_build.specs.declared.index_fault.IndexFault.TheVariants.{Short, Magic, Version, Size, Shape, Label, Text, Order}

-- the check that a file fails, in a word
abbrev pub fault_text : IndexFault → List ℕ
fault_text Short = codes "short"
fault_text Magic = codes "magic"
fault_text Version = codes "version"
fault_text Size = codes "size"
fault_text Shape = codes "shape"
fault_text Label = codes "label"
fault_text Text = codes "text"
fault_text Order = codes "order"
