-- What is said about entries that give no trie.
use Rattle.std.specs.Prelude.{codes}
use Rattle.text_bytes.specs.Text.{Text}
use Rattle.trie_build.specs.declared.fault.TrieFault.{TrieFault}
use Rattle.trie_build.specs.declared.fault.TrieFault.TheVariants.{TooLarge, Memory}

-- why there is no trie, in words
abbrev pub fault_text : TrieFault → Text
fault_text TooLarge = codes "trie too large"
fault_text Memory = codes "out of memory"
