use Rattle.trie_build.proofs.Placement.{written_says}
use Rattle.rule_laws.proofs.layout.what_is_written_is_read.Goals as goal

pub returns : goal.returns
returns c = written_says
