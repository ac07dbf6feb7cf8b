use Rattle.trie_build.proofs.Paths.{all}
use Rattle.rule_laws.proofs.paths.paths_occur_once.Goals as goal

pub returns : goal.returns
returns c = all
