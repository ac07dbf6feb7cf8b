use Rattle.trie_build.proofs.Children.{level_by_level}
use Rattle.rule_laws.proofs.paths.trees_are_laid_out_level_by_level.Goals as goal

pub returns : goal.returns
returns c = level_by_level
