use Rattle.trie_build.proofs.Counting.{few_names, few_paths, few_sets}
use Rattle.rule_laws.proofs.paths.a_trie_is_small.Goals as goal

pub returns : goal.returns
returns c = record { nodes = few_paths; sets = few_sets; names = few_names }
