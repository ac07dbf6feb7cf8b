use Rattle.std.proofs.Common.{ap}
use Rattle.trie_nodes.specs.Query.{query, sourced}
use Rattle.rule_laws.proofs.Listing1.{lists_the_same, nodes_are}
use Rattle.rule_laws.proofs.Reading1.{same_checks, same_files}
use Rattle.rule_laws.proofs.reading.indexes_of_version_1_are_kept.Goals as goal

pub returns : goal.returns
returns c = record {
  checks = λ bytes check first. same_checks bytes first check;
  accepted = same_files;
  nodes = nodes_are;
  listed = lists_the_same;
  query = λ bytes modalias first. ap (λ es. query es modalias) (lists_the_same bytes first);
  sources = λ bytes modalias first. ap (λ es. sourced es modalias) (lists_the_same bytes first);
}
