use Rattle.rule_laws.proofs.Rooting.{are_paths, no_others, no_parent, one_parent}
use Rattle.rule_laws.proofs.nodes.paths_lead_from_the_root.Goals as goal

pub returns : goal.returns
returns c = record {
  paths = are_paths;
  no_others = λ nodes other s are. no_others nodes s other are;
  parent = λ nodes i s. one_parent nodes s i;
  root = λ nodes i s. no_parent nodes s i;
}
