use Rattle.trie_build.proofs.Faults.{no_fault, one_fault}
use Rattle.rule_laws.proofs.checks.a_file_fails_one_check_first.Goals as goal

pub returns : goal.returns
returns c = record { one = one_fault; none = no_fault }
