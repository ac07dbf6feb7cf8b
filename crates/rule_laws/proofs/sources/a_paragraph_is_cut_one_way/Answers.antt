use Rattle.rule_laws.proofs.Cuts.{one_cut}
use Rattle.rule_laws.proofs.sources.a_paragraph_is_cut_one_way.Goals as goal

pub returns : goal.returns
returns c = one_cut
