use Rattle.eval_laws.proofs.CutLemmas.{cut_one_way}
use Rattle.eval_laws.proofs.blocks.a_text_is_cut_one_way.Goals as goal

pub returns : goal.returns
returns c = cut_one_way
