use Rattle.eval_laws.proofs.MadeFinal.{made_is_final, others_stay}
use Rattle.eval_laws.proofs.changes.a_key_becomes_final_alone.Goals as goal

pub returns-clause-made : goal.returns-clause-made
returns-clause-made c = made_is_final

pub returns-clause-others : goal.returns-clause-others
returns-clause-others c = others_stay
