use Rattle.eval_laws.proofs.Making.{later_keeps, step_final, step_finals}
use Rattle.eval_laws.proofs.changes.a_final_assignment_makes_its_key_final.Goals as goal

pub returns-clause-made : goal.returns-clause-made
returns-clause-made c = λ r a s k o h open_key. step_final r k s open_key a o h

pub returns-clause-later : goal.returns-clause-later
returns-clause-later c = later_keeps

pub returns-clause-others : goal.returns-clause-others
returns-clause-others c = step_finals
