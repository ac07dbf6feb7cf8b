use Rattle.rule_laws.proofs.Law.{one_answer}
use Rattle.rule_laws.proofs.templates.a_text_has_one_answer.Goals as goal

pub returns : goal.returns
returns c = one_answer
