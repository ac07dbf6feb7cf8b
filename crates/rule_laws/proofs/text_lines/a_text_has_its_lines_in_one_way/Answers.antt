use Rattle.rule_laws.proofs.LineWays.{one_way}
use Rattle.rule_laws.proofs.text_lines.a_text_has_its_lines_in_one_way.Goals as goal

pub returns : goal.returns
returns c = one_way
