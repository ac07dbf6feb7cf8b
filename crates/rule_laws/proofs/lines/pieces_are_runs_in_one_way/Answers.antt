use Rattle.rule_laws.proofs.RunLaws.{no_text_lost, one_way}
use Rattle.rule_laws.proofs.lines.pieces_are_runs_in_one_way.Goals as goal

pub returns-clause-one : goal.returns-clause-one
returns-clause-one c = one_way

pub returns-clause-whole : goal.returns-clause-whole
returns-clause-whole c = no_text_lost
