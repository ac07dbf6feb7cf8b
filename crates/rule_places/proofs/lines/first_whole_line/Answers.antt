use Rattle.rule_places.proofs.Cutting.{whole_none, whole_some}
use Rattle.rule_places.proofs.lines.first_whole_line.Goals as goal

pub returns-in-None : goal.returns-in-None
returns-in-None c = whole_none c.args.text.now c.requires (cc)

pub returns-in-Some : goal.returns-in-Some
returns-in-Some c = whole_some c.args.text.now c.in-Some.at (cc)
