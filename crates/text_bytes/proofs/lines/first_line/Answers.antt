use Rattle.text_bytes.proofs.Places.{lines_none, lines_some}
use Rattle.text_bytes.proofs.lines.first_line.Goals as goal

pub returns-in-None-clause-value : goal.returns-in-None-clause-value
returns-in-None-clause-value c = lines_none c.args.text.now c.requires (cc)

pub returns-in-Some-clause-value : goal.returns-in-Some-clause-value
returns-in-Some-clause-value c = lines_some c.args.text.now c.in-Some.at (cc)
