use Rattle.engine_courses.proofs.Digits.{line_capped, line_read}
use Rattle.engine_courses.proofs.nearest.line_number.Goals as goal

pub returns-in-Some : goal.returns-in-Some
returns-in-Some c = line_read c.args.digits.now c.in-Some.number (cc) (cc)

pub returns-in-None : goal.returns-in-None
returns-in-None c = line_capped c.args.digits.now (cc) (cc)
