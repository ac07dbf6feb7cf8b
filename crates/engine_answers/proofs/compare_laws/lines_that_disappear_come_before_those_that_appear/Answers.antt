use Rattle.std.proofs.Common.{codes}
use Rattle.engine_sessions.specs.EventLine.{event_line}
use Rattle.engine_answers.proofs.Reporting.{apart}
use Rattle.engine_answers.proofs.compare_laws.lines_that_disappear_come_before_those_that_appear.Goals as goal

pub returns : goal.returns
returns c = λ event. apart (event_line event.action event.device.path) (codes "-link x\n-mode 0600\n") (codes "+mode 0660\n+link y\n") (codes "\n")
