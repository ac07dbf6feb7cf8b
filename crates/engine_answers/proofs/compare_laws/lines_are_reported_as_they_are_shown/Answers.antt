use Rattle.std.proofs.Common.{codes}
use Rattle.engine_sessions.specs.EventLine.{event_line}
use Rattle.engine_answers.proofs.Reporting.{apart}
use Rattle.engine_answers.proofs.compare_laws.lines_are_reported_as_they_are_shown.Goals as goal

pub returns : goal.returns
returns c = λ event. apart (event_line event.action event.device.path) (codes "-a.rules:1: link x\n") (codes "+a.rules:1: link y\n") (codes "\n")
