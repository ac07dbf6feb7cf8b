use Rattle.std.proofs.Common.{codes}
use Rattle.engine_sessions.specs.EventLine.{event_line}
use Rattle.engine_answers.proofs.Reporting.{apart}
use Rattle.eval_laws.proofs.comparing.no_line_but_a_note_is_passed_over.Goals as goal

pub returns : goal.returns
returns c = λ event. apart (event_line event.action event.device.path) (codes "-nowatch\n") (codes "+link n\n") (codes "\n")
