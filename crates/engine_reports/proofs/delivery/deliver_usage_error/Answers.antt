use Rattle.engine_reports.proofs.Bounds.{two_pieces}
use Rattle.engine_reports.proofs.delivery.deliver_usage_error.Goals as goal

pub returns-clause-delivers : goal.returns-clause-delivers
returns-clause-delivers g c = rw (two_pieces c.args.messages.now c.args.line.now) c.deliver_in_pieces.ensures
