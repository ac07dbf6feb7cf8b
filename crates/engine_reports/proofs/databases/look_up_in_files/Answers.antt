use Rattle.std.proofs.Common.{refl}
use Rattle.engine_reports.proofs.Serving.{refused_looks}
use Rattle.engine_reports.proofs.databases.look_up_in_files.Goals as goal

pub returns-in-Err : goal.returns-in-Err
returns-in-Err g c = refused_looks c.args.line.now c.in-Err.refusal _ _ _ _ c.in-Err.ensures.none c.deliver_refusal.ensures.delivers c.deliver_refusal.ensures.faults c.deliver_refusal.ensures.memory refl
