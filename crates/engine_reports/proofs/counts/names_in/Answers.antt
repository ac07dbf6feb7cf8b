use Rattle.std.proofs.Common.{arith}
use Rattle.std.proofs.lemmas.Grind.{common_steps}
use Rattle.text_tables.proofs.Found.{among_added}
use Rattle.engine_reports.proofs.counts.names_in.Goals as goal

pub loop-one-preserved : goal.loop-one-preserved
loop-one-preserved g c name =
    rw (c.in_ok-add.ensures.texts, among_added c.loop-one.names c.file_name.result.now name, c.loop-one.invariant name)
    (grind (arith, common_steps))
