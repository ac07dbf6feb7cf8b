use Rattle.std.proofs.Common.{arith}
use Rattle.std.proofs.lemmas.Grind.{common_steps}
use Rattle.text_tables.proofs.Found.{among_added}
use Rattle.engine_checks.proofs.asked.ignored_codes.Goals as goal

pub loop-text-preserved : goal.loop-text-preserved
loop-text-preserved c code =
    rw (c.in_ok-add.ensures.texts, among_added c.loop-text.codes c.as_bytes.result.now code, c.loop-text.invariant code)
    (grind (arith, common_steps))
