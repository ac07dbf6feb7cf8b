use Rattle.std.proofs.Common.{sym}
use Rattle.file_catalogue.proofs.Unknown.{found_here, proceeds}
use Rattle.file_catalogue.proofs.ignored.unknown_ignored.Goals as goal

pub returns-in-Some : goal.returns-in-Some
returns-in-Some c =
    found_here (λ v. v.now) c.args.values.now c.loop-value.value-index _ _ _ c.loop-value-test.true c.loop-value.invariant (sym c.in-Some.ensures)

pub loop-value-preserved : goal.loop-value-preserved
loop-value-preserved c = proceeds (λ v. v.now) c.args.values.now c.loop-value.value-index _ _ c.loop-value-test.true c.loop-value.invariant (sym c.in_default.ensures)
