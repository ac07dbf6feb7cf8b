use Rattle.std.proofs.Common.{inl, inr, refl}
use Rattle.std.proofs.lemmas.Result.{IfOk-weaker}
use Rattle.devdry_gathering.specs.Gathers.{Compares}
use Rattle.devdry_gathering.proofs.gathering.gather_sides.Goals as goal

pub returns-in-Ok : goal.returns-in-Ok
returns-in-Ok g c = IfOk-weaker c.compare.result (Compares (g.D.Disk.may_answer c.args.disk.now) c.args.old c.args.new) _ (λ gathered h. inl h) c.compare.ensures

pub returns-in-Err-Said : goal.returns-in-Err-Said
returns-in-Err-Said g c = rw c.in-Err-Said.field-0-is (inr (refl, rw c.in-Err-Said.field-0-is at c.in-Err-Said.ensures.said))
