use Rattle.std.proofs.Common.{◌==◌, [], length, ap, sym, ◌∙◌}
use Rattle.eval_commands.specs.LookUps.{counted_properties}
use Rattle.eval_commands.proofs.Finding.{first_here}
use Rattle.eval_commands.proofs.lookups.first_answer.Goals as goal

pub returns-then-not-is_empty : goal.returns-then-not-is_empty
returns-then-not-is_empty g c =
    let hwdb = c.args.request.now in
    first_here (counted_properties (g.K.Knowledge.known c.args.knowledge.now) hwdb) hwdb.prefix c.args.modaliases.now c.loop-modalias.modalias-index (record { ref_ptr = (0, 0); now = [] })
    c.in_ok-properties.properties.items _
    c.loop-modalias-test.true
    c.in_ok-properties.ensures
    (ap (λ ps. length ps == 0) (sym c.as_slice.ensures.value) ∙ sym c.is_empty.ensures ∙ c.if-not-is_empty.true)
    c.loop-modalias.invariant
