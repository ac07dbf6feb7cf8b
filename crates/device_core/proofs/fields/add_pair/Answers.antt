use Rattle.std.proofs.Common.{sym}
use Rattle.device_core.proofs.Added.{pair_added}
use Rattle.device_core.proofs.fields.add_pair.Goals as goal

pub returns : goal.returns
returns c = pair_added c.args.pairs.now c.add.new.self c.in-Some.name.now c.in-Some.value.now c.args.rest.now c.in_ok-add.field-0 (sym c.in-Some.ensures) c.in_ok-add.ensures.new c.if-not-branch.false c.in_ok-add.ensures.pairs
