use Rattle.std.proofs.Common.{◌≤◌, ◌-◌, drop, length, arith, length-drop}
use Rattle.std.proofs.lemmas.Grind.{common_steps}
use Rattle.device_core.proofs.RunEnds.{none_in_rest}
use Rattle.device_core.proofs.run_ends.short_run_length.Goals as goal

pub returns-clause-value : goal.returns-clause-value
returns-clause-value c =
    let left : length (drop (c.loop-at.at - 1) c.args.text.now) ≤ 1 = grind (arith, common_steps) in
    let rest = (none_in_rest (drop (c.loop-at.at - 1) c.args.text.now) left).1 in
    omega (arith, rest, c.loop-at.invariant.goes, length-drop (c.loop-at.at - 1) c.args.text.now)
