use Rattle.std.proofs.Common.{◌≤◌, ◌-◌, ◌||◌, drop, length, ap, sym, ◌∙◌, arith}
use Rattle.std.proofs.lemmas.Grind.{common_steps}
use Rattle.device_core.proofs.RunEnds.{none_in_rest, or_false}
use Rattle.device_core.proofs.run_ends.has_empty_line.Goals as goal

pub returns : goal.returns
returns c =
    let left : length (drop (c.loop-at.at - 1) c.args.text.now) ≤ 1 = grind (arith, common_steps) in
    sym (or_false c.loop-at.found) ∙ ap (λ b. c.loop-at.found || b) (sym (none_in_rest (drop (c.loop-at.at - 1) c.args.text.now) left).0) ∙ c.loop-at.invariant
