use Rattle.std.proofs.Common.{◌≡◌, ◌+◌, ◌<◌, ◌≤◌, ◌^◌, ap, arith, get_or, length, rules, ◌∙◌}
use Rattle.eval_core.proofs.Placing.{length-skipped, stays_within}
use Rattle.eval_core.proofs.running.following.Goals as goal

pub bounds-passes-place : goal.bounds-passes-place
bounds-passes-place c =
    let same : length c.args.passes.now ≡ length c.args.rules.now = ap length c.requires.is ∙ length-skipped c.args.rules.now in
    let within = c.requires.within in
    omega (arith, same, within)

pub overflow_add-result-then-reached : goal.overflow_add-result-then-reached
overflow_add-result-then-reached c =
    let within : c.args.place + 1 + get_or c.args.passes.now c.args.place 0 ≤ length c.args.rules.now =
    rw c.requires.is (stays_within c.args.rules.now c.args.place 0 c.requires.within) in
    let few : length c.args.rules.now < 2 ^ 64 = search rules in
    omega (arith, within, few)

pub returns-then-reached-clause-within : goal.returns-then-reached-clause-within
returns-then-reached-clause-within c = rw c.requires.is (stays_within c.args.rules.now c.args.place 0 c.requires.within)
