use Rattle.std.proofs.Common.{ap, nat_eq, refl, rules, sym, unwrap_or, ◌∙◌}
use Rattle.indexmap.specs.IndexMap.{get}
use Rattle.builtin_devices.proofs.FirstDevices.{high_comes, low_stays}
use Rattle.builtin_devices.proofs.upward.add_device.Goals as goal

pub returns-in_ok-above : goal.returns-in_ok-above
returns-in_ok-above c = λ place inside.
    high_comes c.args.path.now c.path-own.result.now c.args.device.now c.path-own.ensures (sym c.is_above.ensures ∙ c.if-is_above.true) place inside
    c.args.device c.or_insert.result.now (get nat_eq c.args.above.now) _
    refl
    (c.or_insert.ensures.value ∙ ap (λ o. unwrap_or o c.args.device) c.in_ok-above.ensures.value)
    (search rules)

pub returns-else-is_above : goal.returns-else-is_above
returns-else-is_above c = λ place inside.
    low_stays c.args.path.now c.path-own.result.now c.args.device.now c.path-own.ensures (sym c.is_above.ensures ∙ c.if-is_above.false) place inside _
