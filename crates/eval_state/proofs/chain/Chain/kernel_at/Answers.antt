use Rattle.std.proofs.Common.{◌≡◌, ◌∙◌, ◌+◌, ap, arith, option_map, slice_get}
use Rattle.eval_state.specs.Chains.{device_at, kernel_of}
use Rattle.eval_state.proofs.Places.{kernel_above}
use Rattle.eval_state.proofs.chain.Chain.kernel_at.Goals as goal

pub returns-in-Some : goal.returns-in-Some
returns-in-Some c =
    let event = c.self.inside.event.now in
    let following : c.args.place ≡ c.in-Some.above + 1 = omega (arith, c.in-Some.ensures) in
    c.kept_at.ensures ∙ ap (λ names. slice_get names c.in-Some.above) c.deref.ensures.value
    ∙ kernel_above c.self.inside.parent_kernels.items event.device event.parents c.in-Some.above c.args.place c.self.invariant.1 following
    ∙ ap (λ e. option_map kernel_of (device_at e c.args.place)) c.self.view_is
