use Rattle.std.proofs.Common.{◌≡◌, ◌++◌, map, drop, option_map}
use Rattle.eval_commands.specs.LookUps.{modaliases_in}
use Rattle.eval_commands.proofs.candidates.modaliases_in.Given as goal

abbrev pub invariant-loop-device : goal.invariant-loop-device
invariant-loop-device l =
    map (λ m. m.now) l.found.items ++ modaliases_in (option_map (λ t. t.now) l.subsystem) (drop l.device-index l.devices)
    ≡ modaliases_in (option_map (λ t. t.now) l.fn.subsystem) l.fn.devices
