use Rattle.std.proofs.Common.{◌≡◌, map, take}
use Rattle.eval_state.specs.Chains.{kernel_of}
use Rattle.eval_state.proofs.chain.kernel_names.Given as goal

abbrev pub invariant-loop-device : goal.invariant-loop-device
invariant-loop-device l = l.names.items ≡ map kernel_of (take l.device-index l.devices)
