use Rattle.std.proofs.Common.{◌≡◌, ◌+◌, drop, option_map}
use Rattle.eval_commands.specs.LookUps.{count_before_usb}
use Rattle.eval_commands.proofs.candidates.count_before_usb.Given as goal

abbrev pub invariant-loop-device : goal.invariant-loop-device
invariant-loop-device l = record {
  is_index : l.count ≡ l.device-index;
  same : l.count + count_before_usb (option_map (λ t. t.now) l.subsystem) (drop l.device-index l.devices) ≡ count_before_usb (option_map (λ t. t.now) l.fn.subsystem) l.fn.devices;
}
