use Rattle.std.proofs.Common.{◌≡◌, drop}
use Rattle.std.specs.List.{list_any}
use Rattle.builtin_core.specs.Needs.{lacks_physical}
use Rattle.builtin_core.proofs.virtual_functions.some_lacks_physical.Given as goal

abbrev pub invariant-loop-device : goal.invariant-loop-device
invariant-loop-device l = list_any (lacks_physical l.event) (drop l.device-index l.devices) ≡ list_any (lacks_physical l.event) l.devices
