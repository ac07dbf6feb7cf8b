use Rattle.std.proofs.Common.{◌≡◌, map}
use Rattle.std.specs.List.{find}
use Rattle.builtin_devices.specs.Devices.{parents_of}
use Rattle.builtin_net.specs.Slots.{ends_search_in_pci}
use Rattle.builtin_net.proofs.slots.search_end.Given as goal

abbrev pub invariant-loop-device : goal.invariant-loop-device
invariant-loop-device l =
    find (ends_search_in_pci l.devices) (map (λ device. device.now) l.device-iterator.rest.items)
    ≡ find (ends_search_in_pci l.fn.devices) (parents_of l.fn.devices l.fn.pci.path)
