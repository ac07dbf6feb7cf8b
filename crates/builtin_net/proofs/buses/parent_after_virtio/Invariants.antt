use Rattle.std.proofs.Common.{◌≡◌, not, map, codes, None}
use Rattle.std.specs.List.{find}
use Rattle.builtin_devices.specs.Devices.{is_of}
use Rattle.builtin_net.specs.Buses.{parent_after_virtio}
use Rattle.builtin_net.proofs.buses.parent_after_virtio.Given as goal

abbrev pub invariant-loop-device : goal.invariant-loop-device
invariant-loop-device l =
    find (λ device. not (is_of (codes "virtio") None device)) (map (λ device. device.now) l.device-iterator.rest.items)
    ≡ parent_after_virtio l.fn.devices
