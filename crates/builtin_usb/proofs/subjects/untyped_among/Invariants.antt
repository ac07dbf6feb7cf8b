use Rattle.std.proofs.Common.{◌≡◌, map, drop}
use Rattle.builtin_usb.specs.Subjects.{untyped_among}
use Rattle.builtin_usb.proofs.subjects.untyped_among.Given as goal

abbrev pub invariant-loop-device : goal.invariant-loop-device
invariant-loop-device l =
    untyped_among l.subsystem l.kind (map (λ device. device.now) (drop l.device-index l.devices))
    ≡ untyped_among l.subsystem l.kind (map (λ device. device.now) l.devices)
