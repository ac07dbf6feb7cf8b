use Rattle.std.proofs.Common.{◌≡◌, map, option_map}
use Rattle.std.specs.List.{find}
use Rattle.builtin_devices.specs.Devices.{above, is_of}
use Rattle.builtin_devices.proofs.devices.Devices.above.Given as goal

abbrev pub invariant-loop-parent : goal.invariant-loop-parent
invariant-loop-parent l =
    find (is_of l.subsystem (option_map (λ t. t.now) l.kind)) (map (λ device. device.now) l.parent-iterator.rest.items)
    ≡ above l.fn.self l.fn.subsystem (option_map (λ t. t.now) l.fn.kind) l.fn.path
