use Rattle.std.proofs.Common.{◌≡◌, ◌++◌, filter_map, length, map, reverse}
use Rattle.std.specs.List.{range_with_len}
use Rattle.builtin_devices.specs.Devices.{device_before}
use Rattle.builtin_devices.proofs.devices.Devices.parents_of.Given as goal

abbrev pub invariant-loop-place : goal.invariant-loop-place
invariant-loop-place l =
    map (λ device. device.now) l.parents.items ++ filter_map (device_before l.self l.path) (reverse (range_with_len 0 l.place-counter))
    ≡ filter_map (device_before l.self l.path) (reverse (range_with_len 0 (length l.path)))
