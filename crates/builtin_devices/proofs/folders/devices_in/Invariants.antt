use Rattle.std.proofs.Common.{◌≡◌, ◌++◌, filter_map, map}
use Rattle.builtin_devices.specs.Folders.{device_in, files_in}
use Rattle.builtin_devices.proofs.folders.devices_in.Given as goal

abbrev pub invariant-loop-path : goal.invariant-loop-path
invariant-loop-path l =
    l.devices.items ++ filter_map (device_in (files_in l.folders)) (map (λ e. (e.0.now, e.1.now)) l.path-iterator)
    ≡ filter_map (device_in (files_in l.folders)) l.event.constants
