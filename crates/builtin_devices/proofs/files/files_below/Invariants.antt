use Rattle.std.proofs.Common.{◌≡◌, ◌++◌, filter_map, map}
use Rattle.builtin_devices.specs.Files.{file_below}
use Rattle.builtin_devices.proofs.files.files_below.Given as goal

abbrev pub invariant-loop-path : goal.invariant-loop-path
invariant-loop-path l =
    map (λ file. (file.0.now, file.1.now)) l.files.items ++ filter_map (file_below l.folder) (map (λ e. (e.0.now, e.1.now)) l.path-iterator)
    ≡ filter_map (file_below l.folder) l.event.constants
