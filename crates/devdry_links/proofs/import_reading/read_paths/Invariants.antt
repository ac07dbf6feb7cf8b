use Rattle.std.proofs.Common.{[], drop}
use Rattle.builtin_devices.specs.Knowledge.{FilesFound}
use Rattle.devdry_links.specs.ImportReading.{AreFound}
use Rattle.devdry_links.proofs.import_reading.read_paths.Given as goal

-- where the paths that are left lead on from here, all paths lead from nothing
abbrev pub invariant-loop-path : goal.invariant-loop-path
invariant-loop-path g l = (last : FilesFound) → AreFound (g.D.Disk.may_answer l.disk) l.root (drop l.path-index l.paths) l.found last
    → AreFound (g.D.Disk.may_answer l.disk) l.root l.paths [] last
