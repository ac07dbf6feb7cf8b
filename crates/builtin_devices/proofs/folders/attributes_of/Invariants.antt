use Rattle.std.proofs.Common.{◌≡◌, [], drop, map}
use Rattle.text_tables.specs.Pairs.{with_values}
use Rattle.builtin_devices.specs.Folders.{file_of}
use Rattle.builtin_devices.proofs.folders.attributes_of.Given as goal

abbrev pub invariant-loop-name : goal.invariant-loop-name
invariant-loop-name l = with_values l.attrs (map file_of (drop l.name-index l.files)) ≡ with_values [] (map file_of l.files)
