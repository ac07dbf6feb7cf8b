use Rattle.std.proofs.Common.{◌≡◌, Some, false, filter_map, length, map, slice_index_or, true}
use Rattle.text_bytes.specs.Text.{Text}
use Rattle.text_tables.specs.Texts.{is_among}
use Rattle.builtin_devices.specs.Files.{file_below}
use Rattle.builtin_devices.specs.Folders.{described_paths, file_of, files_in, with_files}
use Rattle.builtin_devices.proofs.folders.described_folders.Given as goal

abbrev pub invariant-loop-path : goal.invariant-loop-path
invariant-loop-path l =
    (folder : Text) → is_among (described_paths l.event.constants) folder ≡ true → slice_index_or l.lengths (length folder) false ≡ true
    → with_files folder (map file_of l.path-iterator) (files_in l.folders folder) ≡ Some (filter_map (file_below folder) l.event.constants)
