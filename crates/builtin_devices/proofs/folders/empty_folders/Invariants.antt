use Rattle.std.proofs.Common.{◌≡◌, ◌⊎◌, [], Some, map, true}
use Rattle.text_bytes.specs.Text.{Text}
use Rattle.text_tables.specs.Texts.{is_among}
use Rattle.builtin_devices.specs.Folders.{described_paths, file_of, files_in}
use Rattle.builtin_devices.proofs.folders.empty_folders.Given as goal

abbrev pub invariant-loop-path : goal.invariant-loop-path
invariant-loop-path l =
    (folder : Text) → is_among (described_paths l.event.constants) folder ≡ true
    → (files_in l.folders folder ≡ Some []) ⊎ (is_among (described_paths (map file_of l.path-iterator)) folder ≡ true)
