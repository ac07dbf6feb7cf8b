use Rattle.std.proofs.Common.{◌≡◌, ◌⊎◌, length, map, slice_index_or, false, true}
use Rattle.text_bytes.specs.Text.{Text}
use Rattle.text_tables.specs.Texts.{is_among}
use Rattle.builtin_devices.specs.Folders.{described_paths, file_of}
use Rattle.builtin_devices.proofs.folders.described_lengths.Given as goal

abbrev pub invariant-loop-path : goal.invariant-loop-path
invariant-loop-path l =
    (folder : Text) → is_among (described_paths l.event.constants) folder ≡ true
    → (slice_index_or l.lengths.items (length folder) false ≡ true) ⊎ (is_among (described_paths (map file_of l.path-iterator)) folder ≡ true)
