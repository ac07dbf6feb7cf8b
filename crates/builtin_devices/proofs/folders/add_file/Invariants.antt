use Rattle.std.proofs.Common.{◌≡◌, [], ◌∷◌, cond, length, slice_index_or, false, true}
use Rattle.std.specs.Prelude.{nat_lt}
use Rattle.text_bytes.specs.Text.{Text}
use Rattle.builtin_devices.specs.Folders.{files_in, with_files}
use Rattle.builtin_devices.proofs.folders.add_file.Given as goal

abbrev pub invariant-loop-place : goal.invariant-loop-place
invariant-loop-place l =
    (folder : Text) → slice_index_or l.lengths (length folder) false ≡ true
    → files_in l.folders folder ≡ cond (nat_lt (length folder) l.place) (with_files folder ((l.path, l.text) ∷ []) (files_in l.fn.folders folder)) (files_in l.fn.folders folder)
