-- The folders of the system that are read if a line names no files.
use Rattle.std.specs.Prelude.{ℕ, ◌==◌, if◌then◌else◌, [], codes}
use Rattle.text_bytes.specs.Text.{Text}
use Rattle.text_bytes.specs.declared.source_file.FileKind.{FileKind}
use Rattle.text_bytes.specs.declared.source_file.FileKind.TheVariants.{Hwdb, Rules}

-- the folder of a kind at a rank, and nothing if the kind has none of that rank
abbrev pub folder_path : FileKind → ℕ → Text
folder_path Hwdb rank =
    if rank == 0 then codes "/etc/udev/hwdb.d"
    else if rank == 1 then codes "/usr/lib/udev/hwdb.d"
    else []
folder_path Rules rank =
    if rank == 0 then codes "/etc/udev/rules.d"
    else if rank == 1 then codes "/run/udev/rules.d"
    else if rank == 2 then codes "/usr/local/lib/udev/rules.d"
    else if rank == 3 then codes "/usr/lib/udev/rules.d"
    else []
