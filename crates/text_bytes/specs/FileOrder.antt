-- Which of the files passed in are read, and in which order.
use Rattle.std.specs.Prelude.{nat_eq, nat_lt, if◌then◌else◌, List, [], filter, fold}
use Rattle.std.specs.List.{ends_with}
use Rattle.text_bytes.specs.Text.{Text}
use Rattle.text_bytes.specs.Insertion.{put_by}
use Rattle.text_bytes.specs.declared.source_file.SourceFile.{SourceFile}

-- of two files of one name, the one of the lesser rank, and of equal ranks the one passed in earlier
abbrev pub winner : SourceFile → SourceFile → SourceFile
winner earlier later = if nat_lt later.rank earlier.rank then later else earlier

-- a file, passed in later, in its place among others that are sorted by name, byte by byte
abbrev pub put : List SourceFile → SourceFile → List SourceFile
put files later = put_by (λ file. file.name) winner files later

-- those of the files whose name ends in the suffix
abbrev pub with_suffix : Text → List SourceFile → List SourceFile
with_suffix suffix files = filter (λ file. ends_with nat_eq file.name suffix) files

-- the files whose name ends in the suffix, of each name the first of least rank, sorted by name
abbrev pub ordered : Text → List SourceFile → List SourceFile
ordered suffix files = fold put [] (with_suffix suffix files)
