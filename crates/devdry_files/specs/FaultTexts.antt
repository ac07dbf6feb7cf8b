-- What is said about a disk that did not answer, and about files that could not be read.
use Rattle.std.specs.Prelude.{◌++◌, codes, string_bytes}
use Rattle.text_bytes.specs.Text.{Text}
use Rattle.devdry_files.specs.declared.disk.DiskFault.{DiskFault}
use Rattle.devdry_files.specs.declared.disk.DiskFault.TheVariants.{Absent, Unreadable, NotUtf8, OutOfMemory}
use Rattle.devdry_files.specs.declared.fault.ReadFault.{ReadFault}
use Rattle.devdry_files.specs.declared.fault.ReadFault.TheVariants.{Path, Memory}

-- why a disk did not answer, in words
abbrev pub disk_text : DiskFault → Text
disk_text Absent = codes "not found"
disk_text Unreadable = codes "cannot be read"
disk_text NotUtf8 = codes "a name is not UTF-8"
disk_text OutOfMemory = codes "out of memory"

-- why files could not be read, in words
abbrev pub read_text : ReadFault → Text
read_text (Path path) = codes "cannot read " ++ string_bytes path
read_text Memory = codes "out of memory"
