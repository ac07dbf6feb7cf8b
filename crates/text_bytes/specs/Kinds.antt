-- The kinds of files.
use Rattle.std.specs.Prelude.{codes}
use Rattle.text_bytes.specs.Text.{Text}
use Rattle.text_bytes.specs.declared.source_file.FileKind.{FileKind}
use Rattle.text_bytes.specs.declared.source_file.FileKind.TheVariants.{Hwdb, Rules}

-- how the names of a folder's files of a kind end
abbrev pub suffix_of : FileKind → Text
suffix_of Hwdb = codes ".hwdb"
suffix_of Rules = codes ".rules"
