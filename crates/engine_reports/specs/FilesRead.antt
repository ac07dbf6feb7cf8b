-- Which of the files passed in are read, and in which order.
use Rattle.std.specs.Prelude.{if◌then◌else◌, List, filter, map}
use Rattle.text_bytes.specs.FileOrder.{ordered}
use Rattle.text_bytes.specs.Kinds.{suffix_of}
use Rattle.text_bytes.specs.declared.source_file.SourceFile.{SourceFile}
use Rattle.text_bytes.specs.declared.source_file.FileKind.{FileKind}
use Rattle.text_bytes.specs.declared.source_file.FileKind.TheVariants.{Rules}
use Rattle.rule_core.specs.Ends.{file_as_read}
use Rattle.engine_sessions.specs.Kinds.{names_files_of, same_kind}
use Rattle.engine_sessions.specs.declared.line.Line.{Line}

-- those of the files that are of a kind
abbrev pub of_kind : FileKind → List SourceFile → List SourceFile
of_kind kind files = filter (λ file. same_kind file.kind kind) files

-- of files of a kind those that a run reads: all of them, in their order, if the line names files of that kind, and
-- else those of the folders whose names end in the kind's suffix, of each name the first of least rank, sorted by
-- name
abbrev pub chosen : FileKind → Line → List SourceFile → List SourceFile
chosen kind line files = if names_files_of line kind then files else ordered (suffix_of kind) files

-- the files of a kind that a run reads, of all that are passed in
abbrev pub files_read : FileKind → Line → List SourceFile → List SourceFile
files_read kind line files = chosen kind line (of_kind kind files)

-- the rules files that a run reads, with the ends of their lines as the line's profile has them
abbrev pub rules_read : Line → List SourceFile → List SourceFile
rules_read line files = map (file_as_read line.profile) (files_read Rules line files)
