-- The kinds of files that a line is about.
use Rattle.std.specs.Prelude.{Bool, true, false, ◌&&◌, ◌==◌, is_some, not, List, [], ◌∷◌, vec_len}
use Rattle.engine_sessions.specs.declared.line.Line.{Line}
use Rattle.engine_sessions.specs.declared.line.Verb.{Verb}
use Rattle.engine_sessions.specs.declared.line.Verb.TheVariants.{Update, Query, Verify, Events, Mend}
use Rattle.text_bytes.specs.declared.source_file.FileKind.{FileKind}
use Rattle.text_bytes.specs.declared.source_file.FileKind.TheVariants.{Hwdb, Rules}

-- the kind of the files that a subcommand's line names
abbrev pub kind_named : Verb → FileKind
kind_named Update = Hwdb
kind_named Query = Hwdb
kind_named Verify = Rules
kind_named Events = Rules
kind_named Mend = Rules

-- the kinds of files that a subcommand reads
abbrev pub kinds_read : Verb → List FileKind
kinds_read Update = Hwdb ∷ []
kinds_read Query = Hwdb ∷ []
kinds_read Verify = Rules ∷ []
kinds_read Mend = Rules ∷ []
kinds_read Events = Rules ∷ Hwdb ∷ []

-- whether two kinds are the same
abbrev pub same_kind : FileKind → FileKind → Bool
same_kind Hwdb Hwdb = true
same_kind Rules Rules = true
same_kind _ _ = false

-- whether the line names the files of the kind: it names files, and they are of that kind
abbrev pub names_files_of : Line → FileKind → Bool
names_files_of line kind = same_kind kind (kind_named line.verb) && not (vec_len line.files == 0)

-- whether files of the kind are read from the folders: the line names none of them, and no index instead of those of
-- the database
abbrev pub reads_folders_of : Line → FileKind → Bool
reads_folders_of line kind = not (names_files_of line kind) && not (same_kind kind Hwdb && is_some line.index)
