-- All that is told about files before their messages.
use Rattle.std.specs.Prelude.{Bool, List, ◌++◌}
use Rattle.text_bytes.specs.declared.source_file.SourceFile.{SourceFile}
use Rattle.text_bytes.specs.Text.{Text}
use Rattle.engine_sessions.specs.declared.line.Line.{Line}
use Rattle.devdry_links.specs.Lying.{lying_notes}
use Rattle.devdry_links.specs.Notes.{kind_notes, root_notes, unseen_notes}

-- all that is told about the files that were read for a line, about its root, where a folder is there, and about rules files at
-- these paths in the folders
unfoldable pub notes_of : Line → List SourceFile → (there : Bool) → (lying : List Text) → Text
notes_of line files there lying = kind_notes line ++ (root_notes line there ++ (lying_notes line files lying ++ unseen_notes line files))
