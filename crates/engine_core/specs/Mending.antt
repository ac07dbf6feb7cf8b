-- What `fmt` says about rules files.
use Rattle.std.specs.Prelude.{ℕ, Bool, not, ◌&&◌, if◌then◌else◌, List, [], ◌∷◌, ◌++◌}
use Rattle.std.specs.List.{flat_map}
use Rattle.text_bytes.specs.Escapes.{escape_text}
use Rattle.text_bytes.specs.Names.{newline}
use Rattle.text_bytes.specs.Texts.{is_empty}
use Rattle.text_bytes.specs.declared.source_file.SourceFile.{SourceFile}
use Rattle.text_bytes.specs.declared.source_file.FileKind.TheVariants.{Rules}
use Rattle.text_bytes.specs.Text.{Text}
use Rattle.text_tables.specs.Texts.{same_text}
use Rattle.rule_places.specs.Mended.{mended}
use Rattle.engine_sessions.specs.declared.line.Line.{Line}
use Rattle.engine_sessions.specs.Delivery.{RunOutcome}
use Rattle.engine_reports.specs.FilesRead.{files_read}

-- files with their commas and blanks mended, one after another
abbrev pub mended_texts : List SourceFile → Text
mended_texts files = flat_map (λ f. mended f.bytes) files

-- whether mending changes a file
abbrev pub is_changed : SourceFile → Bool
is_changed f = not (same_text f.bytes (mended f.bytes))

-- the line of a file that mending changes: its name
abbrev pub changed_line : SourceFile → Text
changed_line f = if is_changed f then escape_text f.name ++ newline ∷ [] else []

-- the names of the files that mending changes, one a line
abbrev pub changed_names : List SourceFile → Text
changed_names files = flat_map changed_line files

-- the answer about files: their texts mended, or the names of those that this changes
abbrev pub answer : (check : Bool) → List SourceFile → Text
answer check files = if check then changed_names files else mended_texts files

-- the status after an answer: 1 if names are asked for and there is one
abbrev pub status_of : (check : Bool) → Text → ℕ
status_of check text = if check && not (is_empty text) then 1 else 0

-- what is said about files that are read
abbrev pub said_of : (check : Bool) → List SourceFile → RunOutcome
said_of check files = record { output = answer check files; messages = []; status = status_of check (answer check files) }

-- what `fmt` says about the files passed in: their texts mended, or the names of those that this changes
abbrev pub mend_said : Line → List SourceFile → RunOutcome
mend_said line files = said_of line.check (files_read Rules line files)
