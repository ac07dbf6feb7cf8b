-- The .link files and drop-ins that are checked.
use Rattle.std.specs.Prelude.{◌≡◌, ◌&&◌, ◌++◌, ◌==◌, Bool, false, List, [], MatchBool, codes, filter, not, Option, Some, None, vec_len}
use Rattle.text_bytes.specs.Text.{Text}
use Rattle.text_bytes.specs.FileOrder.{ordered}
use Rattle.text_bytes.specs.Names.{dot, slash}
use Rattle.text_bytes.specs.Texts.{begins_with, is_empty, split_once}
use Rattle.text_bytes.specs.declared.source_file.SourceFile.{SourceFile}
use Rattle.link_files.specs.Files.{is_masked}
use Rattle.engine_sessions.specs.declared.line.Line.{Line}
use Rattle.devdry_files.specs.Answers.{Answer}
use Rattle.devdry_files.specs.Inside.{MayInside}
use Rattle.devdry_folders.specs.Surveys.{AreFilesReadSome}
use Rattle.devdry_folders.specs.Unread.{least_status}
use Rattle.devdry_folders.specs.declared.reading.ReadSome.{ReadSome}
use Rattle.devdry_links.specs.Reading.{IsSurvey}
use Rattle.devdry_links.specs.declared.checking.LinksToCheck.{LinksToCheck}
use Rattle.devdry_links.specs.declared.survey.LinkSurvey.{LinkSurvey}

-- a file without bytes masks others, and is not one to check
abbrev pub counts : SourceFile → Bool
counts file = not (is_masked file)

-- what a drop-in is called in its folder does not begin with a dot
abbrev pub is_shown : Option (Text × Text) → Bool
is_shown None = false
is_shown (Some parts) = not (begins_with dot parts.1)

-- the same for a drop-in, whose name is that of its folder, a slash and its own
abbrev pub counts_as_drop_in : SourceFile → Bool
counts_as_drop_in file = not (is_empty file.bytes) && is_shown (split_once slash file.name)

-- the .link files that count, by name, and after them the drop-ins, by name
abbrev pub files_checked : LinkSurvey → List SourceFile
files_checked survey = filter counts survey.files.items ++ filter counts_as_drop_in (ordered (codes ".conf") survey.drop_ins.items)

-- The files are those that count. What can't be read is reported, and makes the least status 3.
pub record AreLinksToCheck (may : Answer → Type 0) (root : Text) (links : LinksToCheck) : Type 0 where
  pub survey : LinkSurvey
  pub is_survey : IsSurvey may root survey
  pub files : links.files.items ≡ files_checked survey
  pub lines : links.report.lines.items ≡ survey.unread.items
  pub least : links.report.least ≡ least_status survey.unread.items []

-- the files are those that the line names, as far as they can be read
pub record AreNamed (may : Answer → Type 0) (line : Line) (links : LinksToCheck) : Type 0 where
  pub some : ReadSome
  pub are_read : AreFilesReadSome may line some
  pub files : links.files ≡ some.files
  pub report : links.report ≡ some.report

-- the files are those of the folders inside the line's root if the line names none, and otherwise those that it names
abbrev pub AreLinksFor : (Answer → Type 0) → Line → LinksToCheck → Type 0
AreLinksFor may line links =
    MatchBool (vec_len line.files == 0) (AreLinksToCheck (MayInside may line.root.now) line.root.now links) (AreNamed may line links)
