-- What is read of the .link files of a root, and what is reported about them.
use Rattle.std.specs.Prelude.{◌≡◌, ◌++◌, List, [], codes, flat_map, if◌then◌else◌}
use Rattle.text_bytes.specs.Text.{Text}
use Rattle.text_bytes.specs.Escapes.{escape_text}
use Rattle.text_bytes.specs.FileOrder.{ordered}
use Rattle.text_bytes.specs.declared.source_file.SourceFile.{SourceFile}
use Rattle.link_files.specs.Files.{LinkFileValue, link_files}
use Rattle.devdry_files.specs.Answers.{Answer}
use Rattle.devdry_folders.specs.Unread.{least_status}
use Rattle.devdry_links.specs.Places.{drop_in_places, link_places}
use Rattle.devdry_links.specs.Visits.{AreVisits, files_of, unread_lines}
use Rattle.devdry_links.specs.declared.reading.LinksRead.{LinksRead}
use Rattle.devdry_links.specs.declared.survey.LinkSurvey.{LinkSurvey}
use Rattle.devdry_links.specs.declared.visits.LinkVisit.{LinkVisit}

-- of each name the file of the first folder, by name
abbrev pub files_by_name : List LinkVisit → List SourceFile
files_by_name visits = ordered (codes ".link") (files_of visits)

-- All four folders of .link files were looked at, and then the folders of the drop-ins of each file that no other of its name
-- hides. The files are all that is in them, and the lines say all that can't be read.
pub record IsSurvey (may : Answer → Type 0) (root : Text) (survey : LinkSurvey) : Type 0 where
  pub visits : List LinkVisit
  pub drop_in_visits : List LinkVisit
  pub are_visits : AreVisits may (link_places root) visits
  pub are_drop_in_visits : AreVisits may (drop_in_places root (files_by_name visits)) drop_in_visits
  pub files : survey.files.items ≡ files_by_name visits
  pub drop_ins : survey.drop_ins.items ≡ files_of drop_in_visits
  pub unread : survey.unread.items ≡ unread_lines visits ++ unread_lines drop_in_visits

-- the line on a file that is not used since a line of it, or of a drop-in, is not understood
abbrev pub line_on_link : (root : Text) → LinkFileValue → Text
line_on_link root link =
    if link.is_sound then []
    else codes "devdry: " ++ escape_text (root ++ link.path) ++ codes ": not used: a line of it or of a drop-in is not understood\n"

-- The files that count are those of the folders, with their drop-ins. What can't be read is reported, and makes the least
-- status 3; what is not understood is reported after that.
pub record AreLinksRead (may : Answer → Type 0) (root : Text) (read : LinksRead) : Type 0 where
  pub survey : LinkSurvey
  pub is_survey : IsSurvey may root survey
  pub links : read.links.items ≡ link_files survey.files.items survey.drop_ins.items
  pub lines : read.report.lines.items ≡ survey.unread.items ++ flat_map (line_on_link root) read.links.items
  pub least : read.report.least ≡ least_status survey.unread.items []
