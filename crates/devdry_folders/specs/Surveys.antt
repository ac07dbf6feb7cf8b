-- The outcome of a line whose reading goes on after what can't be read.
use Rattle.std.specs.Prelude.{◌≡◌, ◌++◌, ◌∷◌, List, [], MatchBool, None, Option}
use Rattle.std.specs.List.{list_any}
use Rattle.std.specs.Option.{option_copied}
use Rattle.text_bytes.specs.Text.{Text}
use Rattle.text_bytes.specs.declared.source_file.FileKind.{FileKind}
use Rattle.text_bytes.specs.declared.source_file.SourceFile.{SourceFile}
use Rattle.engine_sessions.specs.Kinds.{kind_named, kinds_read, same_kind}
use Rattle.engine_sessions.specs.Readers.{is_for_people}
use Rattle.engine_sessions.specs.declared.line.Line.{Line}
use Rattle.devdry_files.specs.Answers.{Answer}
use Rattle.devdry_folders.specs.Indexes.{IsIndexSight, index_bytes}
use Rattle.devdry_folders.specs.Missing.{AreMissing, IsLineOnRoot}
use Rattle.devdry_folders.specs.SightStatus.{AreListed}
use Rattle.devdry_folders.specs.Unread.{all_unread, files_of, least_status}
use Rattle.devdry_folders.specs.Visits.{AreVisits}
use Rattle.devdry_folders.specs.declared.reading.Listed.{Listed}
use Rattle.devdry_folders.specs.declared.reading.ReadSome.{ReadSome}
use Rattle.devdry_folders.specs.declared.reading.Report.{Report}
use Rattle.devdry_folders.specs.declared.sights.Survey.{Survey}

-- The files and folders that the line asks for were visited, and last this index, if there is one.
pub record IsSurveyFor (may : Answer → Type 0) (line : Line) (index : Option Text) (survey : Survey) : Type 0 where
  pub are_visits : AreVisits may line survey.visits.items
  pub is_index : IsIndexSight may index survey.index

-- What is reported for a survey before the run: what can't be read, and what was looked at if no file of these kinds was
-- read; and the least status of the run, which follows from both.
pub record IsReported (may : Answer → Type 0) (line : Line) (kinds : List FileKind) (survey : Survey) (report : Report) : Type 0 where
  pub missing : Text
  pub are_missing : AreMissing may line kinds survey missing
  pub lines : report.lines.items ≡ all_unread (is_for_people line.format) survey ++ missing
  pub least : report.least ≡ least_status (all_unread (is_for_people line.format) survey) missing

-- There was a survey with this index; the files that were read, the index, what is reported and the least status follow from that. A
-- run needs a file of the kind that its line names, or the index in place of the database.
pub record IsReadBy (may : Answer → Type 0) (line : Line) (path : Option Text) (some : ReadSome) : Type 0 where
  pub survey : Survey
  pub is_survey : IsSurveyFor may line path survey
  pub files : some.files.items ≡ files_of survey.visits.items
  pub index : some.index ≡ index_bytes survey.index
  pub reported : IsReported may line (kind_named line.verb ∷ []) survey some.report

-- all that the line asks for was visited
abbrev pub IsReadSome : (Answer → Type 0) → Line → ReadSome → Type 0
IsReadSome may line some = IsReadBy may line (option_copied line.index) some

-- all that the line asks for but an index was visited
abbrev pub AreFilesReadSome : (Answer → Type 0) → Line → ReadSome → Type 0
AreFilesReadSome may line some = IsReadBy may line None some

-- What the line asks for was visited; the lines on all that was met, what is reported and the least status follow
-- from that.
pub record IsListed (may : Answer → Type 0) (line : Line) (listed : Listed) : Type 0 where
  pub survey : Survey
  pub is_survey : IsSurveyFor may line (option_copied line.index) survey
  pub lines : AreListed survey.visits.items listed.lines.items
  pub reported : IsReported may line (kinds_read line.verb) survey listed.report

-- What is reported on files that were read for a line. If one of them is of the kind that it names, that is only a line on its root, if
-- that is looked at and is no folder, and the least status, which follows from that; otherwise it is what is reported for a survey of
-- all that the line asks for but an index.
abbrev pub IsReportOnFiles : (Answer → Type 0) → Line → List SourceFile → Report → Type 0
IsReportOnFiles may line files report = MatchBool (list_any (λ file. same_kind (kind_named line.verb) file.kind) files)
    (IsLineOnRoot may line report.lines.items × (report.least ≡ least_status [] report.lines.items))
    ((survey : Survey) × IsSurveyFor may line None survey × IsReported may line (kind_named line.verb ∷ []) survey report)
