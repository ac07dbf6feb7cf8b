-- What lines ask for, as it comes from the disk, and what is said if it can't be read.
use Rattle.std.specs.Prelude.{◌≡◌, ℕ, ◌⊎◌, Bool, true, false, List, [], MatchBool, None}
use Rattle.text_bytes.specs.Text.{Text}
use Rattle.text_bytes.specs.declared.source_file.SourceFile.{SourceFile}
use Rattle.engine_sessions.specs.declared.line.Line.{Line}
use Rattle.devdry_files.specs.Answers.{Answer}
use Rattle.devdry_files.specs.Faults.{IsFaultyIndex, IsFaultyWanted}
use Rattle.devdry_files.specs.Found.{AreWanted, IsIndexWanted}
use Rattle.devdry_files.specs.Places.{Wants}
use Rattle.devdry_files.specs.declared.places.Wanted.{Wanted}
use Rattle.devdry_folders.specs.Surveys.{AreFilesReadSome, IsReadSome, IsReportOnFiles}
use Rattle.devdry_folders.specs.declared.reading.ReadSome.{ReadSome}
use Rattle.devdry_folders.specs.declared.reading.Report.{Report}
use Rattle.devdry_gathering.specs.Said.{IsSaidOf}

-- the report has these lines and this least status
abbrev pub Says : (lines : Text) → (least : ℕ) → Report → Type 0
Says lines least report = (report.lines.items ≡ lines) × (report.least ≡ least)

-- All that the line asks for was read, its index only if that is taken. Nothing is reported, but for a side of `compare` where files
-- were looked for if it has none.
pub record IsAllRead (may : Answer → Type 0) (takes_index compares : Bool) (line : Line) (read : ReadSome) : Type 0 where
  pub wanted : Wanted
  pub wants : Wants line wanted
  pub are_files : AreWanted may wanted read.files.items
  pub is_index : MatchBool takes_index (IsIndexWanted may wanted read.index) (read.index ≡ None)
  pub reported : MatchBool compares (IsReportOnFiles may line read.files.items read.report) (Says [] 0 read.report)

-- what can be read of what the line asks for was read, its index only if that is taken
abbrev pub IsSomeRead : (Answer → Type 0) → (takes_index : Bool) → Line → ReadSome → Type 0
IsSomeRead may takes_index line read = MatchBool takes_index (IsReadSome may line read) (AreFilesReadSome may line read)

-- what the line asks for was read, or with `--all` what can be
abbrev pub IsRead : (Answer → Type 0) → (takes_index compares : Bool) → Line → ReadSome → Type 0
IsRead may takes_index compares line read = MatchBool line.all (IsSomeRead may takes_index line read) (IsAllRead may takes_index compares line read)

-- the path is the first of what the line asks for that the disk may say it can't read: one of the files and folders, or, after all
-- of them, the index, if that is taken
abbrev pub IsFaulty : (Answer → Type 0) → (takes_index : Bool) → Line → (path : Text) → Type 0
IsFaulty may takes_index line path = (wanted : Wanted) × Wants line wanted × (IsFaultyWanted may wanted path
    ⊎ ((takes_index ≡ true) × (files : List SourceFile) × AreWanted may wanted files × IsFaultyIndex may wanted path))

-- Something that the line asks for can't be read, and the run does not go on after that: it is said, with status 3.
pub record IsUnread (may : Answer → Type 0) (takes_index : Bool) (line : Line) (report : Report) : Type 0 where
  pub stops : line.all ≡ false
  pub path : Text
  pub is_faulty : IsFaulty may takes_index line path
  pub said : Text
  pub is_said : IsSaidOf may line path said
  pub says : Says said 3 report

-- something that one of the lines of `compare` asks for can't be read: the old one is read first
abbrev pub IsOneUnread : (Answer → Type 0) → (old new : Line) → Report → Type 0
IsOneUnread may old new report = IsUnread may false old report
    ⊎ ((read : ReadSome) × IsRead may false false old read × IsUnread may true new report)
