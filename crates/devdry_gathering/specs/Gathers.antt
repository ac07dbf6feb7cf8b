-- What is gathered for words, with a disk that may give these answers.
use Rattle.std.specs.Prelude.{◌≡◌, ◌++◌, ◌&&◌, ◌⊎◌, Bool, true, false, List, [], MatchBool, max, map, string_bytes}
use Rattle.text_bytes.specs.Text.{Text}
use Rattle.clap.specs.Words.{fault_of, subcommand_of}
use Rattle.text_tables.specs.Texts.{is_among}
use Rattle.engine_sessions.specs.Sources.{SourceState}
use Rattle.engine_sessions.specs.declared.line.Line.{Line}
use Rattle.engine_sessions.specs.declared.line.LineFault.{LineFault}
use Rattle.engine_sessions.specs.declared.line.LineFault.TheVariants as fault
use Rattle.engine_sessions.specs.declared.line.Request.{Request}
use Rattle.engine_sessions.specs.declared.line.Request.TheVariants as asked
use Rattle.engine_formats.specs.Masked.{masked, shown_in}
use Rattle.engine_sessions.specs.Serves.{read_failed}
use Rattle.devdry_files.specs.AccountFiles.{AreAccountsRead, IsFaultyAccounts}
use Rattle.devdry_files.specs.Answers.{Answer}
use Rattle.devdry_folders.specs.Surveys.{IsListed}
use Rattle.devdry_folders.specs.declared.reading.Listed.{Listed}
use Rattle.devdry_folders.specs.declared.reading.ReadSome.{ReadSome}
use Rattle.devdry_folders.specs.declared.reading.Report.{Report}
use Rattle.devdry_files.specs.Beside.{MayBeside}
use Rattle.devdry_files.specs.Whole.{ReadsNot, ReadsWhole}
use Rattle.devdry_files.specs.declared.input_reading.InputFault.{InputFault}
use Rattle.devdry_files.specs.declared.input_reading.InputFault.TheVariants.{Read}
use Rattle.devdry_links.specs.Checking.{AreLinksFor}
use Rattle.devdry_links.specs.declared.checking.LinksToCheck.{LinksToCheck}
use Rattle.devdry_links.specs.Lying.{is_events}
use Rattle.devdry_words.specs.Answers.{AnswersWords}
use Rattle.devdry_words.specs.Commands.{devdry}
use Rattle.devdry_words.specs.Requests.{IsRequestOf}
use Rattle.devdry_gathering.specs.Gathered.{IsBehind, IsEnded}
use Rattle.devdry_gathering.specs.Links.{FindsFor, ReadsLinks}
use Rattle.devdry_gathering.specs.Notes.{AreNotesOf}
use Rattle.devdry_gathering.specs.Reading.{IsOneUnread, IsRead, IsUnread, Says}
use Rattle.devdry_gathering.specs.Said.{cannot_read, said_of_words}
use Rattle.devdry_gathering.specs.Terminals.{shown_line}
use Rattle.devdry_gathering.specs.Words.{AreBadWords, AreWords}
use Rattle.devdry_gathering.specs.declared.gathered.Gathered.{Gathered}
use Rattle.devdry_gathering.specs.declared.gathered.Inputs.{Inputs}
use Rattle.devdry_gathering.specs.declared.gathered.Work.TheVariants as work
use Rattle.devdry_gathering.specs.declared.terminals.Terminals.{Terminals}

-- A line with the files and the index that were read for it, and with what was found at the paths that its rules import.
pub record AreInputs (may : Answer → Type 0) (takes_index compares : Bool) (line : Line) (read : ReadSome) (inputs : Inputs) : Type 0 where
  pub is_read : IsRead may takes_index compares line read
  pub line_is : inputs.line ≡ line
  pub files_are : inputs.files.items ≡ read.files.items
  pub index_is : inputs.index ≡ read.index
  pub finds : FindsFor may line read.files.items inputs.found

-- What a line is run over was read: what could not be is reported, and then what there is to tell about the rest.
pub record Answers (may : Answer → Type 0) (line : Line) (g : Gathered) : Type 0 where
  pub read : ReadSome
  pub inputs : Inputs
  pub are_inputs : AreInputs may true false line read inputs
  pub notes : Text
  pub are_notes : AreNotesOf may line read.files.items notes
  pub work : g.work ≡ work.Answer inputs
  pub says : Says (shown_in line.format read.report.lines.items ++ notes) read.report.least g.report

-- The .link files that the line is about were read, to be checked, and what could not be is reported.
pub record ChecksLinks (may : Answer → Type 0) (line : Line) (g : Gathered) : Type 0 where
  pub links : LinksToCheck
  pub are_links : AreLinksFor may line links
  pub work : g.work ≡ work.CheckLinks line links.files
  pub says : Says (shown_in line.format links.report.lines.items) links.report.least g.report

-- what is gathered for a line after its .link files: .link files to check if it asks for that; and otherwise what it is run over, or
-- what is said of that if it can't be read
abbrev pub GathersFiles : (Answer → Type 0) → Line → Gathered → Type 0
GathersFiles may line g = MatchBool line.checks_links (ChecksLinks may line g) (Answers may line g ⊎ IsEnded (IsUnread may true line) g)

-- The line has the .link files that it names interfaces by, what is reported on these comes first, and then the line on waiting if
-- event blocks come from a terminal.
pub record GathersLine (may : Answer → Type 0) (from_terminal : Bool) (named : Line) (g : Gathered) : Type 0 where
  pub line : Line
  pub links : Report
  pub reads : ReadsLinks may named line links
  pub own : Gathered
  pub gathers : GathersFiles may line own
  pub behind : IsBehind links.lines.items links.least (from_terminal && is_events named.verb) own g

-- the files of users and groups that the line names were read, and all else for the line that has these; or one of them can't be
-- read, which is said with status 3, its path masked
abbrev pub GathersKnown : (Answer → Type 0) → (from_terminal : Bool) → Line → Gathered → Type 0
GathersKnown may from_terminal named g = ((line : Line) × AreAccountsRead may named line × GathersLine may from_terminal line g)
    ⊎ ((path : Text) × IsFaultyAccounts may named path × IsEnded (Says (cannot_read (masked path)) 3) g)

-- a line names the standard input as a file: one of its files has the name of the input
abbrev pub names_input : Line → Bool
names_input line = is_among (map (λ f. f.now) line.files.items) line.input_name.now

-- what is gathered for a line that names the standard input as a file: it was read whole, and is a file of this name with its
-- bytes; or that failed, which is said with status 3
abbrev pub GathersInput : (Answer → Type 0) → (from_terminal : Bool) → Line → SourceState → Gathered → SourceState → Type 0
GathersInput may from_terminal line before g now =
    ((bytes : Text) × ReadsWhole before bytes now × GathersKnown (MayBeside may line.input_name.now bytes) from_terminal line g)
    ⊎ (ReadsNot Read before now × IsEnded (Says read_failed 3) g)

-- what is gathered for a line: the input is read only if the line names it as a file
abbrev pub GathersRun : (Answer → Type 0) → (from_terminal : Bool) → Line → SourceState → Gathered → SourceState → Type 0
GathersRun may from_terminal line before g now =
    MatchBool (names_input line) (GathersInput may from_terminal line before g now) (GathersKnown may from_terminal line g × (now ≡ before))

-- What both lines of `compare` are run over was read, the index with the new one; what is reported is as the format of the old one
-- shows it.
pub record Compares (may : Answer → Type 0) (old new : Line) (g : Gathered) : Type 0 where
  pub old_read : ReadSome
  pub new_read : ReadSome
  pub old_inputs : Inputs
  pub new_inputs : Inputs
  pub are_old : AreInputs may false true old old_read old_inputs
  pub are_new : AreInputs may true true new new_read new_inputs
  pub work : g.work ≡ work.Compare old_inputs new_inputs
  pub says : Says (shown_in old.format (old_read.report.lines.items ++ new_read.report.lines.items))
      (max old_read.report.least new_read.report.least) g.report

-- Both lines have the .link files that they name interfaces by, what is reported on these comes first, and then the line on waiting
-- if event blocks come from a terminal; what they are run over was read, or it is said what can't be.
pub record GathersBoth (may : Answer → Type 0) (from_terminal : Bool) (old_named new_named : Line) (g : Gathered) : Type 0 where
  pub old : Line
  pub new : Line
  pub on_old : Report
  pub on_new : Report
  pub reads_old : ReadsLinks may old_named old on_old
  pub reads_new : ReadsLinks may new_named new on_new
  pub own : Gathered
  pub gathers : Compares may old new own ⊎ IsEnded (IsOneUnread may old new) own
  pub behind : IsBehind (on_old.lines.items ++ on_new.lines.items) (max on_old.least on_new.least) from_terminal own g

-- the folders that the line asks for were visited, and which of their files count is told
abbrev pub Lists : (Answer → Type 0) → Line → Gathered → Type 0
Lists may line g = (listed : Listed) × IsListed may line listed × (g.work ≡ work.Tell listed.lines.items) × (g.report ≡ listed.report)

-- what is gathered for a request, given which streams are terminals: the input is read only for a line that names it as a file
abbrev pub GathersRequest : Terminals → (Answer → Type 0) → Request → SourceState → Gathered → SourceState → Type 0
GathersRequest terminals may (asked.Run line) before g now = GathersRun may terminals.input (shown_line terminals.colors line) before g now
GathersRequest terminals may (asked.Files line) before g now = Lists may line g × (now ≡ before)
GathersRequest terminals may (asked.Compare old new) before g now = GathersBoth may terminals.input old new g × (now ≡ before)

-- what is said of words that ask for no run: help is told, and what is wrong with them is said with status 2
abbrev pub SaysOfWords : LineFault → Gathered → Type 0
SaysOfWords (fault.Help text) g = (g.work ≡ work.Tell (string_bytes text)) × Says [] 0 g.report
SaysOfWords (fault.Usage text) g = IsEnded (Says (said_of_words (string_bytes text)) 2) g
SaysOfWords fault.Memory g = ⊥

-- The words ask for something, and this is what is gathered for it.
pub record GathersAsked (terminals : Terminals) (may : Answer → Type 0) (words : List Text) (before : SourceState) (g : Gathered)
    (now : SourceState) : Type 0 where
  pub request : Request
  pub is_request : IsRequestOf (subcommand_of devdry words) request
  pub faultless : fault_of devdry words ≡ []
  pub gathers : GathersRequest terminals may request before g now

-- The words ask for nothing that is run, and no input is read.
pub record RefusesWords (words : List Text) (before : SourceState) (g : Gathered) (now : SourceState) : Type 0 where
  pub fault : LineFault
  pub answers : AnswersWords (fault_of devdry words) (subcommand_of devdry words) fault
  pub says : SaysOfWords fault g
  pub unread : now ≡ before

-- what is gathered for words, given which streams are terminals, and what the input is after that: what is said of the file of
-- options that they name, if it gives no words; and otherwise what is gathered for all words
abbrev pub Gathers : Terminals → (Answer → Type 0) → (given : List Text) → SourceState → Gathered → SourceState → Type 0
Gathers terminals may given before g now = (IsEnded (AreBadWords may given) g × (now ≡ before)) ⊎ ((all : List Text) × AreWords may given all
    × (GathersAsked terminals may all before g now ⊎ RefusesWords all before g now))

-- whether the request is a line that names the standard input as a file
abbrev pub takes_input : Request → Bool
takes_input (asked.Run line) = names_input line
takes_input request = false

-- some of the input was read, which all words name as a file
abbrev pub ReadsNamed : List Text → SourceState → SourceState → Type 0
ReadsNamed all before now = (request : Request) × IsRequestOf (subcommand_of devdry all) request
    × (takes_input request ≡ true) × (fault : InputFault) × ReadsNot fault before now

-- what of the input was read if memory runs out: nothing, or some of it if the words name it as a file
abbrev pub IsLeft : (Answer → Type 0) → (given : List Text) → SourceState → SourceState → Type 0
IsLeft may given before now = (now ≡ before) ⊎ ((all : List Text) × AreWords may given all × ReadsNamed all before now)
