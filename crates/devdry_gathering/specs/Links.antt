-- What lines that answer events as udev does read beside their files.
use Rattle.std.specs.Prelude.{◌≡◌, ◌&&◌, Bool, List, [], MatchBool}
use Rattle.text_bytes.specs.declared.source_file.SourceFile.{SourceFile}
use Rattle.builtin_devices.specs.Knowledge.{FilesFound}
use Rattle.engine_sessions.specs.declared.line.Line.{Line}
use Rattle.engine_formats.specs.Masked.{shown_in}
use Rattle.devdry_files.specs.Answers.{Answer}
use Rattle.devdry_files.specs.Inside.{MayInside}
use Rattle.devdry_folders.specs.declared.reading.Report.{Report}
use Rattle.devdry_links.specs.Naming.{paths_named}
use Rattle.devdry_links.specs.ImportReading.{AreFound}
use Rattle.devdry_links.specs.Reading.{AreLinksRead}
use Rattle.devdry_links.specs.declared.reading.LinksRead.{LinksRead}
use Rattle.devdry_links.specs.Asked.{is_as_udev}
use Rattle.devdry_links.specs.Lying.{is_events}
use Rattle.devdry_gathering.specs.Reading.{Says}

-- whether a line answers events as udev does: then it names interfaces by .link files, and imports files of its root
abbrev pub does_as_udev : Line → Bool
does_as_udev line = is_events line.verb && is_as_udev line.profile

-- The .link files inside the line's root were read. The line has those that count, and what is reported is about the others, as
-- the line's format shows it.
pub record HasLinks (may : Answer → Type 0) (named line : Line) (report : Report) : Type 0 where
  pub read : LinksRead
  pub is_read : AreLinksRead (MayInside may named.root.now) named.root.now read
  pub links : line ≡ record named { links = read.links }
  pub says : Says (shown_in named.format read.report.lines.items) read.report.least report

-- a line that answers events as udev does gets the .link files of its root; any other stays as it is, and nothing is reported
abbrev pub ReadsLinks : (Answer → Type 0) → (named line : Line) → Report → Type 0
ReadsLinks may named line report = MatchBool (does_as_udev named) (HasLinks may named line report) ((line ≡ named) × Says [] 0 report)

-- what is found in the line's root at the paths that the rules of files name, if it answers events as udev does; else nothing
-- is looked at
abbrev pub FindsFor : (Answer → Type 0) → Line → List SourceFile → FilesFound → Type 0
FindsFor may line files found =
    MatchBool (does_as_udev line) (AreFound (MayInside may line.root.now) line.root.now (paths_named files) [] found) (found ≡ [])
