-- For contracts within the crate, no reader has to believe it: why a reading ended.
use Rattle.std.specs.Prelude.{◌≡◌, ⊤, ◌⊎◌, Bool, true, List, Option}
use Rattle.text_bytes.specs.Text.{Text}
use Rattle.text_bytes.specs.declared.source_file.SourceFile.{SourceFile}
use Rattle.engine_sessions.specs.Sources.{SourceState}
use Rattle.engine_sessions.specs.declared.line.Line.{Line}
use Rattle.devdry_files.specs.Answers.{Answer}
use Rattle.devdry_folders.specs.declared.reading.Report.{Report}
use Rattle.devdry_files.specs.Whole.{ReadsNot}
use Rattle.devdry_files.specs.declared.input_reading.InputFault.{InputFault}
use Rattle.devdry_gathering.specs.Links.{FindsFor}
use Rattle.devdry_gathering.specs.declared.gathered.Ended.{Ended}
use Rattle.devdry_gathering.specs.declared.gathered.Ended.TheVariants.{Said, Memory}
use Rattle.devdry_gathering.specs.declared.gathered.Inputs.{Inputs}

-- this holds of what is said, or memory ran out
abbrev pub EndsIn : (Report → Type 0) → Ended → Type 0
EndsIn IsSaid (Said report) = IsSaid report
EndsIn IsSaid Memory = ⊤

-- what of the input was read if memory runs out, by whether it is named as a file
abbrev pub IsLeftBy : (named : Bool) → SourceState → SourceState → Type 0
IsLeftBy named before now = (now ≡ before) ⊎ ((named ≡ true) × (fault : InputFault) × ReadsNot fault before now)

-- A line with these files and this index, and with what was found at the paths that its rules import.
pub record IsMadeOf (may : Answer → Type 0) (line : Line) (files : List SourceFile) (index : Option Text) (inputs : Inputs) : Type 0 where
  pub line_is : inputs.line ≡ line
  pub files_are : inputs.files.items ≡ files
  pub index_is : inputs.index ≡ index
  pub finds : FindsFor may line files inputs.found
