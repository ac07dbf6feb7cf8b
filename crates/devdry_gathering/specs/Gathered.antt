-- What is gathered, and how what is reported is put together.
use Rattle.std.specs.Prelude.{◌≡◌, ◌++◌, ℕ, Bool, max}
use Rattle.text_bytes.specs.Text.{Text}
use Rattle.devdry_folders.specs.declared.reading.Report.{Report}
use Rattle.devdry_gathering.specs.declared.gathered.Gathered.{Gathered}
use Rattle.devdry_gathering.specs.declared.gathered.Work.TheVariants.{Nothing}
use Rattle.devdry_gathering.specs.Reading.{Says}
use Rattle.devdry_gathering.specs.Said.{waiting_if}

-- nothing is left to do, and this holds of what is reported
abbrev pub IsEnded : (Report → Type 0) → Gathered → Type 0
IsEnded IsSaid g = (g.work ≡ Nothing) × IsSaid g.report

-- What was gathered, behind what is reported first: lines with a least status, and then the line on waiting for event blocks if the
-- run waits for them.
pub record IsBehind (lines : Text) (least : ℕ) (waits : Bool) (own g : Gathered) : Type 0 where
  pub work : g.work ≡ own.work
  pub says : Says (lines ++ (waiting_if waits ++ own.report.lines.items)) (max least own.report.least) g.report
