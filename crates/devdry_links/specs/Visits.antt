-- The outcome of looking for .link files and drop-ins, as it comes from the answers that a disk may give.
use Rattle.std.specs.Prelude.{◌≡◌, ◌++◌, ◌∷◌, All, List, [], false, flat_map, map}
use Rattle.text_bytes.specs.Text.{Text}
use Rattle.text_bytes.specs.declared.source_file.FileKind.TheVariants.{Rules}
use Rattle.text_bytes.specs.declared.source_file.SourceFile.{SourceFile}
use Rattle.devdry_files.specs.Answers.{Answer}
use Rattle.devdry_folders.specs.Unread.{lines_on_scan}
use Rattle.devdry_folders.specs.Visits.{IsFolderScan}
use Rattle.devdry_folders.specs.declared.sights.Met.{Met}
use Rattle.devdry_folders.specs.declared.sights.Met.TheVariants as met
use Rattle.devdry_folders.specs.declared.sights.Sight.{Sight}
use Rattle.devdry_links.specs.Places.{LinkPlaceValue}
use Rattle.devdry_links.specs.declared.visits.LinkVisit.{LinkVisit}

-- a folder was looked at: what is met at each name in it that ends like those of its files
abbrev pub IsVisit : (Answer → Type 0) → LinkVisit → Type 0
IsVisit may v = IsFolderScan may v.place.suffix v.place.path v.scan

-- these folders were looked at, in their order
pub record AreVisits (may : Answer → Type 0) (places : List LinkPlaceValue) (visits : List LinkVisit) : Type 0 where
  pub at_places : map (λ v. v.place) visits ≡ places
  pub each : All (IsVisit may) visits

-- a file of a folder; its kind is not looked at
abbrev pub file_at : LinkPlaceValue → (name bytes : Text) → SourceFile
file_at place name bytes = record { kind = Rules; rank = place.rank; name = place.before ++ name; bytes = bytes }

-- the file at a name in a folder: one that can't be read has no bytes, so that it masks those of its name; a folder is none
abbrev pub file_of_met : LinkPlaceValue → (name : Text) → Met → List SourceFile
file_of_met place name (met.File bytes) = file_at place name bytes ∷ []
file_of_met place name (met.Unread reason) = file_at place name [] ∷ []
file_of_met place name _ = []

-- the file of what was met, if it is one
abbrev pub file_of_sight : LinkPlaceValue → Sight → List SourceFile
file_of_sight place s = file_of_met place s.name s.met

-- the files of a visit, by name
abbrev pub files_of_visit : LinkVisit → List SourceFile
files_of_visit v = flat_map (file_of_sight v.place) v.scan.sights.items

-- the files of visits, in their order
abbrev pub files_of : List LinkVisit → List SourceFile
files_of visits = flat_map files_of_visit visits

-- the lines on what can't be read in a folder
abbrev pub lines_on_visit : LinkVisit → Text
lines_on_visit v = lines_on_scan false v.place.path v.scan

-- the lines on what can't be read, in the order of the visits
abbrev pub unread_lines : List LinkVisit → Text
unread_lines visits = flat_map lines_on_visit visits
