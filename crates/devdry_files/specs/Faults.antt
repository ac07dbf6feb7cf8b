-- What the fault of a reading is about.
use Rattle.std.specs.Prelude.{◌≡◌, ◌++◌, ◌∷◌, ◌⊎◌, ⊤, List, [], String, map, string_bytes}
use Rattle.std.specs.Option.{option_copied, option_to_list}
use Rattle.std.specs.declared.alloc.Global.{Global}
use Rattle.text_bytes.specs.Text.{Text}
use Rattle.text_bytes.specs.declared.source_file.SourceFile.{SourceFile}
use Rattle.devdry_files.specs.Answers.{Answer}
use Rattle.devdry_files.specs.Answers.Answer.{Content, NoContent, NoListing}
use Rattle.devdry_files.specs.Found.{AreInFolder, AreNamesIn, path_in}
use Rattle.devdry_files.specs.Inside.{MayInside}
use Rattle.devdry_files.specs.declared.disk.DiskFault.TheVariants.{Absent, Unreadable, NotUtf8}
use Rattle.devdry_files.specs.declared.fault.ReadFault.{ReadFault}
use Rattle.devdry_files.specs.declared.fault.ReadFault.TheVariants.{Path, Memory}
use Rattle.devdry_files.specs.declared.places.Folder.{Folder}
use Rattle.devdry_files.specs.declared.places.Wanted.{Wanted}

-- the fault has a path for which this holds, or memory ran out
abbrev pub HasPath : (Text → Type 0) → ReadFault → Type 0
HasPath P (Path path) = P (string_bytes path)
HasPath P Memory = ⊤

-- the disk may say that it can't list the folder at the path, or that a name in it is not UTF-8
abbrev pub IsUnlisted : (Answer → Type 0) → Text → Type 0
IsUnlisted may path = may (NoListing path Unreadable) ⊎ may (NoListing path NotUtf8)

-- the disk may say that it can't read what is at the path, for one reason or the other
abbrev pub IsUnreadable : (Answer → Type 0) → Text → Type 0
IsUnreadable may path = may (NoContent path Unreadable) ⊎ may (NoContent path NotUtf8)

-- the disk may say that nothing is at the path, or that it can't read what is there
abbrev pub IsUnread : (Answer → Type 0) → Text → Type 0
IsUnread may path = may (NoContent path Absent) ⊎ IsUnreadable may path

-- A step of reading: what it means that it was done, and that it failed with a fault that has a path.
pub record ReadStep : Type 1 where
  pub WasDone : Type 0
  pub FailsAt : Text → Type 0

-- one of the steps failed with a fault that has the path; all before it were done
abbrev pub FirstFails : List ReadStep → Text → Type 0
FirstFails [] path = ⊥
FirstFails (step ∷ steps) path = step.FailsAt path ⊎ (step.WasDone × FirstFails steps path)

-- the step that reads the file at a path
abbrev pub file_step : (Answer → Type 0) → Text → ReadStep
file_step may at = record { WasDone = (bytes : Text) × may (Content at bytes); FailsAt = λ path. (path ≡ at) × IsUnread may path }

-- the steps that read the files at these paths
abbrev pub file_steps : (Answer → Type 0) → List Text → List ReadStep
file_steps may paths = map (file_step may) paths

-- the steps that read a folder in which these are the names of files of its kind: it is listed, and then its files are read
abbrev pub steps_in : (Answer → Type 0) → Folder → List (String Global) → List ReadStep
steps_in may folder names =
    record { WasDone = AreNamesIn may folder names; FailsAt = λ path. (path ≡ string_bytes folder.path) × IsUnlisted may path }
    ∷ file_steps may (map (path_in folder) (map string_bytes names))

-- the path is that of the folder, which the disk may say that it can't list, or of the first of its files that it may say
-- that it can't read
abbrev pub IsFaultyIn : (Answer → Type 0) → Folder → Text → Type 0
IsFaultyIn may folder path = (names : List (String Global)) × FirstFails (steps_in may folder names) path

-- the step that reads a folder
abbrev pub folder_step : (Answer → Type 0) → Folder → ReadStep
folder_step may folder = record { WasDone = (files : List SourceFile) × AreInFolder may folder files; FailsAt = IsFaultyIn may folder }

-- the steps that read the folders
abbrev pub folder_steps : (Answer → Type 0) → List Folder → List ReadStep
folder_steps may folders = map (folder_step may) folders

-- the steps that read what is wanted and not named: the added files, and then the folders inside their root
abbrev pub unnamed_steps : (Answer → Type 0) → Wanted → List ReadStep
unnamed_steps may w = file_steps may (map (λ f. f.now) w.added.now) ++ folder_steps (MayInside may w.root.now) w.folders.items

-- the path is that of the first file or folder, in the order of reading, that the disk may say it can't read or list: the named files come
-- first, and then the rest
abbrev pub IsFaultyWanted : (Answer → Type 0) → Wanted → Text → Type 0
IsFaultyWanted may w path = FirstFails (file_steps may (map (λ f. f.now) w.files.now) ++ unnamed_steps may w) path

-- the path is that of the index that is wanted, which the disk may say that it can't read
abbrev pub IsFaultyIndex : (Answer → Type 0) → Wanted → Text → Type 0
IsFaultyIndex may w path = FirstFails (file_steps may (option_to_list (option_copied w.index))) path
