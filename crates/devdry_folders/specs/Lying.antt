-- Which rules files lie in the folders of a root, whether a run reads them or not.
use Rattle.std.specs.Prelude.{◌≡◌, ◌++◌, ℕ, List, filter, map, string_bytes}
use Rattle.text_bytes.specs.Text.{Text}
use Rattle.text_bytes.specs.declared.source_file.FileKind.TheVariants.{Rules}
use Rattle.engine_sessions.specs.Folders.{folder_path}
use Rattle.devdry_files.specs.Answers.{Answer}
use Rattle.devdry_files.specs.Found.{counts}
use Rattle.devdry_files.specs.declared.disk.Entry.{Entry}
use Rattle.devdry_folders.specs.Nothing.{AreEntries}
use Rattle.devdry_folders.specs.Visits.{below}

-- the paths of the rules files among the entries of a folder, in their order
abbrev pub paths_of : (folder : Text) → List Entry → List Text
paths_of folder entries = map (λ e. below folder (string_bytes e.name)) (filter (counts Rules) entries)

-- the paths of the rules files in the folder of a rank, as the disk may list it
abbrev pub AreLyingAt : (Answer → Type 0) → (root : Text) → (rank : ℕ) → List Text → Type 0
AreLyingAt may root rank paths =
    (entries : List Entry) × AreEntries may (root ++ folder_path Rules rank) entries × (paths ≡ paths_of (root ++ folder_path Rules rank) entries)

-- the paths of the rules files in the four folders, folder by folder
pub record AreLying (may : Answer → Type 0) (root : Text) (paths : List Text) : Type 0 where
  pub first : List Text
  pub second : List Text
  pub third : List Text
  pub fourth : List Text
  pub in_first : AreLyingAt may root 0 first
  pub in_second : AreLyingAt may root 1 second
  pub in_third : AreLyingAt may root 2 third
  pub in_fourth : AreLyingAt may root 3 fourth
  pub all : paths ≡ first ++ (second ++ (third ++ fourth))
