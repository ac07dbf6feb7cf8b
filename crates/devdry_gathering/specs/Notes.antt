-- What there is to tell about files before a run.
use Rattle.std.specs.Prelude.{◌≡◌, Bool, true, false, if◌then◌else◌, List, [], MatchBool}
use Rattle.text_bytes.specs.Text.{Text}
use Rattle.text_bytes.specs.declared.source_file.SourceFile.{SourceFile}
use Rattle.engine_sessions.specs.declared.line.Line.{Line}
use Rattle.engine_formats.specs.Masked.{shown_in}
use Rattle.devdry_files.specs.Answers.{Answer}
use Rattle.devdry_files.specs.Answers.Answer.{Looked}
use Rattle.devdry_files.specs.Inside.{MayInside}
use Rattle.devdry_files.specs.declared.look.Look.{Look}
use Rattle.devdry_files.specs.declared.look.Look.TheVariants.{Folder}
use Rattle.devdry_folders.specs.Lying.{AreLying}
use Rattle.devdry_links.specs.Asked.{asks_folder, asks_root}
use Rattle.devdry_links.specs.Lying.{asks_lying}
use Rattle.devdry_links.specs.Notes.{folder_note}
use Rattle.devdry_links.specs.Told.{notes_of}

-- whether a folder was seen
abbrev pub is_folder : Look → Bool
is_folder Folder = true
is_folder _ = false

-- whether there is a folder at the path, as the disk may show it, if that is asked; otherwise nothing is looked at
abbrev pub IsThere : (Answer → Type 0) → (asked : Bool) → (path : Text) → Bool → Type 0
IsThere may asked path there = MatchBool asked ((look : Look) × may (Looked path look) × (there ≡ is_folder look)) (there ≡ false)

-- the hint on a file that the line names at the path: the note on a folder, if there is one and messages are for people
abbrev pub IsHintAt : (Answer → Type 0) → Line → (path hint : Text) → Type 0
IsHintAt may line path hint = (there : Bool) × IsThere may (asks_folder line path) path there × (hint ≡ (if there then folder_note path else []))

-- the paths of the rules files in the folders of a line's root, if it asks about them; otherwise nothing is looked at
abbrev pub AreLyingFor : (Answer → Type 0) → Line → (paths : List Text) → Type 0
AreLyingFor may line paths = MatchBool (asks_lying line) (AreLying (MayInside may line.root.now) line.root.now paths) (paths ≡ [])

-- the notes are all that there is to tell about the files that were read for the line, as its format shows them
pub record AreNotesOf (may : Answer → Type 0) (line : Line) (files : List SourceFile) (notes : Text) : Type 0 where
  pub there : Bool
  pub seen : IsThere may (asks_root line) line.root.now there
  pub lying : List Text
  pub are_lying : AreLyingFor may line lying
  pub notes_are : notes ≡ shown_in line.format (notes_of line files there lying)
