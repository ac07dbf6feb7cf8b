-- Ways that stay inside their root.
use Rattle.std.specs.Prelude.{◌≡◌, ◌++◌, ◌∷◌, ◌||◌, ⊤, false, []}
use Rattle.text_bytes.specs.Text.{Text}
use Rattle.devdry_files.specs.Answers.{Answer}
use Rattle.devdry_files.specs.Answers.Answer.{Stepped}
use Rattle.devdry_files.specs.Walks.{Way, is_here, is_up, place_in}
use Rattle.devdry_files.specs.declared.step.End.{End}
use Rattle.devdry_files.specs.declared.step.End.TheVariants as end
use Rattle.devdry_files.specs.declared.step.Step.TheVariants as step

-- a name that leads neither nowhere else nor back: not empty, `.` or `..`
abbrev pub IsForward : Text → Type 0
IsForward name = (is_here name || is_up name) ≡ false

-- each of these names leads forward, and the disk may say that each leads to a folder and to no symlink, after a way
abbrev pub AreFolders : (Answer → Type 0) → Text → Way → Way → Type 0
AreFolders may root before [] = ⊤
AreFolders may root before (name ∷ names) = IsForward name × may (Stepped (place_in root (before ++ name ∷ [])) step.Folder)
    × AreFolders may root (before ++ name ∷ []) names

-- a folder or a file that a way from the root comes to: only folders are on the way to it, and it is no symlink
abbrev pub IsInside : (Answer → Type 0) → Text → End → Way → Type 0
IsInside may root end.Folder at = AreFolders may root [] at
IsInside may root (end.File identity) at = (front : Way) × (name : Text) × (at ≡ front ++ name ∷ []) × AreFolders may root [] front
    × IsForward name × may (Stepped (place_in root (front ++ name ∷ [])) (step.File identity))
IsInside may root _ at = ⊤
