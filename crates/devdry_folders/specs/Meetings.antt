-- What is met at the path of a file, as it comes from the answers that a disk may give.
use Rattle.std.specs.Prelude.{◌≡◌, Option, Some, None, codes, string_bytes}
use Rattle.text_bytes.specs.Text.{Text}
use Rattle.devdry_files.specs.Answers.{Answer}
use Rattle.devdry_files.specs.Answers.Answer.{Content, Looked, NoContent, Stepped}
use Rattle.devdry_files.specs.declared.disk.DiskFault.TheVariants as disk
use Rattle.devdry_files.specs.declared.look.Look.{Look}
use Rattle.devdry_files.specs.declared.look.Look.TheVariants as looks
use Rattle.devdry_files.specs.declared.step.Step.{Step}
use Rattle.devdry_files.specs.declared.step.Step.TheVariants as step
use Rattle.devdry_folders.specs.declared.reasons.Reason.{Reason}
use Rattle.devdry_folders.specs.declared.reasons.Reason.TheVariants as reasons
use Rattle.devdry_folders.specs.declared.sights.Met.{Met}
use Rattle.devdry_folders.specs.declared.sights.Met.TheVariants as met

-- where the symlink that a step shows leads, as it is written, or a question mark if that is not UTF-8
abbrev pub target_of : Step → Option Text
target_of (step.Link target) = Some (string_bytes target)
target_of step.OddLink = Some (codes "?")
target_of _ = None

-- the symlink at the path leads there, as the disk may show it, or there is none
abbrev pub IsLinkAt : (Answer → Type 0) → Text → Option Text → Type 0
IsLinkAt may path link = (shown : Step) × may (Stepped path shown) × (link ≡ target_of shown)

-- why nothing is at a path, by the target of the symlink there, if there is one
abbrev pub absence : Option Text → Reason
absence None = reasons.Absent
absence (Some target) = reasons.LinkToNothing target

-- a file at the path is read like this, as the disk may answer
abbrev pub IsReadSo : (Answer → Type 0) → Text → Met → Type 0
IsReadSo may path (met.File bytes) = may (Content path bytes)
IsReadSo may path (met.Unread reasons.Absent) = may (NoContent path disk.Absent)
IsReadSo may path (met.Unread reasons.Failed) = may (NoContent path disk.Unreadable)
IsReadSo may path (met.Unread reasons.NotUtf8) = may (NoContent path disk.NotUtf8)
IsReadSo may path _ = ⊥

-- What is met at the path, by a look at it: a file is read, a folder is skipped, and all else can't be read. If nothing is there,
-- that is for the reason that the symlink there gives, if there is one.
abbrev pub IsMetBy : (Answer → Type 0) → Text → Look → Met → Type 0
IsMetBy may path looks.Absent it = (link : Option Text) × IsLinkAt may path link × (it ≡ met.Unread (absence link))
IsMetBy may path looks.Folder it = it ≡ met.Folder
IsMetBy may path looks.File it = IsReadSo may path it
IsMetBy may path looks.Forbidden it = it ≡ met.Unread reasons.Forbidden
IsMetBy may path looks.Other it = it ≡ met.Unread reasons.NotRegular
IsMetBy may path looks.Failed it = it ≡ met.Unread reasons.Failed

-- it is met like this by a look that the disk may give
pub record IsMet (may : Answer → Type 0) (path : Text) (it : Met) : Type 0 where
  pub look : Look
  pub looked : may (Looked path look)
  pub met_so : IsMetBy may path look it

-- what is met where only a file is taken: a folder there can't be read
abbrev pub as_file : Met → Met
as_file met.Folder = met.Unread reasons.NotRegular
as_file it = it

-- it is met at a path where only a file is taken
abbrev pub IsFileMet : (Answer → Type 0) → Text → Met → Type 0
IsFileMet may path it = (found : Met) × IsMet may path found × (it ≡ as_file found)
