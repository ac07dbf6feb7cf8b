-- What a disk may answer.
use Rattle.std.specs.Prelude.{List}
use Rattle.text_bytes.specs.Text.{Text}
use Rattle.devdry_files.specs.declared.disk.Entry.{Entry}
use Rattle.devdry_files.specs.declared.disk.DiskFault.{DiskFault}
use Rattle.devdry_files.specs.declared.look.Look.{Look}
use Rattle.devdry_files.specs.declared.step.Identity.{Identity}
use Rattle.devdry_files.specs.declared.step.Step.{Step}

-- An answer about a path: the entries of the folder there, or why they can't be given; the bytes of the file there,
-- or why they can't be given; the same if it is the file with this identity; what is there, with symlinks followed;
-- and what is there, with no symlink followed at its end.
pub data Answer : Type 0 where
  Listing : Text → List Entry → Answer
  NoListing : Text → DiskFault → Answer
  Content : Text → Text → Answer
  NoContent : Text → DiskFault → Answer
  OwnContent : Text → Identity → Text → Answer
  NoOwnContent : Text → Identity → DiskFault → Answer
  Looked : Text → Look → Answer
  Stepped : Text → Step → Answer
