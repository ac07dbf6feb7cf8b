-- What a disk may answer on which an input is a file.
use Rattle.std.specs.Prelude.{◌≡◌, MatchBool}
use Rattle.std.specs.Str.{bytes_eq}
use Rattle.text_bytes.specs.Text.{Text}
use Rattle.devdry_files.specs.Answers.{Answer}
use Rattle.devdry_files.specs.Answers.Answer.{Content, Looked, NoContent}
use Rattle.devdry_files.specs.declared.disk.DiskFault.TheVariants.{OutOfMemory}
use Rattle.devdry_files.specs.declared.look.Look.TheVariants.{File}

-- what a disk may answer that has a file with these bytes at a path, and otherwise what another disk has: the file is
-- read with its bytes, unless memory runs out, and seen as a file
abbrev pub MayBeside : (Answer → Type 0) → (path bytes : Text) → Answer → Type 0
MayBeside may path bytes (Content at found) = MatchBool (bytes_eq at path) (found ≡ bytes) (may (Content at found))
MayBeside may path bytes (NoContent at fault) = MatchBool (bytes_eq at path) (fault ≡ OutOfMemory) (may (NoContent at fault))
MayBeside may path bytes (Looked at look) = MatchBool (bytes_eq at path) (look ≡ File) (may (Looked at look))
MayBeside may path bytes answer = may answer
