-- What is found at the paths that rules name, as it comes from the answers that a disk may give.
use Rattle.std.specs.Prelude.{◌≡◌, ◌++◌, ◌∷◌, ◌⊎◌, List, [], MatchBool, Option, None, Some}
use Rattle.std.specs.Str.{is_utf8}
use Rattle.text_bytes.specs.Text.{Text}
use Rattle.text_tables.specs.Pairs.{named, with_value}
use Rattle.builtin_devices.specs.Knowledge.{FilesFound}
use Rattle.builtin_devices.specs.declared.root_files.RootFile.{RootFile}
use Rattle.builtin_devices.specs.declared.root_files.RootFile.TheVariants as root
use Rattle.devdry_files.specs.Answers.{Answer}
use Rattle.devdry_files.specs.Answers.Answer.{Content, Looked, NoContent}
use Rattle.devdry_files.specs.declared.disk.DiskFault.TheVariants as disk
use Rattle.devdry_files.specs.declared.look.Look.{Look}
use Rattle.devdry_files.specs.declared.look.Look.TheVariants as look

-- what comes of reading a file at a path: its bytes, or that it is not there after all; else it can't be read
abbrev pub IsReadSo : (Answer → Type 0) → Text → Option RootFile → Type 0
IsReadSo may path (Some (root.Read bytes)) = may (Content path bytes)
IsReadSo may path (Some root.Absent) = may (NoContent path disk.Absent)
IsReadSo may path None = may (NoContent path disk.Unreadable) ⊎ may (NoContent path disk.NotUtf8)

-- What is found at a path, by a look at it: a file is read, nothing is there, and all else can't be read.
abbrev pub IsFoundBy : (Answer → Type 0) → Text → Look → Option RootFile → Type 0
IsFoundBy may path look.File found = IsReadSo may path found
IsFoundBy may path look.Absent found = found ≡ Some root.Absent
IsFoundBy may path _ found = found ≡ None

-- it is found at a path by a look that the disk may give
abbrev pub IsFound : (Answer → Type 0) → Text → Option RootFile → Type 0
IsFound may path found = (shown : Look) × may (Looked path shown) × IsFoundBy may path shown found

-- it is found at a path below a root; one that is not UTF-8 is not looked at
abbrev pub IsFoundBelow : (Answer → Type 0) → Text → Text → Option RootFile → Type 0
IsFoundBelow may root path found = MatchBool (is_utf8 path) (IsFound may (root ++ path) found) (found ≡ None)

-- what was found so far, with what was found at one more path, if that is anything
abbrev pub with_found : Text → Option RootFile → FilesFound → FilesFound
with_found path None held = held
with_found path (Some it) held = with_value held path it

-- Paths below a root were looked at, one after another, but for those at which something was found before.
abbrev pub AreFound : (Answer → Type 0) → Text → List Text → (held found : FilesFound) → Type 0
AreFound may root [] held found = found ≡ held
AreFound may root (path ∷ paths) held found =
    MatchBool (named held path) (AreFound may root paths held found)
    ((it : Option RootFile) × IsFoundBelow may root path it × AreFound may root paths (with_found path it held) found)
