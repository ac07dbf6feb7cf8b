-- What an error of the system means for a disk.
use Rattle.std.specs.Prelude.{◌≡◌, ◌⊎◌, ◌||◌, ℕ, Bool, true, false, List, None, Option, Some, Result, Ok, Err, String, codes, map, nat_eq, option_map}
use Rattle.std.specs.IoError.{error_kind}
use Rattle.std.specs.List.{ends_with}
use Rattle.std.specs.Str.{bytes_eq}
use Rattle.text_bytes.specs.Kinds.{suffix_of}
use Rattle.text_bytes.specs.declared.source_file.FileKind.TheVariants.{Hwdb, Rules}
use Rattle.std.specs.Iterator.{YieldsThen}
use Rattle.std.specs.declared.alloc.Global.{Global}
use Rattle.std.specs.declared.io.Error.{Error}
use Rattle.std.specs.declared.io.ErrorKind.{ErrorKind}
use Rattle.std.specs.declared.io.ErrorKind.TheVariants as kind
use Rattle.text_bytes.specs.Text.{Text}
use Rattle.devdry_files.specs.declared.disk.DiskFault.{DiskFault}
use Rattle.devdry_files.specs.declared.disk.DiskFault.TheVariants.{Absent, Unreadable, NotUtf8, OutOfMemory}
use Rattle.devdry_files.specs.declared.fault.ReadFault.{ReadFault}
use Rattle.devdry_files.specs.declared.fault.ReadFault.TheVariants.{Path, Memory}
use Rattle.devdry_files.specs.declared.look.Look.{Look}
use Rattle.devdry_files.specs.declared.look.Look.TheVariants as look
use Rattle.devdry_files.specs.declared.step.Step.{Step}
use Rattle.devdry_files.specs.declared.step.Step.TheVariants as step

-- nothing is there, memory ran out, or what is there can't be read
abbrev pub fault_from : ErrorKind → DiskFault
fault_from kind.NotFound = Absent
fault_from kind.OutOfMemory = OutOfMemory
fault_from _ = Unreadable

-- what it means that the names in a folder that was opened could not be read: one is not UTF-8, or what an error of the folder
-- means
abbrev pub names_fault_from : ErrorKind → DiskFault
names_fault_from kind.InvalidFilename = NotUtf8
names_fault_from kind.NotFound = Absent
names_fault_from kind.OutOfMemory = OutOfMemory
names_fault_from _ = Unreadable

-- whether what can't be looked at is a folder: it is none, so that reading it says why; or memory ran out
abbrev pub unseen_folder : ErrorKind → Result Bool DiskFault
unseen_folder kind.OutOfMemory = Err OutOfMemory
unseen_folder _ = Ok false

-- what it means that a file that was opened could not be read: that memory ran out, or that it can't be read; nothing else is an
-- absence
abbrev pub read_fault_from : ErrorKind → DiskFault
read_fault_from kind.OutOfMemory = OutOfMemory
read_fault_from _ = Unreadable

-- the number of the null device, 1:3 as the system writes it
abbrev pub null_device : ℕ
null_device = 259

-- whether what a look shows is opened, so that one that may not be opened is recognized: folders and files, and nothing else, since a
-- FIFO would be waited for
abbrev pub is_opened : Look → Bool
is_opened look.Folder = true
is_opened look.File = true
is_opened _ = false

-- whether what a look shows at a path is not opened: what is neither a folder nor a file, such as a FIFO, which would be waited for, at
-- a path that ends like the names of rules or of database files, or at that of the standard input
abbrev pub is_refused : Look → Text → Bool
is_refused look.Other path =
    (ends_with nat_eq path (suffix_of Rules) || ends_with nat_eq path (suffix_of Hwdb)) || bytes_eq path (codes "/dev/stdin")
is_refused _ path = false

-- What a look that failed shows, or nothing if memory ran out. Nothing that can be read is below a file, and links
-- that lead to one another lead nowhere: neither is an absence.
abbrev pub look_from : ErrorKind → Option Look
look_from kind.NotFound = Some look.Absent
look_from kind.NotADirectory = Some look.Other
look_from kind.PermissionDenied = Some look.Forbidden
look_from kind.OutOfMemory = None
look_from _ = Some look.Failed

-- what a step shows at a symlink that can't be read: one that leads to a path that is not UTF-8, or what a look that failed shows
abbrev pub step_unread : ErrorKind → Option Step
step_unread kind.InvalidFilename = Some step.OddLink
step_unread other = option_map step.NoWay (look_from other)

-- Why the names of a listing can't be given: memory ran out, or an entry could not be taken, after some that could.
abbrev pub IsNamesFault : {S A : Type 0} → (S → Option (Result A Error) → S → Type 0) → S → Error → Type 0
IsNamesFault {S} {A} next_gives listing error = (error_kind error ≡ kind.OutOfMemory)
    ⊎ ((found : List A) × (later : S) × YieldsThen next_gives listing (map Ok found) (Some (Err error)) later)

-- the fault of a disk at a path
abbrev pub fault_of : String Global → DiskFault → ReadFault
fault_of path OutOfMemory = Memory
fault_of path _ = Path path
