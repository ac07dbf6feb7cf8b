-- The files of users and groups that a line names, as they come from the answers that a disk may give.
use Rattle.std.specs.Prelude.{◌≡◌, ◌++◌, ◌⊎◌, true, MatchBool, Option, None, Some, if◌then◌else◌}
use Rattle.text_bytes.specs.Text.{Text}
use Rattle.engine_sessions.specs.declared.line.AccountFile.{AccountFile}
use Rattle.engine_sessions.specs.declared.line.Line.{Line}
use Rattle.devdry_files.specs.Answers.{Answer}
use Rattle.devdry_files.specs.Answers.Answer.{Content, NoContent}
use Rattle.devdry_files.specs.Faults.{IsUnread, IsUnreadable}
use Rattle.devdry_files.specs.Inside.{MayInside}
use Rattle.devdry_files.specs.declared.disk.DiskFault.TheVariants.{Absent}

-- where a file of users or groups is: that of the root is below the root
abbrev pub account_place : Text → AccountFile → Text
account_place root file = if file.of_root then root ++ file.path.now else file.path.now

-- the file with the bytes that the disk may say are at its place, for that of the root inside the root; that of the root is none if
-- the disk may say that there is none
abbrev pub IsFileRead : (Answer → Type 0) → Text → AccountFile → Option AccountFile → Type 0
IsFileRead may root named (Some file) = (file ≡ record named { bytes = file.bytes })
    × (let answer = Content (account_place root named) file.bytes in MatchBool named.of_root (MayInside may root answer) (may answer))
IsFileRead may root named None = (named.of_root ≡ true) × MayInside may root (NoContent (account_place root named) Absent)

-- the file that is named as it was read, and none if none is named
abbrev pub IsAccountRead : (Answer → Type 0) → Text → Option AccountFile → Option AccountFile → Type 0
IsAccountRead may root None read = read ≡ None
IsAccountRead may root (Some named) read = IsFileRead may root named read

-- the files of users and groups that the line names were read, and the rest of the line stays
pub record AreAccountsRead (may : Answer → Type 0) (named line : Line) : Type 0 where
  pub users : IsAccountRead may named.root.now named.users line.users
  pub groups : IsAccountRead may named.root.now named.groups line.groups
  pub rest : line ≡ record named { users = line.users; groups = line.groups }

-- the path is that of the file that is named, which the disk may say that it can't read: that of the root has to be there for that, one
-- that is named has not
abbrev pub IsFaultyAccount : (Answer → Type 0) → Text → Option AccountFile → Text → Type 0
IsFaultyAccount may root None path = ⊥
IsFaultyAccount may root (Some file) path = (path ≡ account_place root file)
    × MatchBool file.of_root (IsUnreadable (MayInside may root) path) (IsUnread may path)

-- the first of the files of users and groups that a line names which the disk may say that it can't read
abbrev pub IsFaultyAccounts : (Answer → Type 0) → Line → Text → Type 0
IsFaultyAccounts may named path = IsFaultyAccount may named.root.now named.users path
    ⊎ ((users : Option AccountFile) × IsAccountRead may named.root.now named.users users × IsFaultyAccount may named.root.now named.groups path)
