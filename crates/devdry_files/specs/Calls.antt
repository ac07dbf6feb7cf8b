-- What a system replies to the calls about files, and the answers of a disk that come from such replies.
use Rattle.std.specs.Prelude.{◌≡◌, ◌++◌, ◌∷◌, ◌==◌, ◌&&◌, ⊤, ℕ, Bool, true, false, List, MatchBool, None, Option, Some, Result, Ok, Err, if◌then◌else◌}
use Rattle.std.specs.Prelude.{string_bytes}
use Rattle.std.specs.IoError.{error_kind}
use Rattle.std.specs.List.{AllZip}
use Rattle.std.specs.declared.io.Error.{Error}
use Rattle.text_bytes.specs.Text.{Text}
use Rattle.text_bytes.specs.Names.{slash}
use Rattle.devdry_files.specs.Answers.{Answer}
use Rattle.devdry_files.specs.Answers.Answer.{Content, Listing, Looked, NoContent, NoListing, NoOwnContent, OwnContent, Stepped}
use Rattle.devdry_files.specs.Errors.{is_opened, is_refused, look_from, null_device, step_unread, unseen_folder}
use Rattle.devdry_files.specs.Inside.{same_identity}
use Rattle.devdry_files.specs.Memory.{LinksTo}
use Rattle.devdry_files.specs.declared.disk.DiskFault.{DiskFault}
use Rattle.devdry_files.specs.declared.disk.Entry.{Entry}
use Rattle.devdry_files.specs.declared.look.Look.{Look}
use Rattle.devdry_files.specs.declared.look.Look.TheVariants as look
use Rattle.devdry_files.specs.declared.step.Identity.{Identity}
use Rattle.devdry_files.specs.declared.step.Step.{Step}
use Rattle.devdry_files.specs.declared.step.Step.TheVariants as step
use Rattle.devdry_files.specs.declared.system.Node.{Node}
use Rattle.devdry_files.specs.declared.system.NodeKind.{NodeKind}
use Rattle.devdry_files.specs.declared.system.NodeKind.TheVariants as kind

-- A reply about a path: the names in the folder there; what is there, with symlinks followed; what is there, with no
-- symlink followed at its end; where the symlink there leads; and what was opened there.
pub data Reply : Type 0 where
  Named : Text → List Text → Reply
  Shown : Text → Result Node Error → Reply
  ShownLast : Text → Result Node Error → Reply
  Led : Text → Result Text Error → Reply
  Opened : Text → Result Node Error → Reply

-- the kind of what is no folder, no regular file and no symlink, by the number of the character device that it is
abbrev pub kind_by : Option ℕ → NodeKind
kind_by (Some number) = kind.Device number
kind_by None = kind.Other

-- what a look shows, by the kind of what is there: the null device is an empty file
abbrev pub shown_by : NodeKind → Look
shown_by kind.Folder = look.Folder
shown_by kind.File = look.File
shown_by (kind.Device number) = if number == null_device then look.File else look.Other
shown_by _ = look.Other

-- what a reply shows, or nothing if memory ran out
abbrev pub looked : Result Node Error → Option Look
looked (Ok node) = Some (shown_by node.kind)
looked (Err error) = look_from (error_kind error)

-- whether something is a symlink
abbrev pub is_link : NodeKind → Bool
is_link kind.Link = true
is_link _ = false

-- what a step shows, by the kind and the identity of what is there and is no symlink: the null device is a file
abbrev pub step_by : NodeKind → Identity → Step
step_by kind.Folder identity = step.Folder
step_by kind.File identity = step.File identity
step_by (kind.Device number) identity = if number == null_device then step.File identity else step.NoWay look.Other
step_by _ identity = step.NoWay look.Other

-- what a step shows where there is no symlink
abbrev pub step_of : Node → Step
step_of node = step_by node.kind (record { device = node.file_system; number = node.number })

-- whether a step that shows this shows the file with an identity
abbrev pub shows_own : Step → Identity → Bool
shows_own (step.File own) identity = same_identity own identity
shows_own _ identity = false

-- whether what was opened is the file with an identity
abbrev pub is_own : Node → Identity → Bool
is_own node identity = shows_own (step_of node) identity

-- whether something is a folder
abbrev pub is_folder_kind : NodeKind → Bool
is_folder_kind kind.Folder = true
is_folder_kind _ = false

-- whether a reply shows a folder: what can't be looked at is none; or memory ran out
abbrev pub seen_folder : Result Node Error → Result Bool DiskFault
seen_folder (Ok node) = Ok (is_folder_kind node.kind)
seen_folder (Err error) = unseen_folder (error_kind error)

-- a look before anything is opened shows this
abbrev pub IsSeen : (Reply → Type 0) → Text → Look → Type 0
IsSeen may path shown = (reply : Result Node Error) × may (Shown path reply) × (looked reply ≡ Some shown)

-- what was opened shows this
abbrev pub IsTried : (Reply → Type 0) → Text → Look → Type 0
IsTried may path shown = (reply : Result Node Error) × may (Opened path reply) × (looked reply ≡ Some shown)

-- A look shows this: folders and files are opened, and nothing else.
abbrev pub IsLook : (Reply → Type 0) → Text → Look → Type 0
IsLook may path shown = (seen : Look) × IsSeen may path seen × MatchBool (is_opened seen) (IsTried may path shown) (shown ≡ seen)

-- a step shows this at a symlink, by where it leads
abbrev pub IsLinkTo : Result Text Error → Step → Type 0
IsLinkTo (Ok target) shown = LinksTo target shown
IsLinkTo (Err error) shown = step_unread (error_kind error) ≡ Some shown

-- a step shows this, by what is there, with no symlink followed at the path's end: where a symlink leads, what else is there, or why
-- that can't be told
abbrev pub IsStepBy : (Reply → Type 0) → Text → Result Node Error → Step → Type 0
IsStepBy may path (Ok node) shown =
    MatchBool (is_link node.kind) ((reply : Result Text Error) × may (Led path reply) × IsLinkTo reply shown) (shown ≡ step_of node)
IsStepBy may path (Err error) shown = (seen : Look) × (look_from (error_kind error) ≡ Some seen) × (shown ≡ step.NoWay seen)

-- a step shows this
abbrev pub IsStep : (Reply → Type 0) → Text → Step → Type 0
IsStep may path shown = (reply : Result Node Error) × may (ShownLast path reply) × IsStepBy may path reply shown

-- The file at a path is read: a look before it is opened shows nothing that would be waited for, and so does the open file.
pub record IsRead (may : Reply → Type 0) (path : Text) : Type 0 where
  pub seen : Look
  pub was_seen : IsSeen may path seen
  pub is_taken : is_refused seen path ≡ false
  pub node : Node
  pub was_opened : may (Opened path (Ok node))
  pub is_kept : is_refused (shown_by node.kind) path ≡ false

-- an entry with this name in the folder at a path, which is a folder if a look at it shows one
pub record IsEntrySeen (may : Reply → Type 0) (folder name : Text) (entry : Entry) : Type 0 where
  pub named_so : string_bytes entry.name ≡ name
  pub reply : Result Node Error
  pub was_seen : may (Shown (folder ++ slash ∷ name) reply)
  pub is_one : seen_folder reply ≡ Ok entry.is_folder

-- The answers of a disk that come from the replies of a system: the entries of a folder are by its names, and a file that is read by its
-- identity is what was opened. Why it does not answer is not said.
abbrev pub MayBySystem : (Reply → Type 0) → Answer → Type 0
MayBySystem may (Listing path entries) = (names : List Text) × may (Named path names) × AllZip (IsEntrySeen may path) names entries
MayBySystem may (NoListing path fault) = ⊤
MayBySystem may (Content path bytes) = IsRead may path
MayBySystem may (NoContent path fault) = ⊤
MayBySystem may (OwnContent path identity bytes) = (node : Node) × may (Opened path (Ok node)) × (is_own node identity ≡ true)
MayBySystem may (NoOwnContent path identity fault) = ⊤
MayBySystem may (Looked path shown) = IsLook may path shown
MayBySystem may (Stepped path shown) = IsStep may path shown
