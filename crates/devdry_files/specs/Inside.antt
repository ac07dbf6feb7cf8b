-- What a disk answers about the paths inside a root: what it says of the places that they lead to there.
use Rattle.std.specs.Prelude.{◌≡◌, ◌++◌, ◌∷◌, ◌⊎◌, ◌==◌, ◌&&◌, ◌≢◌, Bool, true, false, List, [], string_bytes}
use Rattle.std.specs.List.{AllZip, list_all}
use Rattle.std.specs.Str.{bytes_eq}
use Rattle.text_bytes.specs.Text.{Text}
use Rattle.text_bytes.specs.Names.{slash}
use Rattle.devdry_files.specs.Answers.{Answer}
use Rattle.devdry_files.specs.Answers.Answer.{Content, Listing, Looked, NoContent, NoListing, NoOwnContent, OwnContent, Stepped}
use Rattle.devdry_files.specs.Walks.{Comes, LeadsOn, Way, is_here, is_up, names_in, place_in}
use Rattle.devdry_files.specs.declared.disk.DiskFault.{DiskFault}
use Rattle.devdry_files.specs.declared.disk.DiskFault.TheVariants.{Absent, OutOfMemory, Unreadable}
use Rattle.devdry_files.specs.declared.disk.Entry.{Entry}
use Rattle.devdry_files.specs.declared.look.Look.{Look}
use Rattle.devdry_files.specs.declared.look.Look.TheVariants as look
use Rattle.devdry_files.specs.declared.step.End.{End}
use Rattle.devdry_files.specs.declared.step.End.TheVariants as end
use Rattle.devdry_files.specs.declared.step.Identity.{Identity}
use Rattle.devdry_files.specs.declared.step.Step.{Step}
use Rattle.devdry_files.specs.declared.step.Step.TheVariants as step

-- the root of the running system: it is empty, or only slashes
abbrev pub is_own_root : Text → Bool
is_own_root root = list_all (λ b. b == slash) root

-- whether a path leads to a folder
abbrev pub is_folder : End → Bool
is_folder end.Folder = true
is_folder _ = false

-- the same entry, which is a folder if its name in a place leads to one
pub record IsEntryIn (may : Answer → Type 0) (root : Text) (way : Way) (own entry : Entry) : Type 0 where
  pub it : End
  pub at : Way
  pub named_so : string_bytes entry.name ≡ string_bytes own.name
  pub leads : LeadsOn may root way (string_bytes own.name ∷ []) it at
  pub is_one : entry.is_folder ≡ is_folder it

-- why what a path leads to can't be read as a file or a folder, if it is none that could
abbrev pub unreadable : End → DiskFault
unreadable (end.NoWay look.Absent) = Absent
unreadable _ = Unreadable

-- both numbers of two identities are the same
abbrev pub same_identity : Identity → Identity → Bool
same_identity one other = one.device == other.device && one.number == other.number

-- what a path leads to is the file with this identity
abbrev pub is_file_with : Identity → End → Bool
is_file_with identity (end.File own) = same_identity own identity
is_file_with identity _ = false

-- this holds for what a path leads to inside a root, and for its place
abbrev pub LedTo : (Answer → Type 0) → Text → Text → (End → Text → Type 0) → Type 0
LedTo may root path Holds = (it : End) × (way : Way) × Comes may root path it way × Holds it (place_in root way)

-- whether a path, once the file with an identity was read, leads to that file
abbrev pub IsStillFile : (Answer → Type 0) → Text → Text → Identity → Bool → Type 0
IsStillFile may root path identity is_still = LedTo may root path (λ it at. is_still ≡ is_file_with identity it)

-- whether a path, once the folder at a place was listed, leads to that folder
abbrev pub IsStillFolder : (Answer → Type 0) → Text → Text → Text → Bool → Type 0
IsStillFolder may root path place is_still = LedTo may root path (λ it at. is_still ≡ (is_folder it && bytes_eq at place))

-- the folder at a way, to which a path still leads once it was listed, has these entries
pub record ListsFolder (may : Answer → Type 0) (root path : Text) (way : Way) (entries : List Entry) : Type 0 where
  pub own : List Entry
  pub listed : may (Listing (place_in root way) own)
  pub still : IsStillFolder may root path (place_in root way) true
  pub each : AllZip (IsEntryIn may root way) own entries

-- why the folder at a place can't be listed, given whether a path still leads to it
abbrev pub ListsNoFolder : (Answer → Type 0) → (Text → Bool → Type 0) → Text → DiskFault → Type 0
ListsNoFolder may Still place fault = may (NoListing place fault) ⊎ ((fault ≡ Unreadable) × Still place false)

-- why what a path leads to can't be listed
abbrev pub ListsNotAt : (Answer → Type 0) → (Text → Bool → Type 0) → Text → End → DiskFault → Type 0
ListsNotAt may Still place end.Folder fault = ListsNoFolder may Still place fault
ListsNotAt may Still place it fault = fault ≡ unreadable it

-- the file with an identity at a place, to which a path still leads once it was read, has these bytes
abbrev pub ReadsFile : (Answer → Type 0) → (Identity → Bool → Type 0) → Text → Identity → Text → Type 0
ReadsFile may Still place identity bytes = may (OwnContent place identity bytes) × Still identity true

-- why the file with an identity at a place can't be read, given whether a path still leads to it
abbrev pub ReadsNoFile : (Answer → Type 0) → (Identity → Bool → Type 0) → Text → Identity → DiskFault → Type 0
ReadsNoFile may Still place identity fault = may (NoOwnContent place identity fault) ⊎ ((fault ≡ Unreadable) × Still identity false)

-- what a path leads to has these bytes
abbrev pub ReadsAt : (Answer → Type 0) → (Identity → Bool → Type 0) → Text → End → Text → Type 0
ReadsAt may Still place (end.File identity) bytes = ReadsFile may Still place identity bytes
ReadsAt may Still place end.Null bytes = bytes ≡ []
ReadsAt may Still place _ bytes = ⊥

-- why what a path leads to can't be read
abbrev pub ReadsNotAt : (Answer → Type 0) → (Identity → Bool → Type 0) → Text → End → DiskFault → Type 0
ReadsNotAt may Still place (end.File identity) fault = ReadsNoFile may Still place identity fault
ReadsNotAt may Still place end.Null fault = ⊥
ReadsNotAt may Still place it fault = fault ≡ unreadable it

-- why what a path leads to can't be read as the file with an identity, given whether it is that
abbrev pub ReadsNotOwn : Bool → (Answer → Type 0) → (Identity → Bool → Type 0) → Text → Identity → DiskFault → Type 0
ReadsNotOwn true may Still place identity fault = ReadsNoFile may Still place identity fault
ReadsNotOwn false may Still place identity fault = fault ≡ Unreadable

-- what a look at what a path leads to shows
abbrev pub LooksAt : (Answer → Type 0) → Text → End → Look → Type 0
LooksAt may place end.Null shown = shown ≡ look.File
LooksAt may place end.OddLink shown = shown ≡ look.Absent
LooksAt may place (end.NoWay other) shown = shown ≡ other
LooksAt may place _ shown = may (Looked place shown)

-- what a step shows at a name in a folder: one that leads to the folder or above it leads to a folder
abbrev pub StepsTo : Bool → Bool → (Answer → Type 0) → Text → Step → Type 0
StepsTo false false may path shown = may (Stepped path shown)
StepsTo _ _ may path shown = shown ≡ step.Folder

-- what a step shows at a name in what a way leads to
abbrev pub StepsAt : (Answer → Type 0) → Text → Way → Text → End → Step → Type 0
StepsAt may root way name end.Folder shown = StepsTo (is_here name) (is_up name) may (place_in root (way ++ name ∷ [])) shown
StepsAt may root way name (end.NoWay other) shown = shown ≡ step.NoWay other
StepsAt may root way name _ shown = shown ≡ step.NoWay look.Other

-- what a step shows at a name after others from the root
abbrev pub StepsPast : (Answer → Type 0) → Text → Way → Text → Step → Type 0
StepsPast may root front name shown = (it : End) × (way : Way) × LeadsOn may root [] front it way × StepsAt may root way name it shown

-- what a step shows at the last name of what follows the root
abbrev pub StepsBelow : (Answer → Type 0) → Text → Text → Step → Type 0
StepsBelow may root rest shown = (front : Way) × (name : Text) × (names_in rest ≡ front ++ name ∷ []) × StepsPast may root front name shown

-- The answers that a disk may give about paths inside a root, given whether that is the root of the running system: then it is asked as it
-- is. All names of a path are followed, but for the last one of a step.
abbrev pub MayBy : Bool → (Answer → Type 0) → Text → Answer → Type 0
MayBy true may root answer = may answer
MayBy false may root (Listing path entries) = (way : Way) × Comes may root path end.Folder way × ListsFolder may root path way entries
MayBy false may root (NoListing path fault) =
    (fault ≡ OutOfMemory) ⊎ LedTo may root path (λ it place. ListsNotAt may (IsStillFolder may root path) place it fault)
MayBy false may root (Content path bytes) = LedTo may root path (λ it place. ReadsAt may (IsStillFile may root path) place it bytes)
MayBy false may root (NoContent path fault) =
    (fault ≡ OutOfMemory) ⊎ LedTo may root path (λ it place. ReadsNotAt may (IsStillFile may root path) place it fault)
MayBy false may root (OwnContent path identity bytes) =
    LedTo may root path (λ it place. (is_file_with identity it ≡ true) × ReadsFile may (IsStillFile may root path) place identity bytes)
MayBy false may root (NoOwnContent path identity fault) =
    (fault ≡ OutOfMemory) ⊎ LedTo may root path (λ it place. ReadsNotOwn (is_file_with identity it) may (IsStillFile may root path) place identity fault)
MayBy false may root (Looked path shown) = LedTo may root path (λ it place. LooksAt may place it shown)
MayBy false may root (Stepped path shown) = ((rest : Text) × (path ≡ root ++ rest) × StepsBelow may root rest shown)
    ⊎ (((rest : Text) → path ≢ root ++ rest) × (shown ≡ step.NoWay look.Absent))

-- the answers that a disk may give about paths inside a root
abbrev pub MayInside : (Answer → Type 0) → Text → Answer → Type 0
MayInside may root answer = MayBy (is_own_root root) may root answer
