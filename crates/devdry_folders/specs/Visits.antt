-- The folders and files that a line asks for, and the outcome of each visit, as it comes from the answers that a disk
-- may give.
use Rattle.std.specs.Prelude.{◌≡◌, ◌++◌, ◌∷◌, ◌⊎◌, All, true, false, IsPermutation, IsSorted, List, []}
use Rattle.std.specs.Prelude.{None, Option, Some, String, if◌then◌else◌, map, nat_eq, string_bytes}
use Rattle.std.specs.List.{ends_with}
use Rattle.std.specs.String.{string_cmp}
use Rattle.std.specs.declared.alloc.Global.{Global}
use Rattle.text_bytes.specs.Text.{Text}
use Rattle.text_bytes.specs.Kinds.{suffix_of}
use Rattle.text_bytes.specs.Names.{slash}
use Rattle.text_bytes.specs.declared.source_file.FileKind.{FileKind}
use Rattle.engine_sessions.specs.declared.line.Line.{Line}
use Rattle.devdry_files.specs.Answers.{Answer}
use Rattle.devdry_files.specs.Answers.Answer.{Listing, Looked, NoListing}
use Rattle.devdry_files.specs.Inside.{MayInside}
use Rattle.devdry_files.specs.Places.{Place, Wants, kind_added, name_at, place_of}
use Rattle.devdry_files.specs.declared.disk.DiskFault.TheVariants as disk
use Rattle.devdry_files.specs.declared.disk.Entry.{Entry}
use Rattle.devdry_files.specs.declared.look.Look.{Look}
use Rattle.devdry_files.specs.declared.look.Look.TheVariants as looks
use Rattle.devdry_files.specs.declared.places.Wanted.{Wanted}
use Rattle.devdry_folders.specs.Meetings.{IsFileMet, IsLinkAt, IsMet, IsMetBy}
use Rattle.devdry_folders.specs.declared.reasons.Reason.TheVariants as reasons
use Rattle.devdry_folders.specs.declared.sights.Met.{Met}
use Rattle.devdry_folders.specs.declared.sights.Met.TheVariants as met
use Rattle.devdry_folders.specs.declared.sights.Scan.{Scan}
use Rattle.devdry_folders.specs.declared.sights.Sight.{Sight}
use Rattle.devdry_folders.specs.declared.sights.Spot.{Spot}
use Rattle.devdry_folders.specs.declared.sights.Spot.TheVariants as spot
use Rattle.devdry_folders.specs.declared.sights.Visit.{Visit}

-- the path of a name in the folder at a path: one slash is put between them, but none after a slash that ends the folder's path
abbrev pub below : Text → Text → Text
below folder name = if ends_with nat_eq folder (slash ∷ []) then folder ++ name else folder ++ slash ∷ name

-- what is met at a name in a folder of files whose names end in a suffix: a name that does not is not looked at
pub record IsSightIn (may : Answer → Type 0) (suffix folder : Text) (s : Sight) : Type 0 where
  pub path_is : s.path ≡ below folder s.name
  pub of_kind : ends_with nat_eq s.name suffix ≡ true → IsMet may s.path s.met
  pub of_none : ends_with nat_eq s.name suffix ≡ false → s.met ≡ met.OtherName

-- what is met at these names in a folder of files with a suffix, in their order
pub record AreSightsAt (may : Answer → Type 0) (suffix folder : Text) (names : List Text) (sights : List Sight) : Type 0 where
  pub named_so : map (λ s. s.name) sights ≡ names
  pub each : All (IsSightIn may suffix folder) sights

-- what is met in a folder of files with a suffix: one sight for each name in it, sorted byte by byte, as the disk may list it
pub record AreSightsIn (may : Answer → Type 0) (suffix folder : Text) (sights : List Sight) : Type 0 where
  pub entries : List Entry
  pub listed : may (Listing folder entries)
  pub names : List (String Global)
  pub once : IsPermutation (map (λ e. e.name) entries) names
  pub rise : IsSorted string_cmp names
  pub are_sights : AreSightsAt may suffix folder (map string_bytes names) sights

-- a folder is not listed for this, as the disk may say: it is gone, can't be listed, or has a name that is not UTF-8
abbrev pub IsListingFault : (Answer → Type 0) → Text → Spot → Type 0
IsListingFault may path spot.Absent = may (NoListing path disk.Absent)
IsListingFault may path (spot.Unread reasons.Failed) = may (NoListing path disk.Unreadable)
IsListingFault may path (spot.Unread reasons.NotUtf8) = may (NoListing path disk.NotUtf8)
IsListingFault may path _ = ⊥

-- the outcome of listing the folder at a path, with files of a suffix: what is met in it, or why it is not listed
abbrev pub IsListedSo : (Answer → Type 0) → (suffix path : Text) → Scan → Type 0
IsListedSo may suffix path scan = ((scan.spot ≡ spot.Folder) × AreSightsIn may suffix path scan.sights.items)
    ⊎ (IsListingFault may path scan.spot × (scan.sights.items ≡ []))

-- what it means that nothing is at a folder's path, by the symlink there, if there is one: no folder, or a folder
-- that can't be read
abbrev pub missing_folder : Option Text → Spot
missing_folder None = spot.Absent
missing_folder (Some target) = spot.Unread (reasons.LinkToNothing target)

-- what is at a folder's path and is not listed
abbrev pub IsUnlisted : Spot → Scan → Type 0
IsUnlisted it scan = (scan.spot ≡ it) × (scan.sights.items ≡ [])

-- what is at a folder's path, by a look that shows neither a folder nor that nothing is there
abbrev pub spot_by : Look → Spot
spot_by looks.Forbidden = spot.Unread reasons.Forbidden
spot_by looks.Failed = spot.Unread reasons.Failed
spot_by _ = spot.Unread reasons.NotFolder

-- the outcome for a folder that is wanted, by a look; if nothing is there, by the symlink at its path, if there is one
abbrev pub IsScannedBy : (Answer → Type 0) → (suffix path : Text) → Look → Scan → Type 0
IsScannedBy may suffix path looks.Absent scan = (link : Option Text) × IsLinkAt may path link × IsUnlisted (missing_folder link) scan
IsScannedBy may suffix path looks.Folder scan = IsListedSo may suffix path scan
IsScannedBy may suffix path look scan = IsUnlisted (spot_by look) scan

-- the outcome for a folder that is wanted, with files of a suffix
pub record IsFolderScan (may : Answer → Type 0) (suffix path : Text) (scan : Scan) : Type 0 where
  pub look : Look
  pub looked : may (Looked path look)
  pub scanned : IsScannedBy may suffix path look scan

-- a visit of a folder that is wanted
pub record IsFolderVisit (may : Answer → Type 0) (v : Visit) : Type 0 where
  pub unnamed : v.is_named ≡ false
  pub scan : IsFolderScan may (suffix_of v.kind) v.path v.scan

-- the outcome for a file: what is met at its path, under a name
abbrev pub IsOneFile : (name path : Text) → Met → Scan → Type 0
IsOneFile name path it scan = (scan.spot ≡ spot.File) × (scan.sights.items ≡ record { name = name; path = path; met = it } ∷ [])

-- the outcome for what is named, by a look: a folder is listed, and a file is met under its path
abbrev pub IsNamedSo : (Answer → Type 0) → FileKind → Text → Look → Scan → Type 0
IsNamedSo may kind path looks.Folder scan = IsListedSo may (suffix_of kind) path scan
IsNamedSo may kind path look scan = (it : Met) × IsMetBy may path look it × IsOneFile path path it scan

-- a visit of what is named: a file, or a folder whose files of the kind are taken
pub record IsNamedVisit (may : Answer → Type 0) (kind : FileKind) (v : Visit) : Type 0 where
  pub kind_is : v.kind ≡ kind
  pub rank_is : v.rank ≡ 0
  pub named : v.is_named ≡ true
  pub look : Look
  pub looked : may (Looked v.path look)
  pub scanned : IsNamedSo may kind v.path look v.scan

-- a visit of a file that is added: it is of the kind that its path shows, has the rank of the first folder, is not named, and is met
-- under the name that its path ends in
pub record IsAddedVisit (may : Answer → Type 0) (v : Visit) : Type 0 where
  pub kind_is : v.kind ≡ kind_added v.path
  pub rank_is : v.rank ≡ 0
  pub unnamed : v.is_named ≡ false
  pub it : Met
  pub met_so : IsFileMet may v.path it
  pub scan : IsOneFile (name_at v.path) v.path it v.scan

-- a visit as a place: the kind of the files, the rank and the path
abbrev pub place_of_visit : Visit → Place
place_of_visit v = record { kind = v.kind; rank = v.rank; path = v.path }

-- visits of what is named, in its order
pub record AreNamedVisits (may : Answer → Type 0) (kind : FileKind) (paths : List Text) (visits : List Visit) : Type 0 where
  pub named_so : map (λ v. v.path) visits ≡ paths
  pub each : All (IsNamedVisit may kind) visits

-- visits of files that are added, in their order
pub record AreAddedVisits (may : Answer → Type 0) (paths : List Text) (visits : List Visit) : Type 0 where
  pub added_so : map (λ v. v.path) visits ≡ paths
  pub each : All (IsAddedVisit may) visits

-- visits of folders, in their order
pub record AreFolderVisits (may : Answer → Type 0) (places : List Place) (visits : List Visit) : Type 0 where
  pub placed_so : map place_of_visit visits ≡ places
  pub each : All (IsFolderVisit may) visits

-- visits of all that a line asks for: of what is named, then of what is added, and then of the folders, inside their root
pub record AreVisits (may : Answer → Type 0) (line : Line) (visits : List Visit) : Type 0 where
  pub wanted : Wanted
  pub wants : Wants line wanted
  pub named : List Visit
  pub added : List Visit
  pub found : List Visit
  pub cut : visits ≡ (named ++ added) ++ found
  pub are_named : AreNamedVisits may wanted.kind (map (λ f. f.now) wanted.files.now) named
  pub are_added : AreAddedVisits may (map (λ f. f.now) wanted.added.now) added
  pub are_found : AreFolderVisits (MayInside may wanted.root.now) (map place_of wanted.folders.items) found
