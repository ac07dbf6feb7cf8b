-- The files and the index that were read, as they come from the answers that a disk may give.
use Rattle.std.specs.Prelude.{◌≡◌, ◌++◌, ◌∷◌, ◌⊎◌, ◌&&◌, ℕ, Bool, IsPermutation, IsSorted, List, [], Option, String, filter, flat_map, map, nat_eq, not}
use Rattle.std.specs.Prelude.{string_bytes}
use Rattle.std.specs.List.{AllZip, ends_with}
use Rattle.std.specs.Option.{option_copied, option_to_list}
use Rattle.std.specs.String.{string_cmp}
use Rattle.std.specs.declared.alloc.Global.{Global}
use Rattle.text_bytes.specs.Text.{Text}
use Rattle.text_bytes.specs.Kinds.{suffix_of}
use Rattle.text_bytes.specs.Names.{slash}
use Rattle.text_bytes.specs.declared.source_file.FileKind.{FileKind}
use Rattle.text_bytes.specs.declared.source_file.SourceFile.{SourceFile}
use Rattle.devdry_files.specs.Answers.{Answer}
use Rattle.devdry_files.specs.Answers.Answer.{Content, Listing, NoListing}
use Rattle.devdry_files.specs.Inside.{MayInside}
use Rattle.devdry_files.specs.Places.{kind_added, name_at}
use Rattle.devdry_files.specs.declared.disk.DiskFault.TheVariants.{Absent}
use Rattle.devdry_files.specs.declared.disk.Entry.{Entry}
use Rattle.devdry_files.specs.declared.places.Folder.{Folder}
use Rattle.devdry_files.specs.declared.places.Wanted.{Wanted}

-- whether an entry of a folder is a file of the kind: its name ends in the kind's suffix, and it is not a folder
abbrev pub counts : FileKind → Entry → Bool
counts kind e = ends_with nat_eq (string_bytes e.name) (suffix_of kind) && not e.is_folder

-- the path of a name in a folder
abbrev pub path_in : Folder → Text → Text
path_in folder name = string_bytes folder.path ++ slash ∷ name

-- the entries at the path are these as the disk may list them, or none if it may say that nothing is there
abbrev pub IsListing : (Answer → Type 0) → Text → List Entry → Type 0
IsListing may path entries = may (Listing path entries) ⊎ (may (NoListing path Absent) × (entries ≡ []))

-- the names of a folder's files of its kind: in one listing all entries that count, each once, by name
pub record AreNamesIn (may : Answer → Type 0) (folder : Folder) (names : List (String Global)) : Type 0 where
  pub entries : List Entry
  pub listed : IsListing may (string_bytes folder.path) entries
  pub once : IsPermutation (map (λ e. e.name) (filter (counts folder.kind) entries)) names
  pub rise : IsSorted string_cmp names

-- a file of this kind, rank and name, with the bytes that the disk may say are at the path
abbrev pub IsFileAt : (Answer → Type 0) → FileKind → ℕ → Text → Text → SourceFile → Type 0
IsFileAt may kind rank path name file =
    (file ≡ record file { kind = kind; rank = rank; name = name }) × may (Content path file.bytes)

-- files with these names, of one kind and rank, each with the bytes at the path of its name
abbrev pub AreFilesAt : (Answer → Type 0) → FileKind → ℕ → (Text → Text) → List Text → List SourceFile → Type 0
AreFilesAt may kind rank path_of names files = AllZip (λ name. IsFileAt may kind rank (path_of name) name) names files

-- the files of a folder: one for each of its names, in their order, with the bytes at that name in it
abbrev pub AreInFolder : (Answer → Type 0) → Folder → List SourceFile → Type 0
AreInFolder may folder files = (names : List (String Global)) × AreNamesIn may folder names
    × AreFilesAt may folder.kind folder.rank (path_in folder) (map string_bytes names) files

-- the files of the folders, one folder after another
abbrev pub AreInFolders : (Answer → Type 0) → List Folder → List SourceFile → Type 0
AreInFolders may folders files =
    (parts : List (List SourceFile)) × AllZip (AreInFolder may) folders parts × (files ≡ flat_map (λ part. part) parts)

-- the named files, in their order: of rank 0, with the bytes at the path that is the name
abbrev pub AreNamed : (Answer → Type 0) → FileKind → List Text → List SourceFile → Type 0
AreNamed may kind paths files = AreFilesAt may kind 0 (λ path. path) paths files

-- the files that are added, in their order: each of the kind that its path shows, of the rank of the first folder, under the name that its
-- path ends in, and with the bytes at the path
abbrev pub AreAdded : (Answer → Type 0) → List Text → List SourceFile → Type 0
AreAdded may paths files = AllZip (λ path. IsFileAt may (kind_added path) 0 path (name_at path)) paths files

-- the files that are wanted and not named: those that are added, and then those of the folders, inside their root
abbrev pub AreUnnamed : (Answer → Type 0) → Wanted → List SourceFile → Type 0
AreUnnamed may w files = (added found : List SourceFile) × AreAdded may (map (λ f. f.now) w.added.now) added
    × AreInFolders (MayInside may w.root.now) w.folders.items found × (files ≡ added ++ found)

-- the files that are wanted: those that are named, and then the others
abbrev pub AreWanted : (Answer → Type 0) → Wanted → List SourceFile → Type 0
AreWanted may w files = (named unnamed : List SourceFile) × AreNamed may w.kind (map (λ f. f.now) w.files.now) named
    × AreUnnamed may w unnamed × (files ≡ named ++ unnamed)

-- the bytes of the index that is wanted, as the disk may say they are at its path, and none if none is wanted
abbrev pub IsIndexWanted : (Answer → Type 0) → Wanted → Option Text → Type 0
IsIndexWanted may w index = AllZip (λ path bytes. may (Content path bytes)) (option_to_list (option_copied w.index)) (option_to_list index)
