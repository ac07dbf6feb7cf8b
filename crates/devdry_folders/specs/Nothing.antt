-- What is reported if no file was read at all.
use Rattle.std.specs.Prelude.{◌≡◌, ◌++◌, ◌∷◌, ◌⊎◌, ◌==◌, All, Bool, true, false, List, [], Option}
use Rattle.std.specs.Prelude.{codes, decimal, filter, flat_map, if◌then◌else◌, is_some, length, map}
use Rattle.std.specs.List.{count_by, list_any}
use Rattle.text_bytes.specs.Text.{Text}
use Rattle.text_bytes.specs.Escapes.{escape_text}
use Rattle.text_bytes.specs.Kinds.{suffix_of}
use Rattle.text_bytes.specs.Names.{newline}
use Rattle.text_bytes.specs.declared.source_file.FileKind.{FileKind}
use Rattle.text_bytes.specs.declared.source_file.FileKind.TheVariants.{Hwdb, Rules}
use Rattle.engine_sessions.specs.Kinds.{reads_folders_of}
use Rattle.engine_sessions.specs.declared.line.Line.{Line}
use Rattle.devdry_files.specs.Answers.{Answer}
use Rattle.devdry_files.specs.Answers.Answer.{Listing, NoListing}
use Rattle.devdry_files.specs.Found.{counts}
use Rattle.devdry_files.specs.declared.disk.DiskFault.TheVariants.{Absent, Unreadable, NotUtf8}
use Rattle.devdry_files.specs.declared.disk.Entry.{Entry}
use Rattle.devdry_folders.specs.Meetings.{IsLinkAt}
use Rattle.devdry_folders.specs.Unread.{is_one_of, reason_met}
use Rattle.devdry_folders.specs.declared.elsewhere.Elsewhere.{Elsewhere}
use Rattle.devdry_folders.specs.declared.sights.Sight.{Sight}
use Rattle.devdry_folders.specs.declared.sights.Spot.{Spot}
use Rattle.devdry_folders.specs.declared.sights.Spot.TheVariants as spot
use Rattle.devdry_folders.specs.declared.sights.Visit.{Visit}

-- a line on a place
abbrev pub line_on : Text → Text → Text
line_on path text = codes "devdry: " ++ escape_text path ++ text ++ newline ∷ []

-- whether one of the sights can't be read
abbrev pub has_unread : List Sight → Bool
has_unread sights = list_any (λ s. is_some (reason_met s.met)) sights

-- why a folder gave no file, if nothing in it has been reported yet
abbrev pub why_no_file : FileKind → List Sight → Text
why_no_file kind sights = if length sights == 0 then codes ": empty" else codes ": has no " ++ suffix_of kind ++ codes " files"

-- the line on a folder that was looked at, unless it or a file in it is reported as one that can't be read
abbrev pub folder_line : FileKind → Text → Spot → List Sight → Text
folder_line kind path spot.Absent sights = line_on path (codes ": absent")
folder_line kind path spot.Folder sights = if has_unread sights then [] else line_on path (why_no_file kind sights)
folder_line kind path _ sights = []

-- the line on what was visited, if files of one of these kinds were looked for there
abbrev pub line_on_place : List FileKind → Visit → Text
line_on_place kinds v = if is_one_of kinds v.kind then folder_line v.kind v.path v.scan.spot v.scan.sights.items else []

-- where an image whose `/lib` is not a link to `/usr/lib` keeps the files of a kind
abbrev pub unmerged_folder : FileKind → Text
unmerged_folder Hwdb = codes "/lib/udev/hwdb.d"
unmerged_folder Rules = codes "/lib/udev/rules.d"

-- the line on files that are where none is read, if there are any
abbrev pub line_elsewhere : Elsewhere → Text
line_elsewhere e =
    if e.count == 0 then []
    else if e.count == 1 then line_on e.path (codes " has 1 file")
    else line_on e.path (codes " has " ++ decimal e.count ++ codes " files")

-- all that is reported if no file of these kinds was read
abbrev pub nothing_lines : List FileKind → List Visit → List Elsewhere → Text
nothing_lines kinds visits others =
    codes "devdry: no files\n" ++ flat_map (line_on_place kinds) visits ++ flat_map line_elsewhere others

-- the entries of the folder at the path, as the disk may list it, and none if it may not
abbrev pub AreEntries : (Answer → Type 0) → (path : Text) → List Entry → Type 0
AreEntries may path entries =
    may (Listing path entries) ⊎ ((entries ≡ []) × (may (NoListing path Absent) ⊎ (may (NoListing path Unreadable) ⊎ may (NoListing path NotUtf8))))

-- the folder of a kind that is not read, after a root, with the files of the kind in it
pub record IsElsewhere (may : Answer → Type 0) (root : Text) (e : Elsewhere) : Type 0 where
  pub path_is : e.path ≡ root ++ unmerged_folder e.kind
  pub entries : List Entry
  pub are_entries : AreEntries may e.path entries
  pub count_is : e.count ≡ count_by (counts e.kind) entries

-- such a folder for each of these kinds
pub record AreElsewhereOf (may : Answer → Type 0) (root : Text) (kinds : List FileKind) (others : List Elsewhere) : Type 0 where
  pub kinds_are : map (λ e. e.kind) others ≡ kinds
  pub each : All (IsElsewhere may root) others

-- such a folder for each of these kinds whose folders the line reads; but none if there is a symlink at `/lib`, since
-- the files below it are those of the folder that it leads to
abbrev pub AreElsewhereBy : (Answer → Type 0) → Line → List FileKind → Bool → List Elsewhere → Type 0
AreElsewhereBy may line kinds false others = AreElsewhereOf may line.root.now (filter (reads_folders_of line) kinds) others
AreElsewhereBy may line kinds true others = others ≡ []

-- the same, by the symlink that the disk may show at `/lib` after the root
pub record AreElsewhere (may : Answer → Type 0) (line : Line) (kinds : List FileKind) (others : List Elsewhere) : Type 0 where
  pub link : Option Text
  pub is_link : IsLinkAt may (line.root.now ++ codes "/lib") link
  pub are : AreElsewhereBy may line kinds (is_some link) others
