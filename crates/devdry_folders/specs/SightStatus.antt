-- Which files of the folders count, as reported line by line.
use Rattle.std.specs.Prelude.{◌≡◌, ◌++◌, ◌∷◌, ◌==◌, ◌&&◌, IsPermutation, IsSortedByKey, List, []}
use Rattle.std.specs.Prelude.{None, Option, Some, codes, find, flat_map, if◌then◌else◌, length}
use Rattle.std.specs.List.Sorted.{IsStableByKey}
use Rattle.text_bytes.specs.Text.{Text}
use Rattle.text_bytes.specs.Escapes.{escape_text}
use Rattle.text_bytes.specs.Insertion.{text_order}
use Rattle.text_bytes.specs.Kinds.{suffix_of}
use Rattle.text_bytes.specs.Names.{newline}
use Rattle.text_bytes.specs.declared.source_file.FileKind.{FileKind}
use Rattle.text_bytes.specs.declared.source_file.FileKind.TheVariants.{Hwdb, Rules}
use Rattle.text_tables.specs.Texts.{same_text}
use Rattle.engine_sessions.specs.Kinds.{same_kind}
use Rattle.devdry_folders.specs.Reasons.{reason_text}
use Rattle.devdry_folders.specs.Unread.{is_file}
use Rattle.devdry_folders.specs.declared.sights.Met.{Met}
use Rattle.devdry_folders.specs.declared.sights.Met.TheVariants as met
use Rattle.devdry_folders.specs.declared.sights.Sight.{Sight}
use Rattle.devdry_folders.specs.declared.sights.Visit.{Visit}

-- the sights of a kind, folder by folder
abbrev pub sights_of : FileKind → List Visit → List Sight
sights_of kind visits = flat_map (λ v. if same_kind kind v.kind then v.scan.sights.items else []) visits

-- these sights by name, byte by byte, and those with the same name as they came, that is, in the order of their
-- folders
pub record AreByName (sights sorted : List Sight) : Type 0 where
  pub same : IsPermutation sights sorted
  pub rise : IsSortedByKey (λ s. s.name) text_order sorted
  pub stable : IsStableByKey (λ s. s.name) text_order sights sorted

-- of the files with a name the one that counts: the first
abbrev pub counting : List Sight → Text → Option Sight
counting sights name = find (λ s. is_file s.met && same_text name s.name) sights

-- whether a file that counts is used: an empty one, such as the null device, masks those of its name
abbrev pub use_text : Text → Text
use_text bytes = if length bytes == 0 then codes "masked" else codes "used"

-- what is reported for a file at a path, by the file of its name that counts
abbrev pub file_text : Text → Text → Option Sight → Text
file_text path bytes None = use_text bytes
file_text path bytes (Some first) = if same_text path first.path then use_text bytes else codes "hidden by " ++ escape_text first.path

-- what is reported for what was met at a path, by the file of its name that counts
abbrev pub sight_status : FileKind → Text → Option Sight → Met → Text
sight_status kind path first (met.File bytes) = file_text path bytes first
sight_status kind path first met.OtherName = codes "passed over: name does not end in " ++ suffix_of kind
sight_status kind path first met.Folder = codes "passed over: a folder"
sight_status kind path first (met.Unread reason) = codes "passed over: " ++ reason_text reason

-- the line on a sight among those of its kind
abbrev pub status_line : FileKind → List Sight → Sight → Text
status_line kind sights s = escape_text s.path ++ codes ": " ++ sight_status kind s.path (counting sights s.name) s.met ++ newline ∷ []

-- the lines on all sights of a kind, which are by name
abbrev pub status_lines : FileKind → List Sight → Text
status_lines kind sights = flat_map (status_line kind sights) sights

-- the lines on the rules by name, and after them those on the database
pub record AreListed (visits : List Visit) (lines : Text) : Type 0 where
  pub rules : List Sight
  pub database : List Sight
  pub rules_are : AreByName (sights_of Rules visits) rules
  pub database_is : AreByName (sights_of Hwdb visits) database
  pub lines_are : lines ≡ status_lines Rules rules ++ status_lines Hwdb database
