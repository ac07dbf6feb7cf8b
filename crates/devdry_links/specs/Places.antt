-- The folders in which .link files and their drop-ins are looked for, as systemd.link(5) names them.
use Rattle.std.specs.Prelude.{◌++◌, ◌∷◌, ℕ, List, [], codes, flat_map, if◌then◌else◌, map}
use Rattle.std.specs.Str.Lossy.{utf8_lossy}
use Rattle.text_bytes.specs.Text.{Text}
use Rattle.text_bytes.specs.Names.{slash}
use Rattle.text_bytes.specs.Texts.{is_empty}
use Rattle.text_bytes.specs.declared.source_file.SourceFile.{SourceFile}
use Rattle.link_files.specs.Files.{link_folder}

-- A folder as a place: its rank, how the names of its files end, what comes before these names, and its path.
pub record LinkPlaceValue : Type 0 where
  pub rank : ℕ
  pub suffix : Text
  pub before : Text
  pub path : Text

-- the folder of .link files of this rank, below a root
abbrev pub link_place : (root : Text) → (rank : ℕ) → LinkPlaceValue
link_place root rank = record { rank = rank; suffix = codes ".link"; before = []; path = root ++ link_folder rank }

-- the folder of the drop-ins of a .link file, in the folder of this rank; names are UTF-8, which `utf8_lossy` leaves as it is
abbrev pub drop_in_place : (root name : Text) → (rank : ℕ) → LinkPlaceValue
drop_in_place root name rank = record {
  rank = rank;
  suffix = codes ".conf";
  before = name ++ codes ".d/";
  path = root ++ link_folder rank ++ slash ∷ utf8_lossy name ++ codes ".d";
}

-- the ranks of the four folders
abbrev pub ranks : Text
ranks = 0 ∷ 1 ∷ 2 ∷ 3 ∷ []

-- the folders of .link files
abbrev pub link_places : (root : Text) → List LinkPlaceValue
link_places root = map (link_place root) ranks

-- the folders of a file's drop-ins; a file without bytes masks them
abbrev pub drop_in_places_of : (root : Text) → SourceFile → List LinkPlaceValue
drop_in_places_of root file = if is_empty file.bytes then [] else map (drop_in_place root file.name) ranks

-- the folders of the drop-ins of files
abbrev pub drop_in_places : (root : Text) → List SourceFile → List LinkPlaceValue
drop_in_places root files = flat_map (drop_in_places_of root) files
