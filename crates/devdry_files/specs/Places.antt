-- The files, the folders and the index that a line asks for.
use Rattle.std.specs.Prelude.{◌≡◌, ◌++◌, ℕ, List, [], ◌∷◌, if◌then◌else◌, map, nat_eq, string_bytes}
use Rattle.std.specs.List.{ends_with, flat_map}
use Rattle.std.specs.Option.{option_copied}
use Rattle.text_bytes.specs.Text.{Text}
use Rattle.engine_sessions.specs.Folders.{folder_path}
use Rattle.engine_sessions.specs.Kinds.{kind_named, kinds_read, reads_folders_of}
use Rattle.engine_sessions.specs.declared.line.Line.{Line}
use Rattle.text_bytes.specs.Kinds.{suffix_of}
use Rattle.text_bytes.specs.declared.source_file.FileKind.{FileKind}
use Rattle.text_bytes.specs.declared.source_file.FileKind.TheVariants.{Hwdb, Rules}
use Rattle.text_bytes.specs.Kernels.{last_component}
use Rattle.devdry_files.specs.declared.places.Folder.{Folder}
use Rattle.devdry_files.specs.declared.places.Wanted.{Wanted}

-- a folder as a place: the kind of its files, its rank and its path
pub record Place : Type 0 where
  pub kind : FileKind
  pub rank : ℕ
  pub path : Text

-- the place of this kind and rank: the folder's path after the text that comes before it
abbrev pub folder_place : FileKind → ℕ → Text → Place
folder_place kind rank root = record { kind = kind; rank = rank; path = root ++ folder_path kind rank }

-- what a contract sees of a folder
abbrev pub place_of : Folder → Place
place_of f = record { kind = f.kind; rank = f.rank; path = string_bytes f.path }

-- the folders of a kind by rank, each after the text that comes before it
abbrev pub folders_of : FileKind → Text → List Place
folders_of Hwdb root = folder_place Hwdb 0 root ∷ folder_place Hwdb 1 root ∷ []
folders_of Rules root = folder_place Rules 0 root ∷ folder_place Rules 1 root ∷ folder_place Rules 2 root ∷ folder_place Rules 3 root ∷ []

-- the folders that a line asks for: those of each kind that its subcommand reads, but none if it names what replaces them
abbrev pub folders_for : Line → List Place
folders_for line = flat_map (λ kind. if reads_folders_of line kind then folders_of kind line.root.now else []) (kinds_read line.verb)

-- the name of a file at a path: what follows the last slash
abbrev pub name_at : Text → Text
name_at path = last_component path

-- what a file that is added to those of the folders holds, by how its path ends: a database, or else rules
abbrev pub kind_added : Text → FileKind
kind_added path = if ends_with nat_eq path (suffix_of Hwdb) then Hwdb else Rules

-- what the line asks for: the files that it names, in their order, what they hold, the files that it adds, in their order, the folders, their
-- root, and the index that it names
pub record Wants (line : Line) (w : Wanted) : Type 0 where
  pub files : map (λ f. f.now) w.files.now ≡ map (λ f. f.now) line.files.items
  pub kind : w.kind ≡ kind_named line.verb
  pub added : map (λ f. f.now) w.added.now ≡ map (λ f. f.now) line.added.items
  pub folders : map place_of w.folders.items ≡ folders_for line
  pub root : w.root.now ≡ line.root.now
  pub index : option_copied w.index ≡ option_copied line.index
