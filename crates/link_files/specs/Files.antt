-- The .link files, in the order in which they are looked at.
use Rattle.std.specs.Prelude.{ℕ, ◌+◌, ◌/◌, ◌%◌, ◌==◌, ◌||◌, not, nat_lt, Bool, false, List, [], ◌∷◌, ◌++◌, codes, filter, filter_map, flat_map, fold, map}
use Rattle.std.specs.Prelude.{Option, Some, None, option_and_then, if◌then◌else◌}
use Rattle.std.specs.List.{join_with_byte}
use Rattle.std.specs.Option.{option_map_or}
use Rattle.text_bytes.specs.FileOrder.{ordered}
use Rattle.text_bytes.specs.Names.{backslash, colon, dot, slash}
use Rattle.text_bytes.specs.Texts.{begins_with, following, is_empty}
use Rattle.text_bytes.specs.declared.source_file.SourceFile.{SourceFile}
use Rattle.text_bytes.specs.Text.{Text}
use Rattle.link_files.specs.Settings.{ReadingValue, unread, with_file}
use Rattle.link_files.specs.declared.settings.Setting.{Setting}

-- A file by its path, with the paths of its drop-ins; whether each line of all these could be read; and what they set.
pub record LinkFileValue : Type 0 where
  pub path : Text
  pub drop_ins : Text
  pub is_sound : Bool
  pub settings : List Setting

-- the folders, by rank
abbrev pub link_folder : (rank : ℕ) → Text
link_folder rank =
    if rank == 0 then codes "/etc/systemd/network"
    else if rank == 1 then codes "/run/systemd/network"
    else if rank == 2 then codes "/usr/local/lib/systemd/network"
    else codes "/usr/lib/systemd/network"

-- where a file is
abbrev pub path_of : SourceFile → Text
path_of file = link_folder file.rank ++ slash ∷ [] ++ file.name

-- a digit below 16, in small letters
abbrev pub small_digit : ℕ → ℕ
small_digit n = if nat_lt n 10 then 48 + n else 87 + n

-- a byte of a path among others: what is not ASCII, controls, `:` and the backslash in hexadecimal digits
abbrev pub listed_byte : ℕ → Text
listed_byte b =
    if nat_lt b 32 || (nat_lt 126 b || (b == colon || b == backslash))
    then codes "\\x" ++ small_digit (b / 16) ∷ small_digit (b % 16) ∷ []
    else b ∷ []

-- the path of a drop-in among others
unfoldable pub listed_path : SourceFile → Text
listed_path file = flat_map listed_byte (path_of file)

-- a file's drop-ins are in the folder of its name and `.d`; names that begin with a dot are not read
unfoldable pub is_drop_in : SourceFile → SourceFile → Bool
is_drop_in file other = option_map_or (λ name. not (begins_with dot name)) (option_and_then (following (codes ".d/")) (following file.name other.name)) false

-- what files set, one after another
abbrev pub reading_of : ReadingValue → List SourceFile → ReadingValue
reading_of r files = fold (λ held file. with_file held file.bytes) r files

-- whether a file is masked: it has no bytes; and a name that begins with a dot is not read
abbrev pub is_masked : SourceFile → Bool
is_masked file = is_empty file.bytes || begins_with dot file.name

-- a file and its drop-ins; what was set counts if each line could be read, and otherwise nothing is set
abbrev pub with_drop_ins : SourceFile → List SourceFile → LinkFileValue
with_drop_ins file drop_ins =
    let r = reading_of unread (file ∷ drop_ins) in
    record {
      path = path_of file;
      drop_ins = join_with_byte colon (map listed_path drop_ins);
      is_sound = r.is_sound;
      settings = if r.is_sound then r.settings else [];
    }

-- a file with its drop-ins among some files
unfoldable pub link_file : (drop_ins : List SourceFile) → SourceFile → Option LinkFileValue
link_file drop_ins file = if is_masked file then None else Some (with_drop_ins file (filter (is_drop_in file) drop_ins))

-- The files that count: of each name the one in the first folder, by name, unless it is masked; with the drop-ins of all
-- folders, of which also those of one name are only one, by name.
unfoldable pub link_files : (links drop_ins : List SourceFile) → List LinkFileValue
link_files links drop_ins = filter_map (link_file (ordered (codes ".conf") drop_ins)) (ordered (codes ".link") links)
