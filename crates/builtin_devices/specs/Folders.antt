-- Serves inner proofs only: the files that a block describes, put together by the folders of the devices.
use Rattle.std.specs.Prelude.{◌-◌, Vec, List, [], ◌∷◌, ◌++◌, Option, Some, None, filter_map, option_map, map, length, take, nat_eq, if◌then◌else◌}
use Rattle.std.specs.Borrow.{Bor}
use Rattle.std.specs.List.{ends_with}
use Rattle.std.specs.Option.{option_and_then}
use Rattle.indexmap.specs.IndexMap.{IndexMap}
use Rattle.text_bytes.specs.Text.{Text}
use Rattle.text_tables.specs.Pairs.{Pair, value_of, with_values}
use Rattle.device_core.specs.Values.{DeviceValue, described}
use Rattle.builtin_devices.specs.Files.{file_below, subsystem_file}

-- the path of the device whose subsystem the file with a path gives
abbrev pub described_path : (path : Text) → Option Text
described_path path = if ends_with nat_eq path subsystem_file then Some (take (length path - length subsystem_file) path) else None

-- the paths of the devices whose subsystems files give
abbrev pub described_paths : List Pair → List Text
described_paths files = filter_map (λ file. described_path file.0) files

-- files that are borrowed
abbrev pub file_of : Bor Text × Bor Text → Pair
file_of file = (file.0.now, file.1.now)

-- the files that a map has for a folder
abbrev pub files_in : {S A : Type 0} → IndexMap (Bor Text) (Vec (Bor Text × Bor Text) A) S → (folder : Text) → Option (List Pair)
files_in folders folder = value_of (map (λ e. (e.0.now, map file_of e.1.items)) folders.entries) folder

-- a folder's files and one more
abbrev pub with_file : Pair → Option (List Pair) → Option (List Pair)
with_file file held = option_map (λ files. files ++ file ∷ []) held

-- a folder's files and those of some others that are below the folder
abbrev pub with_files : (folder : Text) → List Pair → Option (List Pair) → Option (List Pair)
with_files folder more held = option_map (λ files. files ++ filter_map (file_below folder) more) held

-- the device whose subsystem a file gives, with the files that there are for its folder
abbrev pub device_in : (Text → Option (List Pair)) → Pair → Option DeviceValue
device_in files file =
    option_and_then (λ folder. option_map (λ own. described folder file.1 (with_values [] own)) (files folder)) (described_path file.0)
