-- The index that a line names, and what is met at its path.
use Rattle.std.specs.Prelude.{◌≡◌, Bool, false, Option, None, Some}
use Rattle.std.specs.List.{AllZip}
use Rattle.std.specs.Option.{option_and_then, option_map_or, option_to_list}
use Rattle.text_bytes.specs.Text.{Text}
use Rattle.devdry_files.specs.Answers.{Answer}
use Rattle.devdry_folders.specs.Meetings.{IsFileMet}
use Rattle.devdry_folders.specs.Unread.{is_file}
use Rattle.devdry_folders.specs.declared.sights.Met.{Met}
use Rattle.devdry_folders.specs.declared.sights.Met.TheVariants as met
use Rattle.devdry_folders.specs.declared.sights.Sight.{Sight}

-- the index at its path, as it is met, if one is named
abbrev pub IsIndexSight : (Answer → Type 0) → Option Text → Option Sight → Type 0
IsIndexSight may named index = AllZip (λ path s. (s.path ≡ path) × IsFileMet may path s.met) (option_to_list named) (option_to_list index)

-- whether an index was read
abbrev pub is_index_read : Option Sight → Bool
is_index_read index = option_map_or (λ s. is_file s.met) index false

-- the bytes of a file that was read
abbrev pub bytes_of : Met → Option Text
bytes_of (met.File bytes) = Some bytes
bytes_of _ = None

-- the bytes of an index, if it was read
abbrev pub index_bytes : Option Sight → Option Text
index_bytes index = option_and_then (λ s. bytes_of s.met) index
