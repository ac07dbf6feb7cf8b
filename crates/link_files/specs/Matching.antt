-- L5: whether a .link file is for some interface.
use Rattle.std.specs.Prelude.{◌&&◌, ◌||◌, Bool, not, List, [], ◌∷◌, ◌++◌, codes, filter, map, nat_eq, if◌then◌else◌}
use Rattle.std.specs.List.{ends_with, list_any}
use Rattle.text_bytes.specs.Texts.{is_empty}
use Rattle.text_bytes.specs.declared.source_file.SourceFile.{SourceFile}
use Rattle.text_bytes.specs.Text.{Text}
use Rattle.link_files.specs.Files.{is_drop_in, with_drop_ins}
use Rattle.link_files.specs.Lists.{last_of, list_of, match_section}
use Rattle.link_files.specs.declared.settings.Setting.{Setting}
use Rattle.link_files.specs.declared.words.WordKind.{WordKind}
use Rattle.link_files.specs.Faults.{file_faults}
use Rattle.link_files.specs.declared.fault.LinkFault.TheVariants.{NoInterface}
use Rattle.link_files.specs.declared.matching.TheConstants.{LIST_KEYS, OTHER_KEYS}
use Rattle.link_files.specs.declared.placed_fault.PlacedFault.{PlacedFault}

-- whether words are given for one of these keys of [Match]
abbrev pub lists_any : List (WordKind × Text) → List Setting → Bool
lists_any keys settings = list_any (λ row. not (is_empty (list_of row.0 row.1 settings))) keys

-- whether a value is given last for one of these keys of [Match]
abbrev pub gives_any : List Text → List Setting → Bool
gives_any keys settings = list_any (λ key. not (is_empty (last_of match_section key settings))) keys

-- A file can be for an interface only if a key of [Match] is given.
unfoldable pub asks_something : List Setting → Bool
asks_something settings = lists_any (map (λ row. (row.0, row.1.now)) LIST_KEYS) settings || gives_any (map (λ key. key.now) OTHER_KEYS) settings

-- the fault of a file as a whole, at its first line
abbrev pub no_interface : PlacedFault
no_interface = record { line = 1; column = 1; end = 1; fault = NoInterface; word = [] }

-- The same for a .link file which has bytes, as one without masks others: each line of it and of its drop-ins among these
-- files can be read, and none gives a key of [Match].
abbrev pub whole_faults : List SourceFile → SourceFile → List PlacedFault
whole_faults files file =
    let link = with_drop_ins file (filter (is_drop_in file) files) in
    if not (ends_with nat_eq file.name (codes ".link")) || is_empty file.bytes then []
    else if link.is_sound && not (asks_something link.settings) then no_interface ∷ []
    else []

-- what is reported for a file among these
unfoldable pub link_faults : List SourceFile → SourceFile → List PlacedFault
link_faults files file = whole_faults files file ++ file_faults file.bytes
