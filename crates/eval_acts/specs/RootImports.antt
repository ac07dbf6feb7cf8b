-- IMPORT{file} of udev's, by what was found at its path in the root.
use Rattle.std.specs.Prelude.{ℕ, ◌==◌, ◌||◌, nat_le, Bool, true, false, if◌then◌else◌, List, length, filter_map, Option, Some, None}
use Rattle.std.specs.List.{slice_split}
use Rattle.text_bytes.specs.Names.{nul}
use Rattle.text_bytes.specs.Text.{Text}
use Rattle.text_tables.specs.Pairs.{Pair}
use Rattle.builtin_devices.specs.Knowledge.{Known}
use Rattle.builtin_devices.specs.declared.root_files.RootFile.{RootFile}
use Rattle.builtin_devices.specs.declared.root_files.RootFile.TheVariants.{Absent, Read}
use Rattle.rule_types.specs.declared.types.ImportType.TheVariants.{File}
use Rattle.rule_types.specs.Rules.{Rule}
use Rattle.eval_rendering.specs.Pieces.{ends_line}
use Rattle.eval_state.specs.Properties.{properties_set}
use Rattle.eval_state.specs.Scenes.{with_env}
use Rattle.eval_state.specs.declared.scene.Scene.{Scene}
use Rattle.eval_acts.specs.BuiltinRuns.{most_set}
use Rattle.eval_acts.specs.Imports.{not_run}
use Rattle.eval_acts.specs.Printed.{line_property}

-- whether a byte ends a line of a file: a NUL does, too
abbrev pub ends_file_line : ℕ → Bool
ends_file_line b = ends_line b || b == nul

-- the properties that a file gives, in the order of its lines: each line gives what one does that a program prints
unfoldable pub file_properties : Text → List Pair
file_properties text = filter_map line_property (slice_split ends_file_line text)

-- what was found at a path: the properties of a file are set, and it was done; without a file it was not. A file that is too
-- long, or that was not read, leaves a note.
abbrev pub from_found : Rule → Option RootFile → Scene → Scene × Bool
from_found r None s = not_run r File s
from_found r (Some Absent) s = (s, false)
from_found r (Some (Read bytes)) s =
    if nat_le (length bytes) most_set then (with_env (properties_set s.state.env (file_properties bytes)) s, true)
    else not_run r File s

-- IMPORT{file} of a path of udev's
abbrev pub from_file : Known → Rule → Text → Scene → Scene × Bool
from_file known r path s = from_found r (known.file path) s
