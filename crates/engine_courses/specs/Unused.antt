-- The lines of `--unused`: the rules that no event met.
use Rattle.std.specs.Prelude.{ℕ, Bool, not, ◌==◌, ◌||◌, nat_eq, max, if◌then◌else◌, List, [], ◌∷◌, ◌++◌, map, filter_map, fold}
use Rattle.std.specs.Prelude.{slice_index_or, Option, Some, None, codes, decimal}
use Rattle.std.specs.List.{ends_with, prefix_len}
use Rattle.text_bytes.specs.Kinds.{suffix_of}
use Rattle.text_bytes.specs.Names.{newline}
use Rattle.text_bytes.specs.Texts.{is_empty}
use Rattle.text_bytes.specs.declared.source_file.FileKind.TheVariants.{Hwdb}
use Rattle.text_bytes.specs.Kernels.{last_component}
use Rattle.text_bytes.specs.Text.{Text}
use Rattle.text_tables.specs.Texts.{is_among}
use Rattle.builtin_devices.specs.Knowledge.{Known}
use Rattle.rule_types.specs.Rules.{Rule}
use Rattle.device_core.specs.Values.{EventValue}
use Rattle.engine_sessions.specs.Places.{place_of}
use Rattle.eval_courses.specs.Fates.{keys_of}
use Rattle.engine_courses.specs.Rows.{Row, counted, unreached}

-- the greatest of counts
unfoldable pub greatest : List ℕ → ℕ
greatest counts = fold max 0 counts

-- how many counts are in front of the first that is as great as this one
abbrev pub first_place : ℕ → List ℕ → ℕ
first_place count counts = prefix_len (λ n. not (n == count)) counts

-- why no event met a rule, by how many reached it and how many each of its keys stopped: the key that stopped most events, and
-- of several the first
unfoldable pub unmet_text : Rule → ℕ → List ℕ → Text
unmet_text r reached stops =
    if reached == 0 then codes "not reached"
    else
    slice_index_or (keys_of r) (first_place (greatest stops) stops) []
    ++ codes " failed "
    ++ decimal (greatest stops)
    ++ codes " of "
    ++ decimal reached

-- the line on a rule that no event met
unfoldable pub line_on : Rule → ℕ → List ℕ → Text
line_on r reached stops = codes "unused " ++ place_of r.file r.line ++ unmet_text r reached stops ++ newline ∷ []

-- the line on a rule, if none of the events that reached it met it
abbrev pub line_if_unmet : Rule → ℕ → List ℕ → Text
line_if_unmet r reached [] = []
line_if_unmet r reached (met ∷ stops) = if met == 0 then line_on r reached stops else []

-- the line on a rule by its counts, if no event met it
abbrev pub unused_line : Rule → Row → Text
unused_line r row = line_if_unmet r row.reached row.ends

-- the names of the rules files among these paths, by how each path ends
abbrev pub rules_named : List Text → List Text
rules_named paths = filter_map (λ path. if ends_with nat_eq path (suffix_of Hwdb) then None else Some (last_component path)) paths

-- whether a rule is reported on: it is of one of the files that are named, or none is
abbrev pub is_reported : List Text → Rule → Bool
is_reported names r = is_empty names || is_among names r.file

-- the line on a rule by its counts, if it is reported on
abbrev pub reported_line : List Text → Rule → Row → Text
reported_line names r row = if is_reported names r then unused_line r row else []

-- the lines on rules by their counts
unfoldable pub lines_by : List Text → List Rule → List Row → Text
lines_by names [] rows = []
lines_by names (r ∷ rs) [] = []
lines_by names (r ∷ rs) (row ∷ rows) = reported_line names r row ++ lines_by names rs rows

-- the lines of `--unused` after some events, by the paths of the files that are added to those of the folders
unfoldable pub unused_lines : List Text → List Rule → Known → List EventValue → Text
unused_lines added rules known events = lines_by (rules_named added) rules (counted rules known (map unreached rules) events)
