-- The formats that diagnostics can be written in.
use Rattle.std.specs.Prelude.{Bool, true, false, List, flat_map}
use Rattle.text_bytes.specs.Text.{Text}
use Rattle.engine_sessions.specs.declared.line.Format.{Format}
use Rattle.engine_sessions.specs.declared.line.Format.TheVariants.{Plain, Gcc, Github, Gitlab, Json, Sarif, Human, HumanInColor}
use Rattle.file_catalogue.specs.Catalogue.{remarks}
use Rattle.engine_formats.specs.Diagnostics.{DiagnosticValue}
use Rattle.engine_formats.specs.Github.{github_line}
use Rattle.engine_formats.specs.Human.{human_lines}
use Rattle.engine_formats.specs.Json.{gitlab_report, json_line}
use Rattle.engine_formats.specs.Lines.{gcc_line, plain_line}
use Rattle.engine_formats.specs.Sarif.{sarif_log}

-- diagnostics in a format, in their order: lines for each, or one report for all
abbrev pub formatted : Format → List DiagnosticValue → Text
formatted Plain diagnostics = flat_map plain_line diagnostics
formatted Gcc diagnostics = flat_map gcc_line diagnostics
formatted Github diagnostics = flat_map github_line diagnostics
formatted Gitlab diagnostics = gitlab_report diagnostics
formatted Json diagnostics = flat_map json_line diagnostics
formatted Sarif diagnostics = sarif_log remarks diagnostics
formatted Human diagnostics = flat_map (human_lines false) diagnostics
formatted HumanInColor diagnostics = flat_map (human_lines true) diagnostics

-- whether a format is a report for programs, which alone goes to the standard output; the others are messages
abbrev pub is_report : Format → Bool
is_report Gitlab = true
is_report Json = true
is_report Sarif = true
is_report _ = false
