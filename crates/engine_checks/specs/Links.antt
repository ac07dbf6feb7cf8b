-- What `verify --links` says about .link files.
use Rattle.std.specs.Prelude.{if◌then◌else◌, List, ◌++◌, flat_map, map}
use Rattle.text_bytes.specs.Lines.{numbered_lines}
use Rattle.text_bytes.specs.declared.source_file.FileKind.TheVariants.{Rules}
use Rattle.text_bytes.specs.declared.source_file.SourceFile.{SourceFile}
use Rattle.text_bytes.specs.Text.{Text}
use Rattle.link_files.specs.Files as links
use Rattle.link_files.specs.Matching.{link_faults}
use Rattle.link_files.specs.declared.placed_fault.PlacedFault.{PlacedFault}
use Rattle.engine_sessions.specs.Delivery.{RunOutcome}
use Rattle.engine_sessions.specs.Kinds.{names_files_of}
use Rattle.engine_sessions.specs.declared.line.Line.{Line}
use Rattle.engine_formats.specs.Diagnostics.{DiagnosticValue}
use Rattle.file_catalogue.specs.declared.remark.Remark.TheVariants as about
use Rattle.engine_checks.specs.Files.{asked_by, ignores_counted}
use Rattle.engine_checks.specs.Outcomes.{checks_said}
use Rattle.engine_checks.specs.Reported.{FileText, diagnostic_in, file_reported}

-- the path of a .link file or of a drop-in: its name if the line names files, and else that in its folder, after the root
abbrev pub link_path : Line → SourceFile → Text
link_path line file = if names_files_of line Rules then file.name else line.root.now ++ links.path_of file

-- such a file, as diagnostics show it
abbrev pub link_text : Line → SourceFile → FileText
link_text line file = record { name = file.name; path = link_path line file; lines = numbered_lines file.bytes }

-- a fault of such a file as a diagnostic
abbrev pub link_diagnostic : FileText → PlacedFault → DiagnosticValue
link_diagnostic file f = diagnostic_in file f.line f.line f.column f.end (about.LinkFault f.fault) f.word

-- what is found in a file among these
abbrev pub links_found : FileText → List SourceFile → SourceFile → List DiagnosticValue
links_found text files file = map (link_diagnostic text) (link_faults files file)

-- what is reported for a file among these, past the codes of `--ignore` and those in its comments, if comments count
unfoldable pub links_reported : Line → List SourceFile → SourceFile → List DiagnosticValue
links_reported line files file =
    file_reported (asked_by line) (link_text line file) (ignores_counted (asked_by line) file) (links_found (link_text line file) files file)

-- what `verify --links` says about these files
unfoldable pub links_outcome : Line → List SourceFile → RunOutcome
links_outcome line files = checks_said line files (flat_map (links_reported line files) files)
