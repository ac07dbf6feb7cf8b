-- Serves inner proofs only: what is found in the lines of a rules file, which are read once.
use Rattle.std.specs.Prelude.{ℕ, ◌||◌, if◌then◌else◌, List, [], Option}
use Rattle.text_bytes.specs.declared.profile.Profile.{Profile}
use Rattle.text_bytes.specs.declared.profile.Profile.TheVariants.{Manual, Udev}
use Rattle.text_bytes.specs.Text.{Text}
use Rattle.file_messages.specs.declared.message.MessageKind.{MessageKind}
use Rattle.rule_lints.specs.declared.lint.Lint.{Lint}
use Rattle.rule_types.specs.declared.jumps.Landing.{Landing}
use Rattle.rule_core.specs.Rules.{Reading}
use Rattle.rule_remarks.specs.Accounts.{Accounts}
use Rattle.rule_places.specs.Files.{placed_lines}
use Rattle.rule_places.specs.declared.kept.KeptLine.{KeptLine}
use Rattle.rule_places.specs.declared.placed_finding.PlacedFinding.{PlacedFinding}
use Rattle.rule_file_lints.specs.FileLints.{lints_of_lines}
use Rattle.rule_remarks.specs.ByLine.{by_line}
use Rattle.rule_remarks.specs.Rules.{remarks_from}
use Rattle.engine_formats.specs.Diagnostics.{DiagnosticValue}
use Rattle.engine_checks.specs.Codes.{has_comments}
use Rattle.engine_checks.specs.Files.{found_with}
use Rattle.engine_checks.specs.Reported.{Asked, FileText}

-- what udev reports about the rules that stay
abbrev pub read_remarks : Profile → Accounts → List KeptLine → List (Reading × Landing) → List (PlacedFinding MessageKind)
read_remarks Manual accounts kept lines = []
read_remarks Udev accounts kept lines = remarks_from accounts kept 0 lines

-- the findings, with what udev reports about the rules that stay merged in
abbrev pub read_findings : Profile → Accounts → List KeptLine → List (Reading × Landing) → Option ℕ → List (PlacedFinding MessageKind)
read_findings profile accounts kept lines open_at = by_line (λ p. p.begins) (placed_lines kept lines open_at) (read_remarks profile accounts kept lines)

-- the lints, if they are asked for or comments count
abbrev pub read_lints : Asked → Text → List KeptLine → List (Reading × Landing) → List (PlacedFinding Lint)
read_lints asked name kept lines = if asked.lint || has_comments asked.ignored then lints_of_lines asked.profile name kept lines else []

-- all that is found in the lines of a file with a name, of which one may be open at the end
abbrev pub read_found : Asked → Text → FileText → List KeptLine → List (Reading × Landing) → Option ℕ → List DiagnosticValue
read_found asked name file kept lines open_at =
    found_with file (read_findings asked.profile asked.accounts kept lines open_at) (read_lints asked name kept lines)
