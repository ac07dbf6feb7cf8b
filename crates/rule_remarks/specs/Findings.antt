-- All that is reported for a rules file by a profile.
use Rattle.std.specs.Prelude.{List}
use Rattle.text_bytes.specs.declared.profile.Profile.{Profile}
use Rattle.text_bytes.specs.declared.profile.Profile.TheVariants.{Manual, Udev}
use Rattle.text_bytes.specs.declared.source_file.SourceFile.{SourceFile}
use Rattle.file_messages.specs.declared.message.MessageKind.{MessageKind}
use Rattle.rule_remarks.specs.Accounts.{Accounts}
use Rattle.rule_places.specs.Files.{placed_findings}
use Rattle.rule_places.specs.declared.placed_finding.PlacedFinding.{PlacedFinding}
use Rattle.rule_remarks.specs.ByLine.{by_line}
use Rattle.rule_remarks.specs.Rules.{file_remarks}

-- what is reported for a file: by the manual what is found when it is read, by udev also what is reported for the rules that stay
unfoldable pub findings_as : Profile → Accounts → SourceFile → List (PlacedFinding MessageKind)
findings_as Manual accounts f = placed_findings Manual f
findings_as Udev accounts f = by_line (λ p. p.begins) (placed_findings Udev f) (file_remarks accounts f.bytes)
