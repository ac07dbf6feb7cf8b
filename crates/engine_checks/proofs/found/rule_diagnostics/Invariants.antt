use Rattle.std.proofs.Common.{◌≡◌, map}
use Rattle.engine_formats.specs.Diagnostics.{shown}
use Rattle.engine_checks.specs.Files.{rule_diagnostic}
use Rattle.engine_checks.proofs.found.rule_diagnostics.Given as goal

abbrev pub invariant-loop-finding : goal.invariant-loop-finding
invariant-loop-finding l = map shown l.found.items ≡ map (rule_diagnostic l.file) l.yielded
