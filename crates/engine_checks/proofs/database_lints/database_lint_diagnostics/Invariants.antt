use Rattle.std.proofs.Common.{◌≡◌, map}
use Rattle.engine_formats.specs.Diagnostics.{shown}
use Rattle.engine_checks.specs.Files.{database_lint_diagnostic}
use Rattle.engine_checks.proofs.database_lints.database_lint_diagnostics.Given as goal

abbrev pub invariant-loop-lint : goal.invariant-loop-lint
invariant-loop-lint l = map shown l.found.items ≡ map (database_lint_diagnostic l.file) l.yielded
