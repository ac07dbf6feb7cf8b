use Rattle.std.proofs.Common.{◌≡◌, ◌++◌}
use Rattle.hwdb_core.specs.Lints.{database_lints, lints_from}
use Rattle.hwdb_core.proofs.file_lints.database_lints.Given as goal

abbrev pub invariant-loop-line : goal.invariant-loop-line
invariant-loop-line l = l.found.items ++ lints_from l.before l.line-iterator ≡ database_lints l.bytes
