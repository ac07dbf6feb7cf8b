use Rattle.std.proofs.Common.{◌≡◌, ◌++◌, false, drop}
use Rattle.rule_file_lints.specs.Beside.{imported_beside}
use Rattle.rule_file_lints.proofs.imported_below.add_imported_beside.Given as goal

abbrev pub invariant-loop-token : goal.invariant-loop-token
invariant-loop-token l = l.spots.items ++ imported_beside l.given l.imported (drop l.token-index l.tokens) ≡ l.initial.spots.items ++ imported_beside l.given false l.tokens
