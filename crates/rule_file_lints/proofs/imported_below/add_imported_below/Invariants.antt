use Rattle.std.proofs.Common.{◌≡◌, ◌++◌, take}
use Rattle.std.specs.List.{flat_map}
use Rattle.rule_file_lints.specs.Imported.{imported_below}
use Rattle.rule_file_lints.proofs.imported_below.add_imported_below.Given as goal

abbrev pub invariant-loop-token : goal.invariant-loop-token
invariant-loop-token l = l.spots.items ≡ l.initial.spots.items ++ flat_map (imported_below l.imported l.given) (take l.token-index l.tokens)
