use Rattle.std.proofs.Common.{◌≡◌, ◌++◌, take}
use Rattle.devdry_links.specs.Naming.{paths_of}
use Rattle.devdry_links.proofs.naming.push_paths_of.Given as goal

abbrev pub invariant-loop-rule : goal.invariant-loop-rule
invariant-loop-rule l = l.paths.items ≡ l.initial.paths.items ++ paths_of (take l.rule-index l.rules)
