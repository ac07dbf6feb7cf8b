use Rattle.std.proofs.Common.{◌≡◌, ◌++◌, drop, map}
use Rattle.engine_courses.specs.Unused.{rules_named}
use Rattle.engine_courses.proofs.unused.lines.rules_named.Given as goal

abbrev pub invariant-loop-path : goal.invariant-loop-path
invariant-loop-path l =
    map (λ n. n.now) l.names.items ++ rules_named (map (λ p. p.now) (drop l.path-index l.paths)) ≡ rules_named (map (λ p. p.now) l.paths)
