use Rattle.std.proofs.Common.{◌≡◌, drop, map}
use Rattle.std.specs.Prelude.{find}
use Rattle.builtin_path.specs.Members.{begins}
use Rattle.builtin_path.proofs.table.first_begun.Given as goal

abbrev pub invariant-loop-start : goal.invariant-loop-start
invariant-loop-start l =
    find (λ start. begins start l.name) (map (λ t. t.now) (drop l.start-index l.starts)) ≡ find (λ start. begins start l.name) (map (λ t. t.now) l.starts)
