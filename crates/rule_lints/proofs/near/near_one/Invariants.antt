use Rattle.std.proofs.Common.{◌≡◌, drop, find, map}
use Rattle.rule_lints.specs.Near.{is_near}
use Rattle.rule_lints.proofs.near.near_one.Given as goal

abbrev pub invariant-loop-known : goal.invariant-loop-known
invariant-loop-known l =
    find (λ known. is_near known l.name) (map (λ known. known.now) (drop l.known-index l.names)) ≡ find (λ known. is_near known l.name) (map (λ known. known.now) l.names)
