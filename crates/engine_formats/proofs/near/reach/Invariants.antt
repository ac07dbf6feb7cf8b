use Rattle.std.proofs.Common.{◌≡◌, drop, map}
use Rattle.engine_formats.specs.Near.{reach}
use Rattle.engine_formats.proofs.near.reach.Given as goal

abbrev pub invariant-loop-name : goal.invariant-loop-name
invariant-loop-name l = reach l.least (map (λ name. name.now) (drop l.name-index l.names)) l.word ≡ reach l.most (map (λ name. name.now) l.names) l.word
