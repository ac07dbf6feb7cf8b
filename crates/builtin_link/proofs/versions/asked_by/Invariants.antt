use Rattle.std.proofs.Common.{◌≡◌, drop, map}
use Rattle.builtin_link.specs.Versions.{asked_by}
use Rattle.builtin_link.proofs.versions.asked_by.Given as goal

abbrev pub invariant-loop-sign : goal.invariant-loop-sign
invariant-loop-sign l = asked_by (map (λ o. (o.0.now, o.1)) (drop l.sign-index l.operators)) l.word ≡ asked_by (map (λ o. (o.0.now, o.1)) l.operators) l.word
