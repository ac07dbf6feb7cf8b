use Rattle.std.proofs.Common.{◌≡◌, map, take}
use Rattle.rule_core.specs.Notes.{nowhere}
use Rattle.rule_core.specs.Rules.{reading_of}
use Rattle.rule_core.proofs.readings.readings_of.Given as goal

abbrev pub invariant-loop-line : goal.invariant-loop-line
invariant-loop-line l = l.landed.items ≡ map (λ r. (r, nowhere)) (map (reading_of l.profile) (take l.line-index l.lines))
