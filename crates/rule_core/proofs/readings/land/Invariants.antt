use Rattle.std.proofs.Common.{◌≡◌, ◌++◌, take, drop}
use Rattle.rule_core.specs.Notes.{relanded}
use Rattle.rule_core.proofs.readings.land.Given as goal

abbrev pub invariant-loop-line : goal.invariant-loop-line
invariant-loop-line l = take l.line-index l.line-items ++ relanded (drop l.line-index l.line-items) l.rest ≡ relanded l.fn.landed.items l.landings
