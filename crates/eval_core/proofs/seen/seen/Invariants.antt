use Rattle.std.proofs.Common.{◌≡◌, ◌++◌, drop, map}
use Rattle.eval_core.specs.Checks.{attribute_seen, seen}
use Rattle.eval_core.proofs.seen.seen.Given as goal

abbrev pub invariant-loop-name : goal.invariant-loop-name
invariant-loop-name l = l.found.items ++ map (attribute_seen l.event.device) (drop l.name-index l.names) ≡ seen l.fn.names l.fn.event
