use Rattle.std.proofs.Common.{◌≡◌, take}
use Rattle.rule_core.proofs.notes.landings_of.Given as goal

abbrev pub invariant-loop-given : goal.invariant-loop-given
invariant-loop-given l = l.jumps.items ≡ take l.given-index l.names
