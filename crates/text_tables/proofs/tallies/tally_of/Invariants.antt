use Rattle.std.proofs.Common.{map, take}
use Rattle.text_tables.specs.Tallies.{Tallies}
use Rattle.text_tables.proofs.tallies.tally_of.Given as goal

abbrev pub invariant-loop-text : goal.invariant-loop-text
invariant-loop-text l = Tallies l.tally (map (λ l. l.0.now) (take l.text-index l.lines))
