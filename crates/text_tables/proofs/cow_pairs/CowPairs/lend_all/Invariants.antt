use Rattle.std.proofs.Common.{map}
use Rattle.text_tables.specs.Pairs.{with_value}
use Rattle.text_tables.proofs.Partway.{Partway}
use Rattle.text_tables.proofs.cow_pairs.CowPairs.lend_all.Given as goal

abbrev pub invariant-loop-name : goal.invariant-loop-name
invariant-loop-name l = Partway (λ held pair. with_value held pair.0 pair.1) l.fn.self l.fn.pairs l.self (map (λ e. (e.0.now, e.1.now)) l.name-iterator)
