use Rattle.std.proofs.Common.{◌≡◌, [], map}
use Rattle.text_tables.specs.Pairs.{with_values}
use Rattle.eval_effects.proofs.changes.table_of.Given as goal

abbrev pub invariant-loop-item : goal.invariant-loop-item
invariant-loop-item l = l.table ≡ with_values [] (map (λ r. r.now) l.yielded)
