use Rattle.std.proofs.Common.{map, ap}
use Rattle.std.proofs.lemmas.Result.{err_from_is_err_and}
use Rattle.text_tables.specs.Pairs.{with_value}
use Rattle.text_tables.proofs.Partway.{one_on, stopped}
use Rattle.text_tables.proofs.cow_pairs.CowPairs.lend_all.Goals as goal

pub loop-name-preserved : goal.loop-name-preserved
loop-name-preserved c =
    one_on (λ held pair. with_value held pair.0 pair.1) _ _ _ _ (c.in-Some.name.now.now, c.in-Some.value.now.now) _ _ c.loop-name.invariant
    (ap (map (λ e. (e.0.now, e.1.now))) c.in-Some.ensures.steps) c.in_ok-lend.ensures.pairs

pub returns-in_err-lend-clause-refused : goal.returns-in_err-lend-clause-refused
returns-in_err-lend-clause-refused c =
    let p = err_from_is_err_and c.from_residual-in_err-lend.result c.from_residual-in_err-lend.ensures.1 in
    rw p.1 (stopped (λ held pair. with_value held pair.0 pair.1) _ _ _ _ _ c.loop-name.invariant c.in_err-lend.ensures.refused)
