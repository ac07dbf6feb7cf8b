use Rattle.std.proofs.Common.{subst, sym}
use Rattle.std.proofs.lemmas.Result.{err_from_is_err_and}
use Rattle.trie_build.specs.Sizes.{KeepsBounds}
use Rattle.engine_reports.proofs.Bounding.{never_too_large}
use Rattle.engine_checks.proofs.Checking.{updates_few, updates_refused}
use Rattle.engine_checks.proofs.updates.report_on_database.Goals as goal

pub returns-in_err-database-clause-refused : goal.returns-in_err-database-clause-refused
returns-in_err-database-clause-refused c =
    let p = err_from_is_err_and c.from_residual.result c.from_residual.ensures.1 in
    rw (p.1, p.2, ← c.deref.ensures.value) (updates_refused c.args.line.now c.deref.result.now c.in_err-database.field-0.0 c.in_err-database.ensures.too_many)

pub trie_of-requires-clause-bounds : goal.trie_of-requires-clause-bounds
trie_of-requires-clause-bounds c = subst KeepsBounds (sym c.in_ok-database.ensures.entries) (never_too_large c.deref.result.now c.in_ok-database.ensures.within)

pub returns-clause-said : goal.returns-clause-said
returns-clause-said c =
    let few = updates_few c.args.line.now c.deref.result.now c.in_ok-database.ensures.within in
    rw (← c.deref.ensures.value, few) (rw (c.in_ok-reported.ensures.text, c.in_ok-reported.ensures.count, c.in_ok-trie.ensures, c.in_ok-database.ensures.entries, c.deref-2.ensures.value, ← c.deref.ensures.value) at c.in_ok-report.ensures.said)
