use Rattle.std.proofs.Common.{subst, sym}
use Rattle.std.proofs.lemmas.Result.{err_from_is_err_and}
use Rattle.trie_build.specs.Sizes.{KeepsBounds}
use Rattle.engine_reports.proofs.Bounding.{never_too_large}
use Rattle.engine_reports.proofs.Bounds.{database_few, database_refused}
use Rattle.engine_reports.proofs.database.open_database.Goals as goal

pub trie_of-requires-clause-bounds : goal.trie_of-requires-clause-bounds
trie_of-requires-clause-bounds c = subst KeepsBounds (sym c.in_ok-database.ensures.entries) (never_too_large c.deref.result.now c.in_ok-database.ensures.within)

pub returns-in_err-database-clause-none : goal.returns-in_err-database-clause-none
returns-in_err-database-clause-none c =
    let p = err_from_is_err_and c.from_residual-in_err-database.result c.from_residual-in_err-database.ensures.1 in
    rw (p.1, p.2, ← c.in_ok-files.ensures, ← c.deref.ensures.value) (database_refused c.deref.result.now c.in_err-database.field-0.0 c.in_err-database.ensures.too_many)

pub returns-clause-database : goal.returns-clause-database
returns-clause-database c =
    rw (c.in_ok-trie.ensures, c.in_ok-messages.ensures, c.deref-2.ensures.value, c.in_ok-database.ensures.entries, c.in_ok-database.ensures.messages, ← c.in_ok-files.ensures, ← c.deref.ensures.value) (database_few c.deref.result.now c.in_ok-database.ensures.within)
