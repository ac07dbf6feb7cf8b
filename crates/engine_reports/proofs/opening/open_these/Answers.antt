use Rattle.std.proofs.Common.{subst, sym}
use Rattle.std.proofs.lemmas.Result.{err_from_is_err_and}
use Rattle.trie_build.specs.Sizes.{KeepsBounds}
use Rattle.engine_reports.proofs.Bounding.{never_too_large}
use Rattle.engine_reports.proofs.Bounds.{opening_few, opening_entries_refused}
use Rattle.engine_reports.proofs.opening.open_these.Goals as goal

pub returns-in_err-database-clause-refused : goal.returns-in_err-database-clause-refused
returns-in_err-database-clause-refused c =
    let p = err_from_is_err_and c.from_residual.result c.from_residual.ensures.1 in
    rw (p.1, p.2) (opening_entries_refused c.args.profile c.args.rules.now c.args.database.now c.in_err-database.field-0.0 c.in_err-database.ensures.too_many)

pub returns-in_err-read-clause-refused : goal.returns-in_err-read-clause-refused
returns-in_err-read-clause-refused c =
    let p = err_from_is_err_and c.from_residual-in_err-read.result c.from_residual-in_err-read.ensures.1 in
    rw (p.1, p.2, opening_few c.args.profile c.args.rules.now c.args.database.now c.in_ok-database.ensures.within, ← c.in_ok-database.ensures.entries, ← c.in_ok-database.ensures.messages, ← c.deref.ensures.value) (c.in_err-read.ensures.refused c.in_ok-database.database.entries.items)

pub returns-clause-opening : goal.returns-clause-opening
returns-clause-opening c =
    rw (opening_few c.args.profile c.args.rules.now c.args.database.now c.in_ok-database.ensures.within, ← c.in_ok-database.ensures.entries, ← c.in_ok-database.ensures.messages, ← c.deref.ensures.value) (c.in_ok-read.ensures.opening c.in_ok-database.database.entries.items)

pub returns-clause-bounds : goal.returns-clause-bounds
returns-clause-bounds c = subst KeepsBounds (sym c.in_ok-database.ensures.entries) (never_too_large c.args.database.now c.in_ok-database.ensures.within)
